-- What a piece is, as laws: a row's part of the line by its two numbers, the piece of a number by the record that has it, and that every
-- part answered lies in its source.
use Prim.Native.Nat.{ℕ, zero, suc, ◌≤◌}
use native.Mathlib.Omega.{arith}
use mathlib.Core.Path.{◌≡◌, refl, sym, ◌∙◌, ap, subst}
use mathlib.Core.Bool.{Bool, true, false, cond, ◌&&◌}
use mathlib.Core.List.{List, [], ◌∷◌}
use lib.Dec.{leb, eqb}
use lib.ListN.{length, drop, length-drop}
use borrow.Author.Tests.{leb-true}
use Rattle.paper.specs.Limits.{pattern_groups, line_bytes, table_numbers}
use Rattle.paper.specs.Refusal.{Checked, refused, accepted, ◌>>=◌, ◌>>◌, holds, template_wrong, line_too_long, table_too_short, row_wrong, no_such_piece}
use Rattle.paper.specs.Rows.{Rows, row_start, row_end}
use Rattle.paper.specs.Match.{line_and_table}
use Rattle.paper.specs.Check.{number_at, body_length, kind_at, body_start, body_end}
use Rattle.paper.specs.Template.{Piece, literal, reference, literal_kind, reference_kind, piece_at, template_of}
use Rattle.paper.specs.PieceCalls.{Span, from_template, from_line, is_absent, row_span, span_of, span_at, piece_call}
use Rattle.template.specs.declared.Record.{Record}
use Rattle.std.proofs.Common.{None, Some}
use Rattle.std.specs.Iterator.{Yields, SkipsThenYields}
use Rattle.template.specs.declared.Records.{Records}
use Rattle.template.specs.Record.{From, piece_of, IsNumbered}
use Rattle.template.specs.Records.{Start, Goes}
use Rattle.template.specs.Answer.{Inside}
use Rattle.template.proofs.Reading.{never, piece_ends, from_template_law, walk_from, walk_none}

-- ---- the record of a number

span_at_nth : (number : ℕ) (pieces : List Piece) (first : Piece) (rest : List Piece) → drop number pieces ≡ first ∷ rest
    → (size : ℕ) (table : Rows) → span_at pieces number size table ≡ span_of first size table
span_at_nth zero [] first rest is size table = cc
span_at_nth (suc n) [] first rest is size table = cc
span_at_nth zero (piece ∷ pieces) first rest is size table =
    let same : piece ≡ first = cc in
    ap (λ (p : Piece). span_of p size table) same
span_at_nth (suc n) (piece ∷ pieces) first rest is size table = span_at_nth n pieces first rest is size table

-- the walk to a number by `nth`: past so many records, those that are left stand from where it is on
reach : (bs : List ℕ) (xs : List (ℕ × Record)) (s t : Records) (pieces : List Piece) → s.template.now ≡ bs → From bs s.at pieces → Yields Goes s xs t
    → (t.template.now ≡ bs) × From bs t.at (drop (length xs) pieces) × (length xs ≤ length pieces)
reach bs [] s t pieces same from is = subst (λ (u : Records). (u.template.now ≡ bs) × From bs u.at pieces × (0 ≤ length pieces)) is (same, from, omega arith)
reach bs ((at, found) ∷ xs) s t pieces same from (j, goes, on) =
    let (rest, split, behind) = walk_from bs s j same pieces at found from goes in
    let (bytes, further, few) = reach bs xs j t rest (goes.0 ∙ same) behind on in
    rw split (bytes, further, omega (arith, few))

module _ (bs : List ℕ) (s u : Records) (number : ℕ) (start : Start bs s) (pieces : List Piece) (is : template_of bs ≡ accepted pieces) where
  from_start : From bs s.at pieces
  from_start = subst (λ (n : ℕ). From bs n pieces) (sym start.1) (from_template_law bs pieces is)

  -- there is a record of the number, and it puts in what the piece of this number does
  pub nth_given : (at : ℕ) (found : Record) → SkipsThenYields Goes s number (Some (at, found)) u
      → (size : ℕ) (table : Rows) → span_of (piece_of at found) size table ≡ span_at pieces number size table
  nth_given at found (xs, (t, yields, goes), many) size table =
      let (bytes, from, few) = reach bs xs s t pieces start.0 from_start yields in
      let (rest, split, behind) = walk_from bs t u bytes (drop (length xs) pieces) at found from goes in
      sym (span_at_nth number pieces (piece_of at found) rest (ap (λ (n : ℕ). drop n pieces) (sym many) ∙ split) size table)

  -- there is none
  pub nth_none : SkipsThenYields Goes s number None u → length pieces ≤ number
  nth_none (xs, (t, yields, goes), few) =
      let (bytes, from, low) = reach bs xs s t pieces start.0 from_start yields in
      let none : drop (length xs) pieces ≡ [] = walk_none bs t u bytes (drop (length xs) pieces) from goes in
      omega (arith, few, length-drop (length xs) pieces, ap length none)

-- past the last there is none
span_at_past : (pieces : List Piece) (number : ℕ) → length pieces ≤ number
    → (size : ℕ) (table : Rows) → span_at pieces number size table ≡ refused no_such_piece 0
span_at_past [] number past size table = refl
span_at_past (piece ∷ pieces) zero past size table = absurd (omega arith)
span_at_past (piece ∷ pieces) (suc n) past size table = span_at_past pieces n (omega arith) size table

-- ---- the call, by its tests in their order

module _ (template line table : List ℕ) (number : ℕ) where
  by_template : (found : Checked (List Piece)) → template_of template ≡ found
      → (found >>= λ pieces. line_and_table line table >> span_at pieces number (length line) table) ≡ piece_call template line table number
  by_template found is = ap (λ (t : Checked (List Piece)). t >>= λ pieces. line_and_table line table >> span_at pieces number (length line) table) (sym is)

  module _ (pieces : List Piece) (is : template_of template ≡ accepted pieces) where
    module _ (lent : accepted tt ≡ line_and_table line table) where
      -- what is left to the record
      pub call_rest : span_at pieces number (length line) table ≡ piece_call template line table number
      call_rest = ap (λ (t : Checked (Unit {0})). t >> span_at pieces number (length line) table) lent ∙ by_template (accepted pieces) is

      pub call_16 : length pieces ≤ number → refused no_such_piece 0 ≡ piece_call template line table number
      call_16 past = sym (span_at_past pieces number past (length line) table) ∙ call_rest

      -- the record of the number puts in what the piece of this number does
      pub call_given : (found : Record) (given : IsNumbered pieces number (Some found))
          → span_of (piece_of given.0 found) (length line) table ≡ piece_call template line table number
      call_given found (at, rest, split, fits) = sym (span_at_nth number pieces (piece_of at found) rest split (length line) table) ∙ call_rest

-- ---- every part that is answered lies in its source

literal_inside : (bs : List ℕ) (at place start end : ℕ) → piece_at bs at ≡ accepted (literal place start end) → (start ≤ end) × (end ≤ length bs)
literal_inside bs at place start end is =
    let (starts, ends) = look (leb (body_end bs at) (length bs)) (eqb kind literal_kind) (leb 1 (body_length bs at)) (eqb kind reference_kind)
    (eqb (body_length bs at) 2 && leb row pattern_groups) is in
    omega (arith, starts, ends, piece_ends bs at (literal place start end) is)
  where
    kind : ℕ
    kind = kind_at bs at

    row : ℕ
    row = number_at bs (body_start at)

    look : (whole lit some ref right : Bool)
        → (holds whole template_wrong at
        >> cond lit (holds some template_wrong at >> accepted (literal at (body_start at) (body_end bs at)))
        (cond ref (holds right template_wrong at >> accepted (reference at row)) (refused template_wrong at)))
        ≡ accepted (literal place start end)
        → (body_start at ≡ start) × (body_end bs at ≡ end)
    look false lit some ref right is = never is
    look true true true ref right is = (cc, cc)
    look true true false ref right is = never is
    look true false some true true is = let z : ◌≡◌ {A = ℕ} 0 1 = cc in absurd (omega arith)
    look true false some true false is = never is
    look true false some false right is = never is

module _ (template line : List ℕ) (span : Span) where
  row_inside : (start end : ℕ) → row_span (length line) start end ≡ accepted span → Inside template line span
  row_inside start end is = look (is_absent start end) (leb start end) refl (leb end (length line)) refl is
    where
      look : (none up : Bool) → leb start end ≡ up → (fits : Bool) → leb end (length line) ≡ fits
          → cond none (accepted (record { source = from_line; start = 0; end = 0 }))
          (holds (up && fits) row_wrong 0 >> accepted (record { source = from_line; start = start; end = end })) ≡ accepted span
          → Inside template line span
      look true up u fits f is =
          let same : record { source = from_line; start = 0; end = 0 } ≡ span = cc in
          subst (Inside template line) same (omega arith, omega arith)
      look false true u true f is =
          let same : record { source = from_line; start = start; end = end } ≡ span = cc in
          subst (Inside template line) same (leb-true _ _ u, leb-true _ _ f)
      look false true u false f is = never is
      look false false u fits f is = never is

  piece_inside : (at : ℕ) (piece : Piece) (table : Rows)
      → piece_at template at ≡ accepted piece → span_of piece (length line) table ≡ accepted span → Inside template line span
  piece_inside at (literal place start end) table here is =
      let same : record { source = from_template; start = start; end = end } ≡ span = cc in
      subst (Inside template line) same (literal_inside template at place start end here)
  piece_inside at (reference place row) table here is = row_inside (row_start row table) (row_end row table) is

  pieces_inside : (pieces : List Piece) (at number : ℕ) (table : Rows)
      → From template at pieces → span_at pieces number (length line) table ≡ accepted span → Inside template line span
  pieces_inside [] at number table from is = never is
  pieces_inside (piece ∷ rest) at zero table from is = piece_inside at piece table from.1 is
  pieces_inside (piece ∷ rest) at (suc number) table from is = pieces_inside rest (body_end template at) number table from.2 is

  -- the call's start is at most its end, and that at most the length of the source
  pub call_inside : (table : List ℕ) (number : ℕ) → piece_call template line table number ≡ accepted span → Inside template line span
  call_inside table number is = look (template_of template) refl (leb (length line) line_bytes) (leb table_numbers (length table)) is
    where
      look : (found : Checked (List Piece)) → template_of template ≡ found → (short long : Bool)
          → (found >>= λ pieces. (holds short line_too_long 0 >> holds long table_too_short 0) >> span_at pieces number (length line) table) ≡ accepted span
          → Inside template line span
      look (refused n p) f short long is = never is
      look (accepted pieces) f true true is = pieces_inside pieces 0 number table (from_template_law template pieces f) is
      look (accepted pieces) f true false is = never is
      look (accepted pieces) f false long is = never is
