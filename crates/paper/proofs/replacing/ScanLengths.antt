-- How long replace-all's output can be: each turn copies two parts of the line and puts in a part of the template or of the line for each record,
-- each record takes a byte of the template at least, and there are at most as many turns as the line has bytes, and one.
use Prim.Native.Nat.{ℕ, zero, suc, ◌+◌, ◌-◌, ◌*◌, ◌^◌, ◌≤◌, ◌<◌}
use mathlib.Core.Path.{◌≡◌, refl, sym, subst}
use mathlib.Core.Bool.{Bool, true, false, cond}
use mathlib.Core.List.{List, [], ◌∷◌, ◌++◌}
use mathlib.Core.Option.{Option, none, map}
use native.Mathlib.Omega.{arith}
use native.Mathlib.Nat.{le_trans, mul-le-mul, mul-le-mul_right, suc-mul}
use lib.Dec.{leb, eqb, lit<}
use lib.ListN.{length, drop, length-append, length-take, length-drop}
use borrow.Author.Tests.{leb-true}
use Rattle.paper.specs.Limits.{template_bytes, line_bytes, absent}
use Rattle.paper.specs.Refusal.{accepted, template_wrong}
use Rattle.paper.specs.Pattern.{Pattern}
use Rattle.paper.specs.Check.{part}
use Rattle.paper.specs.Rows.{Rows, row_start, row_end}
use Rattle.paper.specs.Match.{search, search_steps}
use Rattle.paper.specs.Template.{Piece, literal, reference, pieces_from, template_of}
use Rattle.paper.specs.Replace.{moved, row_bytes, put_in, Scanned, precede, replace_all}
use Rattle.paper.specs.ScanTurn.{Turn, turn_of, turn_bytes, TurnFits}
use Rattle.paper.proofs.layout.Accepted.{holds_accepted}
use Rattle.paper.proofs.layout.Turns.{pieces_induction}
use Rattle.paper.proofs.replacing.ScanTurns.{scan_or}
use Rattle.paper.proofs.replacing.ScanWays.{turn_count, ended, search_turn, turn_fits, scan_whole}

-- a part is as long as from its start to its end, where that lies inside
pub part_length : (l : List ℕ) (start end : ℕ) → end ≤ length l → length (part l start end) ≡ end - start
part_length l start end inside = omega (arith, length-take (end - start) (drop start l), length-drop start l)

-- a part is no longer than the whole
part_short : (l : List ℕ) (start end : ℕ) → length (part l start end) ≤ length l
part_short l start end = omega (arith, length-take (end - start) (drop start l), length-drop start l)

row_short : (line : List ℕ) (rows : Rows) (k : ℕ) → length (row_bytes line rows k) ≤ length line
row_short line rows k = look (eqb (row_start k rows) absent)
  where
    look : (b : Bool) → length (cond b [] (part line (row_start k rows) (row_end k rows))) ≤ length line
    look true = omega arith
    look false = part_short line (row_start k rows) (row_end k rows)

-- what a template puts in is no longer than template and line for each of its records
put_short : (template line : List ℕ) (rows : Rows) (pieces : List Piece)
    → length (put_in template line rows pieces) ≤ length pieces * (length template + length line)
put_short template line rows [] = omega arith
put_short template line rows (literal at start end ∷ rest) =
    omega (
      arith,
      length-append (part template start end) (put_in template line rows rest),
      part_short template start end,
      put_short template line rows rest,
      suc-mul (length rest) (length template + length line),
    )
put_short template line rows (reference at row ∷ rest) =
    omega (
      arith,
      length-append (row_bytes line rows row) (put_in template line rows rest),
      row_short line rows row,
      put_short template line rows rest,
      suc-mul (length rest) (length template + length line),
    )

-- an accepted template is within its limit, and has no more records than bytes
pub template_short : (template : List ℕ) (pieces : List Piece) → template_of template ≡ accepted pieces
    → (length pieces ≤ length template) × (length template ≤ template_bytes)
template_short template pieces is =
    let (short, all) = holds_accepted (leb (length template) template_bytes) template_wrong 0 (pieces_from (length template) template 0) is in
    let few : length pieces + 0 ≤ length template =
    pieces_induction template (λ at found. length found + at ≤ length template) (omega arith) (λ at piece found left here rest. omega arith)
    (length template) 0 pieces (omega arith) (omega arith) all in
    (omega arith, leb-true (length template) template_bytes short)

-- the most bytes that a template within its limit puts in for a match in a line within its limit
abbrev pub most_put : ℕ
most_put = template_bytes * (template_bytes + line_bytes)

-- the most bytes of an output, and they are far below what 64 bits count
abbrev pub most_output : ℕ
most_output = (line_bytes + 1) * (line_bytes + (most_put + line_bytes))

pub most_output_fits : most_output < 2 ^ 64
most_output_fits = lit< tt

-- an accepted template puts in no more than that
pub put_most : (template line : List ℕ) (rows : Rows) (pieces : List Piece) → template_of template ≡ accepted pieces → length line ≤ line_bytes
    → length (put_in template line rows pieces) ≤ most_put
put_most template line rows pieces is small =
    let (few, short) = template_short template pieces is in
    let many : length pieces ≤ template_bytes = omega arith in
    let wide : length template + length line ≤ template_bytes + line_bytes = omega arith in
    le_trans (put_short template line rows pieces) (mul-le-mul many wide)

module _ (e : Pattern) (template line : List ℕ) (pieces : List Piece) (is : template_of template ≡ accepted pieces) (small : length line ≤ line_bytes) where
  turn_short : (p : ℕ) (t : Turn) → length (turn_bytes template line pieces p t) ≤ line_bytes + (most_put + line_bytes)
  turn_short p t =
      let first = part line p t.start in
      let puts = cond t.put (put_in template line t.rows pieces) [] in
      let second = part line t.start t.upto in
      omega (
        arith,
        length-append first (puts ++ second),
        length-append puts second,
        part_short line p t.start,
        part_short line t.start t.upto,
        put t.put t.rows,
      )
    where
      put : (b : Bool) (rows : Rows) → length (cond b (put_in template line rows pieces) []) ≤ most_put
      put true rows = put_most template line rows pieces is small
      put false rows = omega arith

  count_short : (t : Turn) → turn_count t ≤ 1
  count_short t = look t.put
    where
      look : (b : Bool) → cond b 1 0 ≤ 1
      look true = omega arith
      look false = omega arith

  -- so many searches write so many bytes and replace so often
  abbrev Short : ℕ → Scanned → Type 0
  Short k s = (length s.output ≤ k * (line_bytes + (most_put + line_bytes))) × (s.replaced ≤ k)

  scan_short : (k p : ℕ) (last : Option ℕ) → p ≤ length line → Short k (scan_or (λ q next. ended) k e template line pieces p last)
  scan_short zero p last inside = (omega arith, omega arith)
  scan_short (suc k) p last inside =
      let go = scan_or (λ q next. ended) k e template line pieces in
      let t = turn_of (length line) last (map (moved p) (search e (drop p line))) in
      subst (Short (suc k)) (sym (search_turn go template line pieces p last (search_steps e (drop p line)) inside (search e (drop p line))))
      (one t (turn_fits e line p last small inside) t.goes refl (scan_short k))
    where
      one : (t : Turn) → TurnFits (length line) p t → (goes : Bool) → t.goes ≡ goes
          → ((q : ℕ) (next : Option ℕ) → q ≤ length line → Short k (scan_or (λ r _. ended) k e template line pieces q next))
          → Short (suc k)
          (precede (turn_bytes template line pieces p t) (turn_count t) (search_steps e (drop p line))
          (cond goes (scan_or (λ q next. ended) k e template line pieces t.next t.last) ended))
      one t fits true g more =
          let after = scan_or (λ q next. ended) k e template line pieces t.next t.last in
          let rest = more t.next t.last (fits.further g).1 in (
            omega (arith, length-append (turn_bytes template line pieces p t) after.output, turn_short p t, rest.0, suc-mul k (line_bytes + (most_put + line_bytes))),
            omega (arith, count_short t, rest.1),
          )
      one t fits false g more = (
        omega (arith, length-append (turn_bytes template line pieces p t) [], turn_short p t, suc-mul k (line_bytes + (most_put + line_bytes))),
        omega (arith, count_short t),
      )

  -- the output's length and the replacements of a replace-all within the limits
  pub replace_all_short : (length (replace_all e template pieces line).output ≤ most_output) × ((replace_all e template pieces line).replaced ≤ line_bytes + 1)
  replace_all_short =
      let whole = scan_whole e template line pieces small in
      let all = subst (Short (suc (length line - 0))) whole (scan_short (suc (length line - 0)) 0 none (omega arith)) in
      let many : suc (length line - 0) ≤ line_bytes + 1 = omega arith in
      (le_trans all.0 (mul-le-mul_right (line_bytes + (most_put + line_bytes)) many), omega (arith, all.1))
