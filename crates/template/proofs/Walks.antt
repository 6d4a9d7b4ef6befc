-- What the walks over a template keep, and a law for each way round them: counting the records, seeking a reference that is too high, and
-- going to the record of a number.
use Prim.Native.Nat.{ℕ, zero, suc, ◌+◌, ◌-◌, ◌≤◌, ◌<◌}
use native.Mathlib.Omega.{arith}
use mathlib.Core.Path.{◌≡◌, refl, sym, ◌∙◌, ap, subst}
use mathlib.Core.List.{List, [], ◌∷◌}
use lib.ListN.{length, drop}
use borrow.Author.Tests.{lt-ltb, le-ltb, le-leb, lt-leb}
use Rattle.std.proofs.Common.{Option, None, Some, Ok}
use Rattle.paper.specs.Limits.{template_bytes}
use Rattle.paper.specs.Refusal.{Checked, refused, accepted, ◌>>=◌, template_wrong, reference_too_high}
use Rattle.paper.specs.Check.{body_end}
use Rattle.paper.specs.Template.{Piece, reference, piece_at, pieces_from, template_of, within}
use Rattle.template.specs.declared.Record.{Record}
use Rattle.template.specs.declared.Records.{Records}
use Rattle.template.specs.Record.{Shows, From, Fits, piece_of, next_of, record_count, IsNumbered, TellsNumbered}
use Rattle.template.specs.Records.{Start, Goes}
use Rattle.template.proofs.Reading.{never, from_template_law, walk_from, walk_none, counted_right}

-- ---- counting

-- so many records, and those that are found
abbrev pub counts : ℕ → Checked (List Piece) → Checked ℕ
counts count (refused number place) = refused number place
counts count (accepted pieces) = accepted (count + length pieces)

-- one record more in front is one more counted
counts_one_more : (count : ℕ) (piece : Piece) (found : Checked (List Piece))
    → counts count (found >>= λ rest. accepted (piece ∷ rest)) ≡ counts (count + 1) found
counts_one_more count piece (refused number place) = refl
counts_one_more count piece (accepted rest) = ap accepted (omega arith)

counts_all : (found : Checked (List Piece)) → (found >>= λ pieces. accepted (length pieces)) ≡ counts 0 found
counts_all (refused number place) = refl
counts_all (accepted pieces) = ap accepted (omega arith)

-- as many records as were counted stand before the offset, one turn was made for each, and those from there on make up the rest
pub record Counting (bs : List ℕ) (at count : ℕ) : Type 0 where
  pub inside : at ≤ length bs
  pub few : count ≤ at
  pub same : counts 0 (pieces_from (length bs) bs 0) ≡ counts count (pieces_from (length bs - count) bs at)

module _ (bs : List ℕ) where
  -- one turn more, and none where the template ends
  turn : (turns at : ℕ) → at < length bs → (piece : Checked Piece) → piece_at bs at ≡ piece
      → pieces_from (suc turns) bs at ≡ (piece >>= λ first. pieces_from turns bs (body_end bs at) >>= λ rest. accepted (first ∷ rest))
  turn turns at before piece is = rw (lt-ltb _ _ before, is)

  stop : (turns at : ℕ) → length bs ≤ at → pieces_from turns bs at ≡ accepted []
  stop zero at past = refl
  stop (suc turns) at past = rw (le-ltb _ _ past)

  -- a template that is not too long is counted from its start
  count_all : length bs ≤ template_bytes → record_count bs ≡ counts 0 (pieces_from (length bs) bs 0)
  count_all short = rw (le-leb _ _ short) (counts_all (pieces_from (length bs) bs 0))

  module _ (at count : ℕ) (kept : Counting bs at count) where
    -- what is found from here on, by the record that stands here
    here : at < length bs → (piece : Checked Piece) → piece_at bs at ≡ piece
        → counts 0 (pieces_from (length bs) bs 0)
        ≡ counts count (piece >>= λ first. pieces_from (length bs - (count + 1)) bs (body_end bs at) >>= λ rest. accepted (first ∷ rest))
    here before piece is =
        let one_left : length bs - count ≡ suc (length bs - (count + 1)) = omega (arith, kept.few) in
        kept.same ∙ ap (λ (n : ℕ). counts count (pieces_from n bs at)) one_left ∙ ap (counts count) (turn (length bs - (count + 1)) at before piece is)

    pub count_next : (found : Record) → Shows bs at (Some found) → Counting bs (next_of found) (count + 1)
    count_next found shows = record {
      inside = shows.3;
      few = omega (arith, kept.few, shows.2);
      same =
          let turns = length bs - (count + 1) in
          let piece = piece_of at found in
          here (omega (arith, shows.2, shows.3)) (accepted piece) shows.0 ∙ counts_one_more count piece (pieces_from turns bs (body_end bs at))
          ∙ ap (λ (n : ℕ). counts (count + 1) (pieces_from turns bs n)) (sym shows.4);
    }

    pub count_wrong : length bs ≤ template_bytes → at < length bs → Shows bs at None → refused template_wrong at ≡ record_count bs
    count_wrong short before is = sym (count_all short ∙ here before (refused template_wrong at) is)

    pub count_end : length bs ≤ template_bytes → length bs ≤ at → accepted count ≡ record_count bs
    count_end short past =
        sym (count_all short ∙ kept.same ∙ ap (counts count) (stop (length bs - count) at past) ∙ ap accepted (omega arith))

-- the same of the walk, by what a call gives: `s` is the walk before it, `t` after it
module _ (bs : List ℕ) (s t : Records) (count : ℕ) (same : s.template.now ≡ bs) (kept : Counting bs s.at count) where
  pub count_step : (at : ℕ) (found : Record) → Goes s (Some (at, found)) t → (t.template.now ≡ bs) × Counting bs t.at (count + 1)
  count_step at found goes =
      let shows = subst (λ (b : List ℕ). Shows b s.at (Some found)) same goes.3 in
      (goes.0 ∙ same, subst (λ (n : ℕ). Counting bs n (count + 1)) (sym goes.1) (count_next bs s.at count kept found shows))

  pub count_stops : Goes s None t → length bs ≤ template_bytes → t.at < length bs → refused template_wrong t.at ≡ record_count bs
  count_stops goes short before =
      let shows = subst (λ (b : List ℕ). Shows b s.at None) same goes.2 in
      rw goes.1 (count_wrong bs s.at count kept short (omega (arith, goes.1)) shows)

  pub count_ends : Goes s None t → length bs ≤ template_bytes → length bs ≤ t.at → accepted count ≡ record_count bs
  count_ends goes short past = count_end bs s.at count kept short (omega (arith, goes.1))

-- ---- the record of a number

-- of so many records passed: that of the number, once it is among them
abbrev pub Kept : List Piece → ℕ → ℕ → Option Record → Type 0
Kept pieces number count None = count ≤ number
Kept pieces number count (Some found) = IsNumbered pieces number (Some found)

-- as many records as were counted are passed, those left stand from where the walk is on, and that of the number is kept
pub record Numbering (bs : List ℕ) (number : ℕ) (s : Records) (count : ℕ) (found : Option Record) : Type 0 where
  pub bytes : s.template.now ≡ bs
  pub counted : Counting bs s.at count
  pub left : (pieces : List Piece) → template_of bs ≡ accepted pieces → From bs s.at (drop count pieces) × Kept pieces number count found

-- past one more, what was left but for its first
drop_one_more : (count : ℕ) (pieces : List Piece) (first : Piece) (rest : List Piece) → drop count pieces ≡ first ∷ rest → drop (suc count) pieces ≡ rest
drop_one_more zero [] first rest is = cc
drop_one_more (suc count) [] first rest is = cc
drop_one_more zero (piece ∷ pieces) first rest is = cc
drop_one_more (suc count) (piece ∷ pieces) first rest is = drop_one_more count pieces first rest is

-- the number of records is refused only where the template is, and alike
wrong_of_count : (number place : ℕ) (found : Checked (List Piece)) → refused number place ≡ (found >>= λ pieces. accepted (length pieces)) → found ≡ refused number place
wrong_of_count number place (refused n p) is = cc
wrong_of_count number place (accepted pieces) is = never is

module _ (bs : List ℕ) (number : ℕ) (s : Records) where
  pub number_start : Start bs s → Numbering bs number s 0 None
  number_start starts = record {
    bytes = starts.0;
    counted =
        let all : length bs ≡ length bs - 0 = omega arith in
        rw starts.1 (record { inside = omega arith; few = omega arith; same = ap (λ (n : ℕ). counts 0 (pieces_from n bs 0)) all });
    left = λ pieces is. (subst (λ (n : ℕ). From bs n pieces) (sym starts.1) (from_template_law bs pieces is), omega arith);
  }

  module _ (t : Records) (count : ℕ) (kept : Option Record) (walk : Numbering bs number s count kept) where
    -- one record more is passed, and what is kept of those passed is right
    pass : (at : ℕ) (found : Record) → Goes s (Some (at, found)) t → (next : Option Record)
        → ((pieces rest : List Piece) → Kept pieces number count kept → drop count pieces ≡ piece_of at found ∷ rest → Kept pieces number (count + 1) next)
        → Numbering bs number t (count + 1) next
    pass at found goes next keeps =
        let (bytes, counted) = count_step bs s t count walk.bytes walk.counted at found goes in
        record {
          bytes = bytes;
          counted = counted;
          left = λ pieces is.
              let (from, held) = walk.left pieces is in
              let (rest, split, behind) = walk_from bs s t walk.bytes (drop count pieces) at found from goes in
              let one_more : count + 1 ≡ suc count = omega arith in
              let others : rest ≡ drop (count + 1) pieces = sym (ap (λ (n : ℕ). drop n pieces) one_more ∙ drop_one_more count pieces (piece_of at found) rest split) in
              (subst (From bs t.at) others behind, keeps pieces rest held split);
        }

    -- the record of the number is kept
    pub number_kept : (at : ℕ) (found : Record) → Goes s (Some (at, found)) t → count ≡ number → Numbering bs number t (count + 1) (Some found)
    number_kept at found goes here =
        let fits = subst (λ (n : ℕ). Fits n found) (sym goes.2) goes.3.1 in
        pass at found goes (Some found) (λ pieces rest held split. (at, rest, ap (λ (n : ℕ). drop n pieces) (sym here) ∙ split, fits))

    -- any other is passed
    pub number_passed : (at : ℕ) (found : Record) → Goes s (Some (at, found)) t → (count ≡ number → ⊥) → Numbering bs number t (count + 1) kept
    number_passed at found goes other = pass at found goes kept (λ pieces rest held split. still kept pieces held)
      where
        still : (kept : Option Record) (pieces : List Piece) → Kept pieces number count kept → Kept pieces number (count + 1) kept
        still None pieces held = omega (arith, held, other)
        still (Some found) pieces held = held

    pub number_stops : Goes s None t → length bs ≤ template_bytes → t.at < length bs → template_of bs ≡ refused template_wrong t.at
    number_stops goes short before = wrong_of_count template_wrong t.at (template_of bs) (count_stops bs s t count walk.bytes walk.counted goes short before)

    pub number_ends : Goes s None t → length bs ≤ template_bytes → length bs ≤ t.at → TellsNumbered bs number (Ok (count, kept))
    number_ends goes short past =
        let (pieces, is, all) = counted_right bs count (count_ends bs s t count walk.bytes walk.counted goes short past) in
        (pieces, is, all, whole kept pieces all (walk.left pieces is).1)
      where
        whole : (kept : Option Record) (pieces : List Piece) → count ≡ length pieces → Kept pieces number count kept → IsNumbered pieces number kept
        whole None pieces all held = omega (arith, all, held)
        whole (Some found) pieces all held = held

-- ---- seeking

-- no reference before where the walk is is too high: what is left decides
pub record Seeking (bs : List ℕ) (groups : ℕ) (s : Records) : Type 0 where
  pub bytes : s.template.now ≡ bs
  pub left : (pieces : List Piece) → template_of bs ≡ accepted pieces → (rest : List Piece) × From bs s.at rest × (within pieces groups ≡ within rest groups)

module _ (bs : List ℕ) (groups : ℕ) (s : Records) where
  pub seek_start : Start bs s → Seeking bs groups s
  seek_start starts =
      record { bytes = starts.0; left = λ pieces is. (pieces, subst (λ (n : ℕ). From bs n pieces) (sym starts.1) (from_template_law bs pieces is), refl) }

  module _ (t : Records) (kept : Seeking bs groups s) where
    -- what is left begins with the record here
    at_record : (at : ℕ) (found : Record) → Goes s (Some (at, found)) t → (pieces : List Piece) → template_of bs ≡ accepted pieces
        → (rest : List Piece) × From bs t.at rest × (within pieces groups ≡ within (piece_of at found ∷ rest) groups)
    at_record at found goes pieces all =
        let (left, from, same) = kept.left pieces all in
        let (rest, split, behind) = walk_from bs s t kept.bytes left at found from goes in
        (rest, behind, same ∙ ap (λ (l : List Piece). within l groups) split)

    pub seek_literal : (at : ℕ) (found : Record) → Goes s (Some (at, found)) t → ((row next : ℕ) → found ≡ Record.Reference row next → ⊥) → Seeking bs groups t
    seek_literal at (Record.Literal start end) goes other = record { bytes = goes.0 ∙ kept.bytes; left = at_record at (Record.Literal start end) goes }
    seek_literal at (Record.Reference row next) goes other = absurd (other row next refl)

    -- what is left begins with a reference to a row
    at_reference : (at : ℕ) (found : Record) → Goes s (Some (at, found)) t → (row next : ℕ) → found ≡ Record.Reference row next → (pieces : List Piece)
        → template_of bs ≡ accepted pieces → (rest : List Piece) × From bs t.at rest × (within pieces groups ≡ within (reference at row ∷ rest) groups)
    at_reference at found goes row next is pieces all =
        let (rest, behind, same) = at_record at found goes pieces all in
        (rest, behind, same ∙ ap (λ (r : Record). within (piece_of at r ∷ rest) groups) is)

    pub seek_reference : (at : ℕ) (found : Record) → Goes s (Some (at, found)) t → (row next : ℕ) → found ≡ Record.Reference row next → row ≤ groups → Seeking bs groups t
    seek_reference at found goes row next is low = record {
      bytes = goes.0 ∙ kept.bytes;
      left = λ pieces all.
          let (rest, behind, same) = at_reference at found goes row next is pieces all in
          (rest, behind, same ∙ (rw (le-leb row groups low)));
    }

    pub seek_high : (at : ℕ) (found : Record) → Goes s (Some (at, found)) t → (row next : ℕ) → found ≡ Record.Reference row next → groups < row
        → (pieces : List Piece) → template_of bs ≡ accepted pieces → refused reference_too_high at ≡ within pieces groups
    seek_high at found goes row next is high pieces all =
        let (rest, behind, same) = at_reference at found goes row next is pieces all in
        sym (same ∙ (rw (lt-leb row groups high)))

    pub seek_end : Goes s None t → (pieces : List Piece) → template_of bs ≡ accepted pieces → accepted tt ≡ within pieces groups
    seek_end goes pieces all =
        let (left, from, same) = kept.left pieces all in
        sym (same ∙ ap (λ (l : List Piece). within l groups) (walk_none bs s t kept.bytes left from goes))
