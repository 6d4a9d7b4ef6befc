-- The records of a template, as laws for whoever walks them: the record at an offset is the head of the list of those from there on,
-- what follows stands at its end, and where the template ends the list does. `pieces_from` says so turn by turn; its turns are never used up.
use Prim.Native.Nat.{ℕ, zero, suc, ◌+◌, ◌≤◌, ◌<◌}
use native.Mathlib.Omega.{arith}
use mathlib.Core.Path.{◌≡◌, refl, sym, ◌∙◌, ap, subst}
use mathlib.Core.Bool.{Bool, true, false, cond}
use mathlib.Core.List.{List, [], ◌∷◌}
use lib.Dec.{leb, ltb}
use lib.ListN.{length}
use borrow.Author.Tests.{ltb-true, ltb-false, leb-true}
use Rattle.paper.specs.Limits.{template_bytes}
use Rattle.paper.specs.Refusal.{Checked, refused, accepted, ◌>>=◌, ◌>>◌, holds, template_wrong}
use Rattle.paper.specs.Check.{body_end, kind_at}
use Rattle.paper.specs.Template.{Piece, piece_of_kind, piece_at, pieces_from, template_of, within}
use Rattle.std.proofs.Common.{None, Some}
use Rattle.template.specs.declared.Record.{Record}
use Rattle.template.specs.declared.Records.{Records}
use Rattle.template.specs.Records.{Goes}
use Rattle.template.specs.Record.{Shows, From, piece_of, record_count, references_call}

-- nothing is refused and accepted
pub never : {A B : Type 0} {number place : ℕ} {a : A} → refused number place ≡ accepted a → B
never is =
    let z : ◌≡◌ {A = ℕ} 0 1 = cc in
    absurd (omega arith)

-- ---- one record

-- a piece ends in the template
pub piece_ends : (bs : List ℕ) (at : ℕ) (piece : Piece) → piece_at bs at ≡ accepted piece → body_end bs at ≤ length bs
piece_ends bs at piece is = look (leb (body_end bs at) (length bs)) refl is
  where
    look : (b : Bool) → leb (body_end bs at) (length bs) ≡ b
        → (holds b template_wrong at >> piece_of_kind bs at (kind_at bs at)) ≡ accepted piece → body_end bs at ≤ length bs
    look true test is = leb-true _ _ test
    look false test is = never is

-- ---- the records from an offset on

-- turns enough for all that is left find all that is left
pub from_pieces : (turns : ℕ) (bs : List ℕ) (at : ℕ) (pieces : List Piece)
    → length bs ≤ at + turns → pieces_from turns bs at ≡ accepted pieces → From bs at pieces
from_pieces zero bs at pieces enough is =
    let none : [] ≡ pieces = cc in
    subst (From bs at) none (omega arith)
from_pieces (suc turns) bs at pieces enough is =
    look (ltb at (length bs)) refl (piece_at bs at) refl (pieces_from turns bs (body_end bs at)) refl
    (λ rest. from_pieces turns bs (body_end bs at) rest (omega arith)) is
  where
    look : (b : Bool) → ltb at (length bs) ≡ b → (first : Checked Piece) → piece_at bs at ≡ first
        → (others : Checked (List Piece)) → pieces_from turns bs (body_end bs at) ≡ others
        → ((rest : List Piece) → pieces_from turns bs (body_end bs at) ≡ accepted rest → From bs (body_end bs at) rest)
        → cond b (first >>= λ piece. others >>= λ rest. accepted (piece ∷ rest)) (accepted []) ≡ accepted pieces → From bs at pieces
    look false test first f others o behind is =
        let none : [] ≡ pieces = cc in
        subst (From bs at) none (ltb-false _ _ test)
    look true test (refused number place) f others o behind is = never is
    look true test (accepted piece) f (refused number place) o behind is = never is
    look true test (accepted piece) f (accepted rest) o behind is =
        let some : (piece ∷ rest) ≡ pieces = cc in
        subst (From bs at) some (ltb-true _ _ test, f, behind rest o)

-- the pieces of a template are its records from the start on
pub from_template_law : (bs : List ℕ) (pieces : List Piece) → template_of bs ≡ accepted pieces → From bs 0 pieces
from_template_law bs pieces is = look (leb (length bs) template_bytes) is
  where
    look : (b : Bool) → (holds b template_wrong 0 >> pieces_from (length bs) bs 0) ≡ accepted pieces → From bs 0 pieces
    look true is = from_pieces (length bs) bs 0 pieces (omega arith) is
    look false is = never is

-- the record that stands at an offset is the first of those from there on, and the others stand from its end on
pub first_from : (bs : List ℕ) (at : ℕ) (pieces : List Piece) (piece : Piece) → From bs at pieces → at < length bs → piece_at bs at ≡ accepted piece
    → (rest : List Piece) × (pieces ≡ piece ∷ rest) × From bs (body_end bs at) rest
first_from bs at [] piece from before is = absurd (omega arith)
first_from bs at (first ∷ rest) piece from before is =
    let same : accepted first ≡ accepted piece = sym from.1 ∙ is in
    (rest, cc, from.2)

-- where the walk ends no record is left: no wrong record stands among them
pub none_from : (bs : List ℕ) (at : ℕ) (pieces : List Piece) → From bs at pieces → Shows bs at None → pieces ≡ []
none_from bs at [] from ends = refl
none_from bs at (first ∷ rest) from ends = never (sym ends ∙ from.1)

-- ---- the walk over them

module _ (bs : List ℕ) (s t : Records) (same : s.template.now ≡ bs) where
  -- what a call gives is the first of the records from where the walk was, and it goes on at the others
  pub walk_from : (pieces : List Piece) (at : ℕ) (found : Record) → From bs s.at pieces → Goes s (Some (at, found)) t
      → (rest : List Piece) × (pieces ≡ piece_of at found ∷ rest) × From bs t.at rest
  walk_from pieces at found from goes =
      let shows = subst (λ (b : List ℕ). Shows b s.at (Some found)) same goes.3 in
      let (rest, split, behind) = first_from bs s.at pieces (piece_of s.at found) from (omega (arith, shows.2, shows.3)) shows.0 in
      let next : body_end bs s.at ≡ t.at = sym (goes.1 ∙ shows.4) in
      (rest, split ∙ ap (λ (n : ℕ). piece_of n found ∷ rest) (sym goes.2), subst (λ (n : ℕ). From bs n rest) next behind)

  -- and where it gives none, none is left
  pub walk_none : (pieces : List Piece) → From bs s.at pieces → Goes s None t → pieces ≡ []
  walk_none pieces from goes = none_from bs s.at pieces from (subst (λ (b : List ℕ). Shows b s.at None) same goes.2)

-- ---- what the number of records tells

pub counted_wrong : (bs : List ℕ) (place : ℕ) → refused template_wrong place ≡ record_count bs → template_of bs ≡ refused template_wrong place
counted_wrong bs place is = look (template_of bs) is
  where
    look : (found : Checked (List Piece)) → refused template_wrong place ≡ (found >>= λ pieces. accepted (length pieces)) → found ≡ refused template_wrong place
    look (refused number at) is = cc
    look (accepted pieces) is = cc

pub counted_right : (bs : List ℕ) (count : ℕ) → accepted count ≡ record_count bs
    → (pieces : List Piece) × (template_of bs ≡ accepted pieces) × (count ≡ length pieces)
counted_right bs count is = look (template_of bs) refl is
  where
    look : (found : Checked (List Piece)) → template_of bs ≡ found → accepted count ≡ (found >>= λ pieces. accepted (length pieces))
        → (pieces : List Piece) × (template_of bs ≡ accepted pieces) × (count ≡ length pieces)
    look (refused number at) found is = never (sym is)
    look (accepted pieces) found is = (pieces, found, cc)

-- ---- what the references tell

-- 9 or 10 ends a call, whatever would come next
pub references_refused : {A : Type 0} (bs : List ℕ) (groups number place : ℕ) → refused number place ≡ references_call bs groups
    → (next : List Piece → Checked A) → (template_of bs >>= λ pieces. within pieces groups >> next pieces) ≡ refused number place
references_refused bs groups number place is next = look (template_of bs) is
  where
    look : (found : Checked (List Piece)) → refused number place ≡ (found >>= λ pieces. within pieces groups)
        → (found >>= λ pieces. within pieces groups >> next pieces) ≡ refused number place
    look (refused n p) is = cc
    look (accepted pieces) is = rw (sym is)
