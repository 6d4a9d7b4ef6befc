-- The header of a record: it is accepted exactly when the record ends inside its holder and its kind's number is in the table.
use Prim.Native.Nat.{ℕ, zero, suc, ◌≤◌}
use mathlib.Core.Path.{◌≡◌, refl, ◌∙◌, ap}
use mathlib.Core.Bool.{Bool, true, false, cond}
use mathlib.Core.List.{List, [], ◌∷◌}
use lib.Dec.{leb, eqb}
use borrow.Author.Tests.{leb-true, le-leb, eqb-true}
use Rattle.paper.specs.Refusal.{refused, accepted, broken_record, too_deep}
use Rattle.paper.specs.Layout.{Kind, nothing_kind, empty_kind, bytes_kind, group_kind, sequence_kind, alternation_kind, repeat_kind, kinds, kind_number}
use Rattle.paper.specs.Check.{kind_at, body_end, kind_among, header, body, walk_record}
use Rattle.paper.proofs.layout.Accepted.{refused_not_accepted, accepted_injective, bind_accepted, holds_accepted, holds_passes}
use Rattle.paper.proofs.layout.Turns.{Within}

kind_found : (ks : List Kind) (number at : ℕ) (k : Kind) → kind_among ks number at ≡ accepted k → number ≡ kind_number k
kind_found [] number at k e = absurd (refused_not_accepted e)
kind_found (j ∷ js) number at k e = look (eqb number (kind_number j)) refl e (kind_found js number at k)
  where
    look : (b : Bool) → eqb number (kind_number j) ≡ b → cond b (accepted j) (kind_among js number at) ≡ accepted k
        → (kind_among js number at ≡ accepted k → number ≡ kind_number k) → number ≡ kind_number k
    look true t f later = eqb-true number (kind_number j) t ∙ ap kind_number (accepted_injective f)
    look false t f later = later f

kind_listed : (k : Kind) (at : ℕ) → kind_among kinds (kind_number k) at ≡ accepted k
kind_listed nothing_kind at = refl
kind_listed empty_kind at = refl
kind_listed bytes_kind at = refl
kind_listed group_kind at = refl
kind_listed sequence_kind at = refl
kind_listed alternation_kind at = refl
kind_listed repeat_kind at = refl

-- an accepted header: the record ends inside its holder, and has its kind's number
pub header_accepted : (bs : List ℕ) (at stop : ℕ) (k : Kind) → header bs at stop ≡ accepted k → (body_end bs at ≤ stop) × (kind_at bs at ≡ kind_number k)
header_accepted bs at stop k e =
    let (inside, known) = holds_accepted (leb (body_end bs at) stop) broken_record at (kind_among kinds (kind_at bs at) at) e in
    (leb-true (body_end bs at) stop inside, kind_found kinds (kind_at bs at) at k known)

-- a record that ends inside its holder and has a kind's number has an accepted header
pub header_accepts : (bs : List ℕ) (at stop : ℕ) (k : Kind) → body_end bs at ≤ stop → kind_at bs at ≡ kind_number k → header bs at stop ≡ accepted k
header_accepts bs at stop k inside named =
    holds_passes broken_record at (kind_among kinds (kind_at bs at) at) (le-leb (body_end bs at) stop inside)
    ∙ ap (λ (number : ℕ). kind_among kinds number at) named
    ∙ kind_listed k at

-- an accepted record ends inside its holder
pub walk_within : (left : ℕ) (bs : List ℕ) → Within bs (walk_record left bs)
walk_within zero bs at stop before e accepts =
    let (kind, known, _) = bind_accepted (header bs at stop) (λ kind. refused too_deep at) accepts in
    (header_accepted bs at stop kind known).0
walk_within (suc left) bs at stop before e accepts =
    let (kind, known, _) = bind_accepted (header bs at stop) (λ kind. body kind (walk_record left bs) bs at before) accepts in
    (header_accepted bs at stop kind known).0
