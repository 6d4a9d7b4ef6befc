-- A byte string is accepted as a pattern exactly when it is the record of a tree that keeps the layout and the limits, and that tree is the answer.
-- What the walk accepts is there (WalkFinds), and what is there is accepted (WalkAccepts).
use Prim.Native.Nat.{ℕ, ◌+◌, ◌≤◌, ◌<◌}
use native.Mathlib.Omega.{arith}
use mathlib.Core.Path.{◌≡◌, sym, ◌∙◌, ap, subst}
use mathlib.Core.Logic.{◌↔◌}
use mathlib.Core.List.{List}
use lib.Dec.{leb, eqb}
use lib.ListN.{length}
use borrow.Author.Tests.{leb-true, le-leb, eqb-true, eq-eqb}
use Rattle.paper.specs.Limits.{pattern_bytes, pattern_levels, pattern_groups, pattern_places}
use Rattle.paper.specs.Refusal.{Checked, accepted, ◌>>=◌, ◌>>◌, holds, pattern_too_long, broken_record, too_many_places}
use Rattle.paper.specs.Pattern.{Pattern, all_places, groups, levels}
use Rattle.paper.specs.Layout.{record_of, WellMade, Lawful}
use Rattle.paper.specs.Check.{body_end, part, walk_record, pattern_of, Numbers, numbers_of, check}
use Rattle.paper.proofs.layout.Accepted.{accepted_injective, bind_accepted, holds_accepted, holds_passes}
use Rattle.paper.proofs.layout.Standing.{two_byte_end, Bytes, Stands, stands_part, part_standing, stands_whole, whole_standing}
use Rattle.paper.proofs.layout.TreeRecord.{end_standing}
use Rattle.paper.proofs.layout.Header.{walk_within}
use Rattle.paper.proofs.layout.WalkFinds.{walk_finds}
use Rattle.paper.proofs.layout.WalkAccepts.{Fitting, walk_accepts}

-- ---- one record

-- an accepted record is its tree's record, byte for byte
pub accepted_part : (bs : List ℕ) → Bytes bs → (left at stop before : ℕ) (e : Pattern) → stop ≤ length bs → walk_record left bs at stop before ≡ accepted e
    → part bs at (body_end bs at) ≡ record_of e
accepted_part bs small left at stop before e inside accepts =
    let found = walk_finds bs small left at stop before e inside accepts in
    let ends = walk_within left bs at stop before e accepts in
    part_standing bs at (body_end bs at) (record_of e) (sym found.ends) (omega arith) found.stands

-- where the record of a tree is found that keeps the table and fits its holder and the limits, the walk accepts that tree, and the record ends behind its bytes
pub part_accepted : (bs : List ℕ) (left at stop before : ℕ) (e : Pattern) → part bs at (at + length (record_of e)) ≡ record_of e → at + length (record_of e) ≤ stop → stop ≤ length bs
    → length (record_of e) < two_byte_end → WellMade e → levels e ≤ left → before + groups e ≤ pattern_groups
    → (walk_record left bs at stop before ≡ accepted e) × (body_end bs at ≡ at + length (record_of e))
part_accepted bs left at stop before e same ends inside short made low few =
    let stands = subst (Stands bs at) same (stands_part bs at (at + length (record_of e)) (omega arith) (omega arith)) in (
      walk_accepts bs left at stop before e (record { stands = stands; ends = ends; inside = inside; short = short; made = made; low = low; few = few }),
      end_standing bs at e short stands,
    )

-- the groups of an accepted record, with those before it, are not too many
pub accepted_groups : (bs : List ℕ) → Bytes bs → (left at stop before : ℕ) (e : Pattern) → stop ≤ length bs → walk_record left bs at stop before ≡ accepted e
    → before ≤ pattern_groups → before + groups e ≤ pattern_groups
accepted_groups bs small left at stop before e inside accepts = (walk_finds bs small left at stop before e inside accepts).few

-- an accepted record has no more levels than were left
pub accepted_levels : (bs : List ℕ) → Bytes bs → (left at stop before : ℕ) (e : Pattern) → stop ≤ length bs → walk_record left bs at stop before ≡ accepted e → levels e ≤ left
accepted_levels bs small left at stop before e inside accepts = (walk_finds bs small left at stop before e inside accepts).low

-- ---- the whole pattern

-- an accepted byte string is the record of a lawful tree
pub accepted_lawful : (bs : List ℕ) → Bytes bs → (e : Pattern) → pattern_of bs ≡ accepted e → Lawful e × (record_of e ≡ bs)
accepted_lawful bs small e accepts =
    let placed : Pattern → Checked Pattern = λ m. holds (leb (all_places m) pattern_places) too_many_places 0 >> accepted m in
    let whole : Pattern → Checked Pattern = λ m. holds (eqb (body_end bs 0) (length bs)) broken_record (body_end bs 0) >> placed m in
    let (short, f) = holds_accepted (leb (length bs) pattern_bytes) pattern_too_long 0 (walk_record pattern_levels bs 0 (length bs) 0 >>= whole) accepts in
    let (m, walked, g) = bind_accepted (walk_record pattern_levels bs 0 (length bs) 0) whole f in
    let (ends, h) = holds_accepted (eqb (body_end bs 0) (length bs)) broken_record (body_end bs 0) (placed m) g in
    let (few, k) = holds_accepted (leb (all_places m) pattern_places) too_many_places 0 (accepted m) h in
    let found = walk_finds bs small pattern_levels 0 (length bs) 0 m (omega arith) walked in
    let long : length (record_of m) ≡ length bs = omega (arith, found.ends, eqb-true (body_end bs 0) (length bs) ends) in
    let lawful : Lawful m =
    record {
      well_made = found.made;
      few_levels = found.low;
      few_groups = omega (arith, found.few (omega arith));
      few_places = leb-true (all_places m) pattern_places few;
      few_bytes = omega (arith, leb-true (length bs) pattern_bytes short);
    } in
    subst (λ (t : Pattern). Lawful t × (record_of t ≡ bs)) (accepted_injective k) (lawful, whole_standing bs (record_of m) long found.stands)

-- the record of a lawful tree is accepted as that tree
pub lawful_accepted : (e : Pattern) → Lawful e → pattern_of (record_of e) ≡ accepted e
lawful_accepted e lawful =
    let bs = record_of e in
    let n = length bs in
    let short = lawful.few_bytes in
    let placed : Pattern → Checked Pattern = λ m. holds (leb (all_places m) pattern_places) too_many_places 0 >> accepted m in
    let whole : Pattern → Checked Pattern = λ m. holds (eqb (body_end bs 0) n) broken_record (body_end bs 0) >> placed m in
    let fit : Fitting bs pattern_levels 0 n 0 e =
    record {
      stands = stands_whole bs;
      ends = omega arith;
      inside = omega arith;
      short = omega (arith, short);
      made = lawful.well_made;
      low = lawful.few_levels;
      few = omega (arith, lawful.few_groups);
    } in
    let ends : body_end bs 0 ≡ n = omega (arith, end_standing bs 0 e fit.short fit.stands) in
    holds_passes pattern_too_long 0 (walk_record pattern_levels bs 0 n 0 >>= whole) (le-leb n pattern_bytes short)
    ∙ ap (λ (c : Checked Pattern). c >>= whole) (walk_accepts bs pattern_levels 0 n 0 e fit)
    ∙ holds_passes broken_record (body_end bs 0) (placed e) (eq-eqb (body_end bs 0) n ends)
    ∙ holds_passes too_many_places 0 (accepted e) (le-leb (all_places e) pattern_places lawful.few_places)

-- a byte string is accepted as a tree exactly when the tree is lawful and the bytes are its record
pub accepted_exactly : (bs : List ℕ) → Bytes bs → (e : Pattern) → (pattern_of bs ≡ accepted e) ↔ (Lawful e × (record_of e ≡ bs))
accepted_exactly bs small e =
    (accepted_lawful bs small e, λ both. subst (λ (l : List ℕ). pattern_of l ≡ accepted e) both.1 (lawful_accepted e both.0))

-- a byte string is accepted exactly when it is the record of some lawful tree
pub accepted_iff_lawful : (bs : List ℕ) → Bytes bs → ((e : Pattern) × (pattern_of bs ≡ accepted e)) ↔ ((e : Pattern) × Lawful e × (record_of e ≡ bs))
accepted_iff_lawful bs small = (
  λ a. (a.0, (accepted_lawful bs small a.0 a.1).0, (accepted_lawful bs small a.0 a.1).1),
  λ a. (a.0, (accepted_exactly bs small a.0).1 (a.1, a.2)),
)

-- two lawful trees with the same record are the same tree
pub lawful_unique : (e f : Pattern) → Lawful e → Lawful f → record_of e ≡ record_of f → e ≡ f
lawful_unique e f lawful also same =
    accepted_injective (sym (lawful_accepted e lawful) ∙ ap pattern_of same ∙ lawful_accepted f also)

-- checking answers the numbers of the lawful tree whose record the bytes are, and answers numbers for no other bytes
pub check_exactly : (bs : List ℕ) → Bytes bs → (numbers : Numbers) → (check bs ≡ accepted numbers) ↔ ((e : Pattern) × Lawful e × (record_of e ≡ bs) × (numbers_of e ≡ numbers))
check_exactly bs small numbers = (there, back)
  where
    there : check bs ≡ accepted numbers → (e : Pattern) × Lawful e × (record_of e ≡ bs) × (numbers_of e ≡ numbers)
    there accepts =
        let (e, found, f) = bind_accepted (pattern_of bs) (λ e. accepted (numbers_of e)) accepts in
        let (lawful, same) = accepted_lawful bs small e found in
        (e, lawful, same, accepted_injective f)

    back : (e : Pattern) × Lawful e × (record_of e ≡ bs) × (numbers_of e ≡ numbers) → check bs ≡ accepted numbers
    back a =
        ap (λ (c : Checked Pattern). c >>= λ e. accepted (numbers_of e)) ((accepted_exactly bs small a.0).1 (a.1, a.2))
        ∙ ap (λ (n : Numbers). accepted n) a.3
