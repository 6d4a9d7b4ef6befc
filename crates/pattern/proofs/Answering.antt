-- The whole check: the length, the walk, the bytes behind the record and the places, one law a way out; and the promise allows one answer only.
use Prim.Native.Nat.{ℕ, ◌+◌, ◌≤◌, ◌<◌}
use mathlib.Core.Path.{◌≡◌, sym, ap, subst, ◌∙◌}
use mathlib.Core.Logic.{◌↔◌}
use mathlib.Core.Bool.{true}
use mathlib.Core.List.{List}
use native.Mathlib.Omega.{arith}
use lib.Dec.{leb, eqb}
use lib.ListN.{length}
use borrow.Author.Tests.{le-leb, lt-leb, eq-eqb, ne_eqb}
use Rattle.std.specs.Prelude.{Result, Ok}
use Rattle.paper.specs.Limits.{pattern_bytes, pattern_levels, pattern_places}
use Rattle.paper.specs.Refusal.{Checked, refused, accepted, ◌>>=◌, ◌>>◌, holds, pattern_too_long, broken_record, too_many_places}
use Rattle.paper.specs.Pattern.{Pattern, places, depth, groups, all_places}
use Rattle.paper.specs.Layout.{record_of, Lawful}
use Rattle.paper.specs.Check.{body_end, walk_record, Numbers, numbers_of, check}
use Rattle.paper.proofs.layout.Standing.{Bytes}
use Rattle.paper.proofs.layout.Lawful.{check_exactly}
use Rattle.pattern.specs.declared.Numbers as declared
use Rattle.pattern.specs.declared.Refused.{Refused}
use Rattle.pattern.specs.declared.walk.Walked.{Walked}
use Rattle.pattern.specs.Walk.{capped, Counts}
use Rattle.pattern.specs.Answer.{in_words, answer_of, Checks}
use Rattle.pattern.proofs.Differing.{checked_differ}

-- the check from what the walk found
abbrev judged : List ℕ → Checked Pattern → Checked Numbers
judged bs found =
    holds (leb (length bs) pattern_bytes) pattern_too_long 0 >>
    (found >>= λ e.
    holds (eqb (body_end bs 0) (length bs)) broken_record (body_end bs 0) >>
    (holds (leb (all_places e) pattern_places) too_many_places 0 >> accepted e)) >>= λ e.
    accepted (numbers_of e)

-- what the walk finds in the outermost record
abbrev pub outermost : List ℕ → Checked Pattern
outermost bs = walk_record pattern_levels bs 0 (length bs) 0

module _ (bs : List ℕ) where
  -- 1
  pub too_long : pattern_bytes < length bs → refused pattern_too_long 0 ≡ check bs
  too_long lt = rw (lt-leb (length bs) pattern_bytes lt)

  module _ (short : length bs ≤ pattern_bytes) where
    -- 2 to 7 in the walk
    pub walk_fault : {number place : ℕ} → outermost bs ≡ refused number place → refused number place ≡ check bs
    walk_fault q = rw (le-leb (length bs) pattern_bytes short, q)

    module _ {stop levels : ℕ} {w : Walked} (found : Counts stop levels (body_end bs 0) 0 (outermost bs) w) where
      tree_judged : judged bs (accepted found.tree) ≡ check bs
      tree_judged = sym (ap (judged bs) found.is)

      -- 2 behind the outermost record
      pub bytes_after : w.end < length bs → refused broken_record w.end ≡ check bs
      bytes_after lt = ap (refused broken_record) found.ends ∙ judge found.tree ∙ tree_judged where
        judge : (e : Pattern) → refused broken_record (body_end bs 0) ≡ judged bs (accepted e)
        judge e = rw (le-leb (length bs) pattern_bytes short, ne_eqb (body_end bs 0) (length bs) (λ q. omega (arith, found.ends)))

      module _ (le : length bs ≤ w.end) (ge : w.end ≤ length bs) where
        ended : eqb (body_end bs 0) (length bs) ≡ true
        ended = eq-eqb (body_end bs 0) (length bs) (omega (arith, found.ends))

        -- 8
        pub too_many : pattern_places ≤ w.places → refused too_many_places 0 ≡ check bs
        too_many many = judge found.tree found.places_are ∙ tree_judged where
          judge : (e : Pattern) → w.places ≡ capped (places e) → refused too_many_places 0 ≡ judged bs (accepted e)
          judge e p = rw (le-leb (length bs) pattern_bytes short, ended, lt-leb (all_places e) pattern_places (omega arith))

        pub taken : w.places < pattern_places → answer_of (Ok (record { places = w.places + 1; depth = w.depth; groups = w.groups })) ≡ check bs
        taken few = judge found.tree found.places_are found.depth_is found.groups_are ∙ tree_judged where
          judge : (e : Pattern) → w.places ≡ capped (places e) → w.depth ≡ depth e → w.groups ≡ 0 + groups e
              → answer_of (Ok (record { places = w.places + 1; depth = w.depth; groups = w.groups })) ≡ judged bs (accepted e)
          judge e p d g =
              let n : w.places + 1 ≡ all_places e = omega arith in
              let k : w.groups ≡ groups e = omega arith in
              rw (le-leb (length bs) pattern_bytes short, ended, le-leb (all_places e) pattern_places (omega arith), n, d, k)

-- an answer that is the definition's keeps the whole promise
pub promised : {bs : List ℕ} {r : Result declared.Numbers Refused} → Bytes bs → answer_of r ≡ check bs → Checks bs r
promised {bs} {r} small q = record {
  answer = q;
  lawful = λ numbers. subst
      (λ (told : Checked Numbers). (told ≡ accepted numbers) ↔ ((e : Pattern) × Lawful e × (record_of e ≡ bs) × (numbers_of e ≡ numbers)))
      (sym q) (check_exactly bs small numbers);
}

-- ---- one answer

same_numbers : (a b : declared.Numbers) → in_words a ≡ in_words b → a ≡ b
same_numbers a b e =
    let places : a.places ≡ b.places = ap (λ (n : Numbers). n.places) e in
    let depth : a.depth ≡ b.depth = ap (λ (n : Numbers). n.depth) e in
    let groups : a.groups ≡ b.groups = ap (λ (n : Numbers). n.groups) e in
    λ i. record { places = places i; depth = depth i; groups = groups i }

-- the promise allows one answer
pub one_answer : {bs : List ℕ} {a b : Result declared.Numbers Refused} → Checks bs a → Checks bs b → a ≡ b
one_answer {bs} {a} {b} p q = checked_differ in_words same_numbers a b (p.answer ∙ sym q.answer)
