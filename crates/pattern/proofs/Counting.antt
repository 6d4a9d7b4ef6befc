-- Counting up to the limit gives what counting exactly and then cutting off gives: sums keep it, and so do the passes of a repeat,
-- since a count at the limit stays there in every pass and is forgotten only where there is no pass.
use Prim.Native.Nat.{ℕ, zero, suc, ◌+◌, ◌-◌, ◌*◌, ◌≤◌, ◌<◌}
use mathlib.Core.Path.{◌≡◌, refl, ap, sym, ◌∙◌}
use mathlib.Core.Bool.{Bool, true, false}
use mathlib.Core.Logic.{◌⊎◌, inl, inr, ⊎_elim}
use native.Mathlib.Nat.{zero-mul, one-mul, suc-mul, min-eq_left, eq-zero-or-pos}
use native.Mathlib.Omega.{arith}
use lib.Dec.{ltb}
use borrow.Author.Tests.{lt-ltb, le-ltb, ltb-true, ltb-false}
use Rattle.paper.specs.Limits.{pattern_places, repeat_count}
use Rattle.paper.specs.Pattern.{Upper, up_to, no_end, repeat_places, has_optional}
use Rattle.paper.specs.Layout.{CountsRight}
use Rattle.paper.specs.Check.{repeat_numbers_right, upper_of}
use Rattle.paper.proofs.layout.RepeatBody.{numbers_right, counts_small, upper_number_of}
use Rattle.pattern.specs.Walk.{capped, optional_passes, pass_places}

-- of two numbers the first is below the second or not
pub compared : (a b : ℕ) → (a < b) ⊎ (b ≤ a)
compared a b = look (ltb a b) refl where
  look : (t : Bool) → ltb a b ≡ t → (a < b) ⊎ (b ≤ a)
  look true e = inl (ltb-true a b e)
  look false e = inr (ltb-false a b e)

-- a sum of a count and an exact number
pub capped_add : (a b : ℕ) → capped (capped a + b) ≡ capped (a + b)
capped_add a b = omega arith

-- one pass at least keeps a count at the limit there
pub one_pass : (n k e : ℕ) → 0 < n → pattern_places ≤ e → pattern_places ≤ n * (k + e)
one_pass zero k e pos much = absurd (omega arith)
one_pass (suc n) k e pos much = omega (arith, suc-mul n (k + e))

-- so do passes that must be made and optional ones together
pub some_pass : (least optional e : ℕ) → 0 < least + optional → pattern_places ≤ e → pattern_places ≤ pass_places least optional e
some_pass (suc least) optional e pos much = omega (arith, one_pass (suc least) 1 e (omega arith) much)
some_pass zero (suc optional) e pos much = omega (arith, one_pass (suc optional) 3 e (omega arith) much)
some_pass zero zero e pos much = absurd (omega arith)

-- where there is no pass there is no place
pub no_pass : (least optional e : ℕ) → least + optional ≤ 0 → pass_places least optional e ≡ 0
no_pass zero zero e none = omega (arith, zero-mul (1 + e), zero-mul (3 + e))
no_pass zero (suc optional) e none = absurd (omega arith)
no_pass (suc least) optional e none = absurd (omega arith)

-- the places of a repeat from the count of what it holds
pub capped_passes : (least optional e : ℕ) → capped (pass_places least optional (capped e)) ≡ capped (pass_places least optional e)
capped_passes least optional e = ⊎_elim low (λ much. ⊎_elim (none much) (some much) (eq-zero-or-pos (least + optional))) (compared e pattern_places) where
  low : e < pattern_places → capped (pass_places least optional (capped e)) ≡ capped (pass_places least optional e)
  low lt = let h : e ≤ pattern_places = omega arith in rw (min-eq_left h)

  none : pattern_places ≤ e → least + optional ≡ 0 → capped (pass_places least optional (capped e)) ≡ capped (pass_places least optional e)
  none much z = omega (arith, no_pass least optional (capped e) (omega arith), no_pass least optional e (omega arith))

  some : pattern_places ≤ e → 0 < least + optional → capped (pass_places least optional (capped e)) ≡ capped (pass_places least optional e)
  some much pos =
      let h : pattern_places ≤ capped e = omega arith in
      omega (arith, some_pass least optional (capped e) pos h, some_pass least optional e pos much)

-- a repeat's places by its passes
pub repeat_passes : (least : ℕ) (upper : Upper) (e : ℕ) → pass_places least (optional_passes least upper) e ≡ repeat_places least upper e
repeat_passes least (up_to most) e = refl
repeat_passes least no_end e = ap (λ (n : ℕ). least * (1 + e) + n) (one-mul (3 + e))

-- a repeat counts for the depth where it has an optional pass
pub optional_passes_law : (least : ℕ) (upper : Upper) → ltb 0 (optional_passes least upper) ≡ has_optional least upper
optional_passes_law least (up_to most) = ⊎_elim (λ lt. lt-ltb 0 (most - least) (omega arith) ∙ sym (lt-ltb least most lt)) (λ le. le-ltb 0 (most - least) (omega arith) ∙ sym (le-ltb least most le)) (compared least most)
optional_passes_law least no_end = refl

-- ---- the three numbers of a repeat

-- what right numbers bound
pub record Bounded (least most : ℕ) : Type 0 where
  pub few_least : least ≤ repeat_count
  pub in_order : least ≤ most
  pub few_optional : optional_passes least (upper_of most) ≤ repeat_count

few_passes : (least : ℕ) (upper : Upper) → CountsRight least upper → optional_passes least upper ≤ repeat_count
few_passes least (up_to most) h = omega arith
few_passes least no_end h = omega arith

-- counts that keep the rule have these bounds
pub bounded_counts : (least most : ℕ) → CountsRight least (upper_of most) → Bounded least most
bounded_counts least most counts =
    let small = counts_small least (upper_of most) counts in
    record { few_least = small.0; in_order = rw (upper_number_of most) at small.1; few_optional = few_passes least (upper_of most) counts }

-- so have right numbers
pub bounded : (least most mode : ℕ) → repeat_numbers_right least most mode ≡ true → Bounded least most
bounded least most mode right = bounded_counts least most (numbers_right least most mode right).0
