-- A run of passes has so many places, and those tell the places of the inner part.
use Prim.Native.Nat.{ℕ, zero, suc, ◌+◌, ◌*◌, ◌≤◌}
use mathlib.Core.Path.{◌≡◌, refl, ap, ◌∙◌}
use mathlib.Core.Bool.{Bool, true, false}
use native.Mathlib.Nat.{zero-mul, mul_comm, mul-one, mul-add}
use native.Mathlib.Omega.{arith}
use Rattle.paper.specs.Pattern.{Mode}
use Rattle.paper.specs.Machine.{Core, size, maybes, maybe}
use Rattle.paper.proofs.machine.Sizes.{size_musts, size_maybes}
use Rattle.pattern.specs.Walk.{pass_places}
use Rattle.laying.specs.Repeats.{optional_core, pass_core, Passed}

-- optional passes with an upper end are paper's
pub optional_maybes : (m : ℕ) (mode : Mode) (first n : ℕ) (e : Core) → optional_core false m mode first n e ≡ maybes m mode first n e
optional_maybes zero mode first n e = refl
optional_maybes (suc m) mode first n e = ap (maybe mode first n e) (optional_maybes m mode first n e)

-- a run of passes has so many places
optional_size : (endless : Bool) (may : ℕ) (mode : Mode) (first n : ℕ) (e : Core) → (endless ≡ true → may ≤ 1)
    → size (optional_core endless may mode first n e) ≡ may * (3 + size e)
optional_size true zero mode first n e once = omega (arith, zero-mul (3 + size e))
optional_size true (suc zero) mode first n e once = omega arith
optional_size true (suc (suc m)) mode first n e once = absurd (omega (arith, once refl))
optional_size false m mode first n e once = ap size (optional_maybes m mode first n e) ∙ size_maybes m mode first n e

pub pass_size : (least : ℕ) (endless : Bool) (may : ℕ) (mode : Mode) (first n : ℕ) (e : Core) → (endless ≡ true → may ≤ 1)
    → size (pass_core least endless may mode first n e) ≡ pass_places least may (size e)
pass_size least endless may mode first n e once =
    size_musts least first n e (optional_core endless may mode first n e)
    ∙ ap (λ (k : ℕ). least * (1 + size e) + k) (optional_size endless may mode first n e once)

-- so many places are the passes' own
pub passes_own : {all least may : ℕ} → Passed all least may → least + 3 * may ≤ all
passes_own {all} {least} {may} m =
    omega (arith, m.all_are, mul-add least 1 m.inside, mul-one least, mul-add may 3 m.inside, mul_comm may 3)
