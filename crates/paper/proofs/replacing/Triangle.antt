-- The sum that bounds replace-all's steps.
use Rattle.std.specs.Prelude.{ℕ, zero, suc, ◌+◌}

-- the sum 1 + 2 + … + (n + 1)
abbrev pub triangle : ℕ → ℕ
triangle zero = 1
triangle (suc n) = triangle n + (n + 2)
