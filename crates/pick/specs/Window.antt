-- What contracts see of a job's input, and what becomes of it by reading on.
use Rattle.std.specs.Prelude.{ℕ, ◌≡◌, List, length, take}
use Rattle.pick.specs.declared.input.Behind.{Behind}

-- the bytes that are read and not yet used, where in the buffer they begin, and what stands behind them
pub record Window : Type 0 where
  pub bytes : List ℕ
  pub start : ℕ
  pub behind : Behind

-- the bytes that were there are the first that are there
abbrev pub Grown : List ℕ → List ℕ → Type 0
Grown old new = take (length old) new ≡ old
