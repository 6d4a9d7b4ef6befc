-- What is promised of the bytes that a printer has gathered, and of a number of bytes that were read.
use Rattle.std.specs.Prelude.{ℕ, ◌≤◌, Option, None, Some, Result, IfOk, List, length}

-- how many failed writes a printer tells of: none where it has a number of bytes gathered, and one where it has not
unfoldable pub failures : Option ℕ → ℕ
failures (Some gathered) = 0
failures None = 1

-- of a printer before and after: a failed write is told ever after, so that nothing is gathered or written any more
abbrev pub Gathered : Option ℕ → Option ℕ → Type 0
Gathered before after = failures before ≤ failures after

-- a reading brings as many bytes as the buffer holds at most, or fails
abbrev pub Brought : {E : Type 0} → List ℕ → Result ℕ E → Type 0
Brought buffer brought = IfOk brought (λ number. number ≤ length buffer)
