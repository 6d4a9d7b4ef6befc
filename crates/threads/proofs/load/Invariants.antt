-- Each turn copies one number of the rows.
use Rattle.std.proofs.Common.{ℕ, ◌≡◌, ◌+◌, ◌<◌, length, get_or}
use Rattle.threads.proofs.load.Given as goal

abbrev pub invariant-loop-j : goal.invariant-loop-j
invariant-loop-j l = (length l.rows ≡ 20) × ((i : ℕ) → i < l.j → get_or l.rows i 0 ≡ get_or l.list (l.b + i) 0)
