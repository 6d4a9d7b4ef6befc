-- Each turn copies one number of the rows behind the place.
use Rattle.std.proofs.Common.{◌≡◌, ◌+◌, length}
use Rattle.std.proofs.Math.Seq.{paste}
use Rattle.threads.proofs.store.Given as goal

abbrev pub invariant-loop-j : goal.invariant-loop-j
invariant-loop-j l = (length l.list ≡ length l.initial.list) × (l.list ≡ paste l.initial.list (l.offset + 1) l.rows l.j)
