-- `input::read_full` meets its contract: what came so far fits the buffer, and each reading leaves less room.
use Rattle.std.proofs.Common.{◌≤◌, ◌-◌, length}
use Rattle.printer.proofs.input.read_full.Given as goal

abbrev pub invariant-loop-n : goal.invariant-loop-n
invariant-loop-n l = l.n ≤ length l.initial.buffer

abbrev pub decreases-loop-n : goal.decreases-loop-n
decreases-loop-n l = length l.initial.buffer - l.n
