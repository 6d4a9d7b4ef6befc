-- `jobs::print_lines` meets its contract, and ends: each line stands behind the one before, so the bytes left fall; a failed write is told ever after.
use Rattle.std.proofs.Common.{◌≤◌, ◌-◌, length}
use Rattle.printer.specs.Gathered.{Gathered}
use Rattle.replay.proofs.jobs.print_lines.Given as goal

abbrev pub invariant-loop-start : goal.invariant-loop-start
invariant-loop-start l = (l.number ≤ l.next) × (l.next ≤ length l.lines) × Gathered l.initial.p l.p

abbrev pub decreases-loop-start : goal.decreases-loop-start
decreases-loop-start l = length l.lines - l.next
