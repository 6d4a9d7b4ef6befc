-- `calls::print_table` meets its contract: a failed write is told ever after.
use Rattle.printer.specs.Gathered.{Gathered}
use Rattle.replay.proofs.calls.print_table.Given as goal

abbrev pub invariant-loop-number : goal.invariant-loop-number
invariant-loop-number l = Gathered l.initial.p l.p
