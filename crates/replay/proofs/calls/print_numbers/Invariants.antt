-- `calls::print_numbers` meets its contract: a failed write is told ever after.
use Rattle.printer.specs.Gathered.{Gathered}
use Rattle.replay.proofs.calls.print_numbers.Given as goal

abbrev pub invariant-loop-n : goal.invariant-loop-n
invariant-loop-n l = Gathered l.initial.p l.p
