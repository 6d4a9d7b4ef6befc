-- `Printer::plain` meets its contract: after a failed write nothing is gathered.
use Rattle.printer.specs.Gathered.{Gathered}
use Rattle.printer.proofs.Printer.plain.Given as goal

abbrev pub invariant-loop-b : goal.invariant-loop-b
invariant-loop-b l = Gathered l.initial.self l.self
