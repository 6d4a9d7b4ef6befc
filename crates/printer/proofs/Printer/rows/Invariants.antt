-- `Printer::rows` meets its contract: after a failed write nothing is gathered.
use Rattle.printer.specs.Gathered.{Gathered}
use Rattle.printer.proofs.Printer.rows.Given as goal

abbrev pub invariant-loop-start : goal.invariant-loop-start
invariant-loop-start l = Gathered l.initial.self l.self
