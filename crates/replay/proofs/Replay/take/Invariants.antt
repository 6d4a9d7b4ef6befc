-- `Replay::take` meets its contract: a failed write is told ever after.
use Rattle.printer.specs.Gathered.{Gathered}
use Rattle.replay.proofs.Replay.take.Given as goal

abbrev pub invariant-loop-b : goal.invariant-loop-b
invariant-loop-b l = Gathered l.initial.self.printer l.self.printer
