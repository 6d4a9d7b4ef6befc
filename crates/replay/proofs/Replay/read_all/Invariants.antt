-- `Replay::read_all` meets its contract: a failed write is told ever after.
use Rattle.printer.specs.Gathered.{Gathered}
use Rattle.replay.proofs.Replay.read_all.Given as goal

abbrev pub invariant-loop : goal.invariant-loop
invariant-loop l = Gathered l.initial.self.printer l.self.printer
