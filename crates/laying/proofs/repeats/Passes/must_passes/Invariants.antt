-- `must_passes`: a pass, then the rest, which are fewer.
use Rattle.laying.specs.Lent.{Writes}
use Rattle.laying.specs.Repeats.{PassesToMake}
use Rattle.laying.proofs.repeats.Passes.must_passes.Given as goal

abbrev pub invariant-loop-left : goal.invariant-loop-left
invariant-loop-left l = Writes (PassesToMake l.self l.left l.self.may l.from) l.initial.table l.table
