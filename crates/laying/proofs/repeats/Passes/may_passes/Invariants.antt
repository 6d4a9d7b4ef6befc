-- `may_passes`: a pass with its fork and its end, then the rest, which are fewer.
use Rattle.laying.specs.Lent.{Writes}
use Rattle.laying.specs.Repeats.{PassesToMake}
use Rattle.laying.proofs.repeats.Passes.may_passes.Given as goal

abbrev pub invariant-loop-left : goal.invariant-loop-left
invariant-loop-left l = Writes (PassesToMake l.self 0 l.left l.from) l.initial.table l.table
