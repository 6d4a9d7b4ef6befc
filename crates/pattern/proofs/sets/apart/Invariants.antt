-- The pairs that are left are as right as all of them.
use Rattle.std.proofs.Common.{◌≡◌, map, drop}
use Rattle.paper.specs.Check.{apart}
use Rattle.pattern.specs.Walk.{range_of}
use Rattle.pattern.proofs.Pairs.{apart_from}
use Rattle.pattern.proofs.sets.apart.Given as goal

abbrev pub invariant-loop-low : goal.invariant-loop-low
invariant-loop-low l = apart_from l.floor (map range_of (drop l.low-index l.pairs)) ≡ apart (map range_of l.pairs)
