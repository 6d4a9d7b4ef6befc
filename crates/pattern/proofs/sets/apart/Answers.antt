use Rattle.std.proofs.Common.{map}
use Rattle.pattern.specs.Walk.{range_of}
use Rattle.pattern.proofs.Pairs.{apart_from_zero}
use Rattle.pattern.proofs.sets.apart.Goals as goal

pub loop-low-init : goal.loop-low-init
loop-low-init c = apart_from_zero (map range_of c.args.pairs.now)
