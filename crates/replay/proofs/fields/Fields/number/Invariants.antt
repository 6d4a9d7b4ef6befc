-- `Fields::number` meets its contract: it takes no digit more once the value has nine.
use Rattle.std.proofs.Common.{◌<◌}
use Rattle.replay.proofs.fields.Fields.number.Given as goal

abbrev pub invariant-loop-b : goal.invariant-loop-b
invariant-loop-b l = l.value < 1000000000
