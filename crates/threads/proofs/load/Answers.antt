use Rattle.std.proofs.Common.{◌+◌, arith}
use Rattle.threads.proofs.Stores.{copied}
use Rattle.threads.proofs.load.Goals as goal

pub returns : goal.returns
returns c =
    copied c.loop-j.rows c.args.list.now (c.args.offset + 1) c.loop-j.invariant.0 (omega arith) (λ i lt. c.loop-j.invariant.1 i (omega arith))
