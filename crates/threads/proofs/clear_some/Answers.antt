use Rattle.std.proofs.Common.{suc, ◌≡◌, ◌+◌, ◌-◌, add-one, arith}
use Rattle.threads.proofs.clear_some.Goals as goal

pub loop-k-preserved : goal.loop-k-preserved
loop-k-preserved g c =
    let left : c.args.first + g.row.N - c.loop-k.k ≡ suc (c.args.first + g.row.N - (c.loop-k.k + 1)) = omega arith in
    rw (add-one c.loop-k.k) (rw (left, add-one c.loop-k.k) at c.loop-k.invariant)
