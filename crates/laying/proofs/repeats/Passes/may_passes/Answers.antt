use Rattle.std.proofs.Common.{refl, arith, ◌∙◌}
use Rattle.laying.proofs.Passing.{may_begun, end_fits, left_may, left_none}
use Rattle.laying.proofs.repeats.Passes.may_passes.Goals as goal

pub begun-requires : goal.begun-requires
begun-requires c = may_begun c.loop-left.invariant.1.asked refl (λ e. omega arith)

pub put-requires : goal.put-requires
put-requires c = rw c.plain.ensures (end_fits c.loop-left.invariant.1.asked refl (λ e. omega arith) c.pass_end-out.ensures (omega arith))

pub loop-left-preserved : goal.loop-left-preserved
loop-left-preserved c =
    let before = c.loop-left.invariant in
    let end = rw c.plain.ensures at c.put.ensures.1 in
    (c.put.ensures.0 ∙ c.begun.ensures.0 ∙ c.pass_fork.ensures.0 ∙ before.0, left_may before.1 (λ e. omega arith) c.pass_end-out.ensures c.pass_fork.ensures.1 c.begun.ensures.1 end)

pub returns : goal.returns
returns c = (c.loop-left.invariant.0, left_none c.loop-left.invariant.1 (omega arith))
