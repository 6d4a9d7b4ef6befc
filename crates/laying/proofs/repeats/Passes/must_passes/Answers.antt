use Rattle.std.proofs.Common.{arith, ◌∙◌}
use Rattle.laying.proofs.Passing.{must_begun, left_must}
use Rattle.laying.proofs.repeats.Passes.must_passes.Goals as goal

pub begun-requires : goal.begun-requires
begun-requires c = must_begun c.entered-out.result c.loop-left.invariant.1.asked (λ e. omega arith) c.entered-out.ensures

pub loop-left-preserved : goal.loop-left-preserved
loop-left-preserved c =
    let before = c.loop-left.invariant in
    (c.begun.ensures.0 ∙ before.0, left_must before.1 (λ e. omega arith) c.entered-out.ensures c.begun.ensures.1)
