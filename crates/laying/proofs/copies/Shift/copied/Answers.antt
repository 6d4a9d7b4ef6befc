use Rattle.std.proofs.Common.{◌∙◌}
use Rattle.laying.proofs.Copying.{moving_of, copy_one}
use Rattle.laying.proofs.copies.Shift.copied.Goals as goal

pub loop-k-preserved : goal.loop-k-preserved
loop-k-preserved c =
    let before = c.loop-k.invariant in
    (c.place_copied.ensures.0 ∙ before.0, copy_one (moving_of c.args.self.moving) c.loop-k-test.true before.1 c.place_copied.ensures.1)
