-- Scratch of its own is as long as the largest machine needs.
use Rattle.machine.proofs.Wiring.{ready_scratch}
use Rattle.pick.proofs.with_pattern.Goals as goal

pub all_lines-ended-requires-clause-roomy : goal.all_lines-ended-requires-clause-roomy
all_lines-ended-requires-clause-roomy c =
    let lent = c.lend.ensures in
    ready_scratch c.in-Ok.ensures.0 lent.seen lent.taken lent.lists lent.pending
