-- Scratch of its own is as long as the largest machine needs.
use Rattle.machine.proofs.Only.{ready_of}
use Rattle.machine.proofs.Wiring.{ready_scratch}
use Rattle.replacer.proofs.scans.Scan.replace.Goals as goal

pub replace_in-requires-else-is_small-clause-roomy : goal.replace_in-requires-else-is_small-clause-roomy
replace_in-requires-else-is_small-clause-roomy c =
    let lent = c.lend-else-is_small.ensures in
    ready_scratch (ready_of c.args.self.machine.ready) lent.seen lent.taken lent.lists lent.pending
