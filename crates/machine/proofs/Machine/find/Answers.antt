-- Scratch of its own is as long as the largest machine needs.
use Rattle.std.proofs.Common.{arith}
use Rattle.machine.proofs.Only.{ready_of}
use Rattle.machine.proofs.Wiring.{ready_scratch}
use Rattle.machine.proofs.Machine.find.Goals as goal

pub find_in-requires-else-is_small : goal.find_in-requires-else-is_small
find_in-requires-else-is_small c =
    let lent = c.lend-else-is_small.ensures in
    record {
      short = c.requires;
      starts = omega arith;
      roomy = ready_scratch (ready_of c.args.self.ready) lent.seen lent.taken lent.lists lent.pending;
    }
