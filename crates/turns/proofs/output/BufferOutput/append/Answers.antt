use Rattle.std.proofs.Common.{refl}
use Rattle.turns.proofs.Written.{copy_start, copy_more, copy_end}
use Rattle.turns.proofs.output.BufferOutput.append.Goals as goal

pub loop-i-init : goal.loop-i-init
loop-i-init c = record { copying = copy_start c.args.bytes.now c.args.self.now.bytes.now c.args.self.now.end c.requires; same_buffer = refl }

pub loop-i-preserved : goal.loop-i-preserved
loop-i-preserved c =
    let now = c.loop-i.invariant in
    record {
      copying = copy_more c.args.bytes.now c.args.self.now.bytes.now c.args.self.now.end c.requires c.loop-i.self.bytes.now c.loop-i.i now.copying c.loop-i-test.true;
      same_buffer = now.same_buffer;
    }

pub returns : goal.returns
returns c =
    let now = c.loop-i.invariant in (
      copy_end c.args.bytes.now c.args.self.now.bytes.now c.args.self.now.end c.requires c.loop-i.self.bytes.now c.loop-i.i now.copying c.loop-i-test.false,
      now.same_buffer,
    )
