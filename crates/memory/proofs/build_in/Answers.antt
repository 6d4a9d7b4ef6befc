-- The depth fits a number of the head, and the memory holds the machine.
use Rattle.std.proofs.Common.{arith}
use Rattle.machine.proofs.Wiring.{ready_levels}
use Rattle.memory.proofs.Keeping.{ready_below, built_in}
use Rattle.memory.proofs.build_in.Goals as goal

pub overflow_cast-machine-2 : goal.overflow_cast-machine-2
overflow_cast-machine-2 c =
    omega (arith, ready_levels (ready_below c.args.pattern.now c.args.searches c.args.machine.now c.build.new.code c.requires c.build.ensures c.in_ok-numbers.was))

pub returns : goal.returns
returns c =
    rw c.from.ensures (built_in c.args.pattern.now c.args.searches c.args.machine.now c.build.new.code c.requires c.build.ensures c.in_ok-numbers.was)
