-- The scratch stays as long as the machine needs.
use Rattle.machine.specs.Scratch.{Roomy}
use Rattle.pick.proofs.all_lines.Given as goal

abbrev pub invariant-loop-number : goal.invariant-loop-number
invariant-loop-number l = Roomy l.machine.places l.machine.depth l.scratch
