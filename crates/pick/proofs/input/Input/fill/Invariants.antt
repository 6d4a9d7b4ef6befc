-- `Input::fill` meets its contract: each reading keeps what was there.
use Rattle.pick.specs.Window.{Grown}
use Rattle.pick.proofs.input.Input.fill.Given as goal

abbrev pub invariant-loop : goal.invariant-loop
invariant-loop l = Grown l.fn.self.bytes l.self.bytes
