-- Each turn visits one thread and keeps `Walk`.
use Rattle.std.proofs.Common.{◌*◌, ◌≤◌, length}
use Rattle.visit.specs.Visits.{SameTables}
use Rattle.run.proofs.Walk.{Walk}
use Rattle.run.proofs.step.Given as goal

abbrev pub invariant-loop-i : goal.invariant-loop-i
invariant-loop-i l = record {
  walk : Walk l.table.code.now l.table.pattern.now l.position.ahead l.table.places l.position.at
      l.initial.state.seen.now l.threads l.number l.initial.state.steps
      l.state.seen.now l.state.carried.taken.now l.state.carried.list.now l.i l.state.carried.count l.state.steps;
  room : 22 * (2 * l.table.places) ≤ length l.pending;
  same_tables : SameTables l.initial.state l.state;
}
