-- Each turn keeps `Turn`, by one law a way round; the measure counts the entries of `seen` that lack this position's stamp and the branches that wait.
use Rattle.std.proofs.Common.{◌≡◌, true}
use Rattle.threads.specs.Memory.{SameMemory}
use Rattle.visit.proofs.Loop.{Turn, turns}
use Rattle.visit.proofs.visit.Given as goal

abbrev pub invariant-loop-state : goal.invariant-loop-state
invariant-loop-state l = record {
  turn : Turn l.table.code.now l.table.pattern.now l.position.ahead l.table.places l.position.at
      l.initial.state.seen.now l.initial.state.carried.taken.now l.initial.state.carried.list.now l.initial.waiting.numbers.now
      l.initial.place l.initial.rows l.initial.state.carried.count l.initial.state.steps
      l.state.seen.now l.state.carried.taken.now l.state.carried.list.now l.waiting.numbers.now
      l.place l.floor l.rows l.state.carried.count l.state.steps l.waiting.count true;
  same_seen : l.state.seen.ghost_name ≡ l.initial.state.seen.ghost_name;
  same_memory : SameMemory l.initial.state.carried l.state.carried;
}

abbrev pub decreases-loop-state : goal.decreases-loop-state
decreases-loop-state l = turns l.position.at l.state.seen.now l.waiting.count
