-- Each turn is one position and keeps `Position`, with the two lists exchanged.
use Rattle.std.proofs.Common.{◌≡◌, length}
use Rattle.run.proofs.Position.{Position}
use Rattle.run.proofs.run.Given as goal

abbrev pub invariant-loop-p : goal.invariant-loop-p
invariant-loop-p l = record {
  position : Position l.table.code.now l.table.pattern.now l.line l.table.places l.start (length l.fn.seen)
      l.state.seen.now l.state.carried.taken.now l.current l.state.carried.list.now l.pending l.p l.number l.state.steps;
  none_carried : l.state.carried.count ≡ 0;
}
