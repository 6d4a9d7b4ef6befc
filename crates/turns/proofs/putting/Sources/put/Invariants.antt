-- `put` meets its contract: what is appended and what the records left put in make up the whole at each turn.
use Rattle.turns.proofs.PutIn.{Putting}
use Rattle.turns.proofs.putting.Sources.put.Given as goal

abbrev pub invariant-loop-record : goal.invariant-loop-record
invariant-loop-record g l =
    (goal.iterator-loop-record g).can_next l.record-iterator
    × (goal.iterator-loop-record g).is_finite l.record-iterator
    × Putting g.O.Output.has_room g.O.Output.appends l.self.template.now l.self.line.now l.rows l.initial.output l.record-iterator l.output
