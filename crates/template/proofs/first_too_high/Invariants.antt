-- `first_too_high` meets its contract: no reference before where the walk is is too high.
use Rattle.template.proofs.Walks.{Seeking}
use Rattle.template.proofs.first_too_high.Given as goal

abbrev pub invariant-loop-at : goal.invariant-loop-at
invariant-loop-at l =
    goal.iterator-loop-at.can_next l.at-iterator
    × goal.iterator-loop-at.is_finite l.at-iterator
    × Seeking l.template l.groups l.at-iterator
