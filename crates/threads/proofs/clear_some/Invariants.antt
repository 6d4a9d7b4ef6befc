-- The rows from this one on, cleared, give all of them cleared.
use Rattle.std.proofs.Common.{◌≡◌, ◌-◌}
use Rattle.paper.specs.Rows.{clear}
use Rattle.threads.proofs.clear_some.Given as goal

abbrev pub invariant-loop-k : goal.invariant-loop-k
invariant-loop-k g l = clear l.k (l.k-end - l.k) l.rows ≡ clear l.first g.row.N l.initial.rows
