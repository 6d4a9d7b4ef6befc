-- `copied`: place after place, each still as it was when its turn comes.
use Rattle.laying.specs.Copies.{Copied}
use Rattle.laying.specs.Lent.{Writes}
use Rattle.laying.proofs.copies.Shift.copied.Given as goal

abbrev pub invariant-loop-k : goal.invariant-loop-k
invariant-loop-k l = Writes (Copied l.self.from l.self.count l.self.to l.self.next l.k) l.initial.table l.table
