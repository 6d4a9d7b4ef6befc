-- `numbered` meets its contract: the loop counts the records before where the walk is and keeps that of the number, and each way round or out
-- of it is a law of `Walks`.
use Rattle.template.proofs.Walks.{Numbering}
use Rattle.template.proofs.numbered.Given as goal

abbrev pub invariant-loop-record : goal.invariant-loop-record
invariant-loop-record l = Numbering l.template l.number l.records l.count l.found
