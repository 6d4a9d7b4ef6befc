-- The machine's rows are those of the search of the rest, moved.
use Rattle.machine.proofs.Only.{ready_as}
use Rattle.machine.proofs.Running.{search_gives}
use Rattle.machine.proofs.Machine.search_rows.Goals as goal

pub returns-clause-gives : goal.returns-clause-gives
returns-clause-gives c =
    search_gives c.args.self.pattern.now c.args.self.code.now c.args.line.now c.args.self.places c.args.self.depth c.run_built.result
    c.args.from (ready_as c.requires.built c.args.self.ready) c.run_built.ensures.runs
