-- `turn` meets its contract: a search gives what the definition's search of the rest gives, moved, and that decides the turn.
use Rattle.machine.proofs.Only.{ready_as}
use Rattle.replacer.proofs.Searching.{search_finds, search_turns}
use Rattle.replacer.proofs.scans.Scan.turn.Goals as goal

pub turn_of-requires : goal.turn_of-requires
turn_of-requires c =
    let ran = c.search_rows-ran in
    search_finds (ready_as c.args.self.built c.args.self.machine.ready) c.args.self.sources.line.now c.args.from ran.result ran.ensures.gives c.requires.short
    c.requires.starts

pub returns-clause-turns : goal.returns-clause-turns
returns-clause-turns c =
    let ran = c.search_rows-ran in
    search_turns (ready_as c.args.self.built c.args.self.machine.ready) c.args.self.sources.line.now c.args.from ran.result ran.ensures.gives c.requires.short
    c.requires.starts c.args.last c.turn_of.result c.turn_of.ensures
