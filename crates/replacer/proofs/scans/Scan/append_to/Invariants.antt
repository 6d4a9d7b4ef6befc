-- `append_to` meets its contract: what is appended and counted and what the scan gives from here on make up the whole at each turn.
use Rattle.machine.specs.Scratch.{Lasts}
use Rattle.replacer.proofs.Scanning.{Scanning, ahead}
use Rattle.replacer.proofs.scans.Scan.append_to.Given as goal

abbrev pub invariant-loop-goes : goal.invariant-loop-goes
invariant-loop-goes g l =
    Lasts l.initial.scratch l.scratch
    × Scanning g.O.Output.has_room g.O.Output.appends l.self.machine.pattern.now l.self.sources.template.now l.self.sources.line.now l.initial.output l.goes l.last l.output l.replacements l.steps

abbrev pub decreases-loop-goes : goal.decreases-loop-goes
decreases-loop-goes g l = ahead l.self.sources.line.now l.goes
