use Rattle.std.proofs.Common.{refl, arith}
use Rattle.machine.proofs.Only.{ready_as}
use Rattle.machine.proofs.Running.{lasts_start, lasts_on}
use Rattle.replacer.proofs.Scanning.{ready_lawful, scan_start, scan_room, scan_more, scan_fits, turns_ahead, turns_fit}
use Rattle.replacer.proofs.scans.Scan.append_to.Goals as goal

pub loop-goes-init : goal.loop-goes-init
loop-goes-init g c = (
  lasts_start,
  scan_start g.O.Output.has_room g.O.Output.appends c.args.self.machine.pattern.now c.args.self.sources.template.now c.args.self.sources.line.now c.args.output.now c.args.self.sources.short
      (g.met.O.Output.appends_none c.args.output.now) c.requires.room,
)

pub write-requires : goal.write-requires
write-requires g c =
    let kept = rw c.in-Some.is at c.loop-goes.invariant.1 in
    let turns = c.turn-turn.ensures.turns in (
      turns_fit c.args.self.sources.short turns (kept.inside c.in-Some.from refl),
      scan_room g.O.Output.has_room g.O.Output.appends c.args.self.machine.pattern.now c.args.self.sources.template.now c.args.self.sources.line.now c.args.output.now c.args.self.sources.short
          kept turns g.met.O.Output.room_first,
    )

pub loop-goes-preserved : goal.loop-goes-preserved
loop-goes-preserved g c = (
  lasts_on c.loop-goes.invariant.0 c.turn-turn.ensures.lasts,
  scan_more g.O.Output.has_room g.O.Output.appends c.args.self.machine.pattern.now c.args.self.sources.template.now c.args.self.sources.line.now c.args.output.now c.args.self.sources.short
      (rw c.in-Some.is at c.loop-goes.invariant.1) c.turn-turn.ensures.turns g.met.O.Output.appends_both g.met.O.Output.room_second c.write.ensures
      c.from-replacements.ensures c.from-steps.ensures,
)

pub overflow_add-replacements : goal.overflow_add-replacements
overflow_add-replacements g c =
    omega (
      arith,
      scan_fits g.O.Output.has_room g.O.Output.appends c.args.self.machine.pattern.now c.args.self.sources.template.now c.args.self.sources.line.now c.args.output.now c.args.self.sources.short
          (rw c.in-Some.is at c.loop-goes.invariant.1) c.turn-turn.ensures.turns c.args.self.sources.right
          (ready_lawful (ready_as c.args.self.built c.args.self.machine.ready)) c.from-replacements.ensures refl,
    )

pub overflow_add-steps : goal.overflow_add-steps
overflow_add-steps g c =
    omega (
      arith,
      scan_fits g.O.Output.has_room g.O.Output.appends c.args.self.machine.pattern.now c.args.self.sources.template.now c.args.self.sources.line.now c.args.output.now c.args.self.sources.short
          (rw c.in-Some.is at c.loop-goes.invariant.1) c.turn-turn.ensures.turns c.args.self.sources.right
          (ready_lawful (ready_as c.args.self.built c.args.self.machine.ready)) refl c.from-steps.ensures,
    )

pub loop-goes-smaller : goal.loop-goes-smaller
loop-goes-smaller g c =
    let kept = rw c.in-Some.is at c.loop-goes.invariant.1 in
    turns_ahead c.args.self.sources.short c.turn-turn.ensures.turns (kept.inside c.in-Some.from refl) c.in-Some.is
