use Rattle.std.proofs.Common.{sym, subst}
use Rattle.paper.specs.Replace.{row_bytes}
use Rattle.template.specs.declared.Record.{Record}
use Rattle.turns.proofs.PutIn.{put_start, put_room, put_more, put_end}
use Rattle.turns.proofs.putting.Sources.put.Goals as goal

pub loop-record-init : goal.loop-record-init
loop-record-init g c = (
  tt,
  tt,
  rw c.into_iter-record-iterator.ensures.into_iter_gives
      (put_start g.O.Output.has_room g.O.Output.appends c.args.self.template.now c.args.self.line.now c.args.rows c.args.output.now
      (g.met.O.Output.appends_none c.args.output.now) c.args.self.right c.requires.1 c.new-record-items.result c.new-record-items.ensures),
)

pub append-requires : goal.append-requires
append-requires g c =
    let l = c.loop-record in
    put_room g.O.Output.has_room g.O.Output.appends c.args.self.template.now c.args.self.line.now c.args.rows c.args.output.now l.record-iterator c.next.new.self l.output
    l.invariant.2 c.in-Some.field-0-0 (Record.Literal c.in-Literal.start c.in-Literal.end) (rw c.in-Literal.is at c.in-Some.ensures.steps)
    g.met.O.Output.room_first

pub loop-record-preserved-in-Literal : goal.loop-record-preserved-in-Literal
loop-record-preserved-in-Literal g c =
    let l = c.loop-record in (
      tt,
      tt,
      put_more g.O.Output.has_room g.O.Output.appends c.args.self.template.now c.args.self.line.now c.args.rows c.args.output.now l.record-iterator c.next.new.self l.output
          l.invariant.2 c.in-Some.field-0-0 (Record.Literal c.in-Literal.start c.in-Literal.end) (rw c.in-Literal.is at c.in-Some.ensures.steps)
          g.met.O.Output.appends_both g.met.O.Output.room_second c.append.new.self c.append.ensures,
    )

pub append-requires-in-Reference : goal.append-requires-in-Reference
append-requires-in-Reference g c =
    let l = c.loop-record in
    subst (g.O.Output.has_room l.output) (sym {b = row_bytes c.args.self.line.now c.args.rows c.in-Reference.row} c.row_bytes.ensures)
    (put_room g.O.Output.has_room g.O.Output.appends c.args.self.template.now c.args.self.line.now c.args.rows c.args.output.now l.record-iterator c.next.new.self l.output
    l.invariant.2 c.in-Some.field-0-0 (Record.Reference c.in-Reference.row c.in-Reference.next) (rw c.in-Reference.is at c.in-Some.ensures.steps)
    g.met.O.Output.room_first)

pub loop-record-preserved : goal.loop-record-preserved
loop-record-preserved g c =
    let l = c.loop-record in (
      tt,
      tt,
      put_more g.O.Output.has_room g.O.Output.appends c.args.self.template.now c.args.self.line.now c.args.rows c.args.output.now l.record-iterator c.next.new.self l.output
          l.invariant.2 c.in-Some.field-0-0 (Record.Reference c.in-Reference.row c.in-Reference.next) (rw c.in-Reference.is at c.in-Some.ensures.steps)
          g.met.O.Output.appends_both g.met.O.Output.room_second c.append-in-Reference.new.self
          (rw c.row_bytes.ensures at c.append-in-Reference.ensures),
    )

pub returns : goal.returns
returns g c =
    let l = c.loop-record in
    put_end g.O.Output.has_room g.O.Output.appends c.args.self.template.now c.args.self.line.now c.args.rows c.args.output.now l.record-iterator c.next.new.self l.output
    l.invariant.2 c.in-None.ensures.steps
