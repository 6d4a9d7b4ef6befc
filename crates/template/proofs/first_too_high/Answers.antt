use Rattle.template.proofs.Walks.{seek_start, seek_literal, seek_reference, seek_high, seek_end}
use Rattle.template.proofs.first_too_high.Goals as goal

pub loop-at-init : goal.loop-at-init
loop-at-init c =
    (tt, tt, rw c.into_iter-at-iterator.ensures.into_iter_gives (seek_start c.args.template.now c.args.groups c.new-at-items.result c.new-at-items.ensures))

pub returns-then-groups-row : goal.returns-then-groups-row
returns-then-groups-row c pieces all =
    rw c.at.ensures
    (seek_high c.args.template.now c.args.groups c.loop-at.at-iterator c.next.new.self c.loop-at.invariant.2 c.in-Some.at c.in-Some.record c.in-Some.ensures.steps
    c.in-Reference.row c.in-Reference.next c.in-Reference.is c.if-groups-row.true pieces all)

pub loop-at-preserved-else-groups-row : goal.loop-at-preserved-else-groups-row
loop-at-preserved-else-groups-row c = (
  tt,
  tt,
  seek_reference c.args.template.now c.args.groups c.loop-at.at-iterator c.next.new.self c.loop-at.invariant.2 c.in-Some.at c.in-Some.record c.in-Some.ensures.steps
      c.in-Reference.row c.in-Reference.next c.in-Reference.is c.if-groups-row.false,
)

pub loop-at-preserved : goal.loop-at-preserved
loop-at-preserved c =
    (tt, tt, seek_literal c.args.template.now c.args.groups c.loop-at.at-iterator c.next.new.self c.loop-at.invariant.2 c.in-Some.at c.in-Some.record c.in-Some.ensures.steps c.in_default.not-Reference)

pub returns : goal.returns
returns c = seek_end c.args.template.now c.args.groups c.loop-at.at-iterator c.next.new.self c.loop-at.invariant.2 c.in-None.ensures.steps
