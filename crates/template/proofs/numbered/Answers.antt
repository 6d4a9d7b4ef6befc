use Rattle.std.proofs.Common.{arith}
use Rattle.template.proofs.Walks.{number_start, number_kept, number_passed, number_stops, number_ends}
use Rattle.template.proofs.numbered.Goals.{then-count-number, else-count-number}
use Rattle.template.proofs.numbered.Goals as goal

pub loop-record-init : goal.loop-record-init
loop-record-init c = number_start c.args.template.now c.args.number c.new-records.result c.new-records.ensures

pub overflow_add-count : goal.overflow_add-count
overflow_add-count c =
    let l = c.loop-record in
    let few = l.invariant.counted.few in
    let inside = l.invariant.counted.inside in
    omega (arith, few, inside, c.if-template-gt-BYTES.false)

pub loop-record-preserved : goal.loop-record-preserved
loop-record-preserved c =
    let l = c.loop-record in
    let passed = number_passed c.args.template.now c.args.number l.records c.next.new.self l.count l.found l.invariant c.in-Some.field-0-0 c.in-Some.record c.in-Some.ensures.steps in
    let kept = number_kept c.args.template.now c.args.number l.records c.next.new.self l.count l.found l.invariant c.in-Some.field-0-0 c.in-Some.record c.in-Some.ensures.steps in
    elim c.if-count-number.branch [
      | then-count-number w ↦ rw w.found-is (kept w.if-count-number.true)
      | else-count-number w ↦ rw w.found-is (passed w.if-count-number.false)
    ]

pub returns-then-records-template : goal.returns-then-records-template
returns-then-records-template c =
    let l = c.loop-record in
    rw c.at-then-records-template.ensures
    (number_stops c.args.template.now c.args.number l.records c.next.new.self l.count l.found l.invariant c.in_default.ensures.steps
    (omega arith) c.if-records-template.true)

pub returns : goal.returns
returns c =
    let l = c.loop-record in
    number_ends c.args.template.now c.args.number l.records c.next.new.self l.count l.found l.invariant c.in_default.ensures.steps
    (omega arith) c.if-records-template.false
