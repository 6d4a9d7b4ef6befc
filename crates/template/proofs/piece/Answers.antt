-- `piece` meets its contract: its tests stand in the order of `piece_call`'s, and the walk gives the record of the number or none.
use Rattle.std.proofs.Common.{Some, ◌∙◌, ap, subst, arith}
use Rattle.template.specs.declared.Record.{Record}
use Rattle.template.specs.Record.{IsNumbered}
use Rattle.template.proofs.Pieces.{call_16, call_given}
use Rattle.template.proofs.piece.Goals as goal

pub row_part-requires : goal.row_part-requires
row_part-requires c =
    let (pieces, is, all, given) = c.in_ok-record.ensures in
    let some = c.in-Some-Reference in
    let here = subst (IsNumbered pieces c.args.number) (some.is ∙ ap Some (rw some.is at some.field-0-is)) given in
    (here.3, grind (arith, c.in_ok-lent.ensures))

pub returns-in-None : goal.returns-in-None
returns-in-None c =
    let (pieces, is, all, given) = c.in_ok-record.ensures in
    let past = subst (IsNumbered pieces c.args.number) c.in-None.is given in
    rw c.at.ensures
    (call_16 c.args.template.now c.args.line.now c.args.table.now c.args.number pieces is c.in_ok-lent.ensures past)

pub returns-in-Some-Literal : goal.returns-in-Some-Literal
returns-in-Some-Literal c =
    let (pieces, is, all, given) = c.in_ok-record.ensures in
    let some = c.in-Some-Literal in
    let here = subst (IsNumbered pieces c.args.number) (some.is ∙ ap Some (rw some.is at some.field-0-is)) given in
    rw c.new.ensures
    (call_given c.args.template.now c.args.line.now c.args.table.now c.args.number pieces is c.in_ok-lent.ensures (Record.Literal some.start some.end) here)

pub returns-in-Some-Reference : goal.returns-in-Some-Reference
returns-in-Some-Reference c =
    let (pieces, is, all, given) = c.in_ok-record.ensures in
    let some = c.in-Some-Reference in
    let here = subst (IsNumbered pieces c.args.number) (some.is ∙ ap Some (rw some.is at some.field-0-is)) given in
    c.row_part.ensures
    ∙ call_given c.args.template.now c.args.line.now c.args.table.now c.args.number pieces is c.in_ok-lent.ensures (Record.Reference some.row some.field-0-1) here
