-- Refusals 11 and 12; else what was found, told and written is the call's answer.
use Rattle.std.proofs.Common.{◌∙◌, ap, unwrap_or}
use Rattle.std.proofs.lemmas.Result.{err_from_is_err_and}
use Rattle.machine.proofs.Only.{ready_of}
use Rattle.matcher.proofs.Answering.{refuses_lent, answers}
use Rattle.matcher.proofs.finish.Goals as goal

pub returns-in_err-lent : goal.returns-in_err-lent
returns-in_err-lent c =
    let m = ready_of c.args.machine.ready in
    let (e, is, same) = err_from_is_err_and c.from_residual.result c.from_residual.ensures.1 in
    rw (is, same) (refuses_lent c.args.machine.searches c.args.machine.pattern.now c.args.line.now c.args.table.now m.tree m.found _ c.in_err-lent.ensures)

pub returns : goal.returns
returns c =
    let m = ready_of c.args.machine.ready in
    answers c.args.machine.searches c.args.machine.pattern.now c.args.line.now c.args.table.now m.tree m.found m.lawful c.in_ok-lent.ensures
    c.find-ran.result c.find-ran.ensures c.is_some.ensures (c.unwrap_or.ensures ∙ ap (unwrap_or c.find-ran.result.rows) c.absent_table.ensures)
    c.told.ensures c.fill.ensures
