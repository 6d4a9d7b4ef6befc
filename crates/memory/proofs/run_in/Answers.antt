-- What was found, told and written is the call's answer; 11 and 12 come before anything is touched.
use Rattle.std.proofs.Common.{◌∙◌, ap, unwrap_or}
use Rattle.matcher.proofs.Answering.{lent_right, answers, not_refused}
use Rattle.memory.specs.Memory.{searches_in}
use Rattle.memory.proofs.Keeping.{ready_behind, ready_in}
use Rattle.memory.proofs.run_in.Goals as goal

pub find_in-ran-requires : goal.find_in-ran-requires
find_in-ran-requires c =
    rw (c.from.ensures, c.from-2.ensures)
    (ready_in _ (ready_behind c.args.machine.now c.requires.1) (lent_right c.args.line.now c.args.table.now c.in_ok-lent.ensures).0 c.requires.2)

pub returns : goal.returns
returns c =
    let searches = searches_in c.args.machine.now in
    let ready = c.requires.1 in
    let ran = c.find_in-ran in
    record {
      answers =
          answers searches c.args.pattern.now c.args.line.now c.args.table.now ready.tree ready.found ready.lawful c.in_ok-lent.ensures
          ran.result ran.ensures.gives c.is_some.ensures (c.unwrap_or.ensures ∙ ap (unwrap_or ran.result.rows) c.absent_table.ensures) c.told.ensures c.fill.ensures;
      kept = λ e is.
          absurd (not_refused searches c.args.pattern.now c.args.line.now c.args.table.now ready.tree ready.found ready.lawful c.in_ok-lent.ensures
          ran.result ran.ensures.gives c.told.ensures e is);
    }
