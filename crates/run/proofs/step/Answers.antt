use Rattle.std.proofs.Common.{true, false, refl, ◌∙◌, arith}
use Rattle.threads.proofs.Lasting.{same_on}
use Rattle.run.proofs.Walk.{walk_first, walk_asked, walk_next, walk_won, walk_last}
use Rattle.run.proofs.step.Goals as goal

pub loop-i-init : goal.loop-i-init
loop-i-init c = record {
  walk = walk_first c.args.table.code.now c.args.table.pattern.now c.args.position.ahead c.args.table.places c.args.position.at
      c.args.state.now.seen.now c.args.state.now.carried.taken.now c.args.threads.now c.args.number c.args.state.now.carried.list.now c.args.pending.now
      c.args.state.now.steps c.args.state.now.carried.count c.requires.none_carried c.requires.stepping;
  room = c.requires.stepping.pending_long;
  same_tables = (refl, refl, ((refl, refl), (refl, refl)));
}

pub visit-requires : goal.visit-requires
visit-requires c =
    walk_asked c.loop-i.invariant.walk c.loop-i-test.true c.thread_at-thread.result.place c.thread_at-thread.ensures.0 c.loop-i.pending c.loop-i.invariant.room

pub returns-then-visit-clause-steps : goal.returns-then-visit-clause-steps
returns-then-visit-clause-steps c =
    let thread = c.thread_at-thread in
    let state = c.visit.new.state in
    walk_won c.loop-i.invariant.walk c.loop-i-test.true thread.result.place thread.ensures.0 thread.result.rows thread.ensures.2
    state.seen.now state.carried.taken.now state.carried.list.now state.carried.count state.steps true
    c.visit.ensures.same_tables.1 c.if-visit.ensures.visits refl

pub loop-i-preserved : goal.loop-i-preserved
loop-i-preserved c =
    let thread = c.thread_at-thread in
    let state = c.visit.new.state in
    let before = c.loop-i.invariant.same_tables in
    let same = c.visit.ensures.same_tables in
    record {
      walk = walk_next c.loop-i.invariant.walk c.loop-i-test.true thread.result.place thread.ensures.0 thread.result.rows thread.ensures.2
          state.seen.now state.carried.taken.now state.carried.list.now state.carried.count state.steps false
          same.1 c.if-visit.ensures.visits refl;
      room = omega (arith, c.loop-i.invariant.room, c.visit.auto.pending);
      same_tables = (same.0 ∙ before.0, same.1 ∙ before.1, same_on c.args.state.now.carried c.loop-i.state.carried state.carried before.2 same.2);
    }

pub returns-clause-steps : goal.returns-clause-steps
returns-clause-steps c = walk_last c.loop-i.invariant.walk c.loop-i-test.false c.loop-i.auto.i-end
