use Rattle.std.proofs.Common.{◌≡◌, ◌≤◌, ◌+◌, false, length, ◌∙◌, refl, arith, rules}
use Rattle.visit.proofs.Loop.{Turn, turn_first, turn_floor, turn_last, turn_resume}
use Rattle.visit.proofs.Loop.{turn_seen, fewer_marked, turn_countable, less_new, lead_slots, turn_lead, turn_end, turn_settle, turn_won, fork_asked, turn_fork}
use Rattle.threads.specs.Threads.{lacking}
use Rattle.threads.specs.Memory.{SameMemory}
use Rattle.threads.proofs.Lasting.{same_on}
use Rattle.visit.proofs.visit.Goals as goal
use Rattle.visit.proofs.visit.Goals.{Joined-mark, then-mark+else-here-eq-FORK+then-here-lt-SET+in_default, then-mark+else-here-eq-FORK+else-here-lt-SET+else-settle, else-mark}

pub loop-state-init : goal.loop-state-init
loop-state-init c =
    let long : length c.args.start.rows ≡ 20 = search rules in
    record {
      turn = turn_first c.args.table.code.now c.args.table.pattern.now c.args.position.ahead c.args.table.places c.args.position.at
          c.args.state.now.seen.now c.args.state.now.carried.taken.now c.args.state.now.carried.list.now c.args.pending.now
          c.args.start.place c.args.start.rows c.args.state.now.carried.count c.args.state.now.steps long c.requires;
      same_seen = refl;
      same_memory = ((refl, refl), (refl, refl));
    }

pub overflow_add-state : goal.overflow_add-state
overflow_add-state c = omega (arith, turn_countable c.loop-state.invariant.turn c.mark.new.table c.mark.result c.mark.ensures c.if-mark.true)

-- ---- a fork

pub push-requires : goal.push-requires
push-requires c =
    let here = c.place_at-here in
    fork_asked c.loop-state.invariant.turn c.mark.new.table c.mark.result c.mark.ensures c.if-mark.true
    here.result.kind here.result.next here.result.a here.result.n here.ensures c.if-here-eq-FORK.true

pub loop-state-smaller-then-here-eq-FORK : goal.loop-state-smaller-then-here-eq-FORK
loop-state-smaller-then-here-eq-FORK c =
    less_new c.loop-state.invariant.turn c.mark.new.table c.mark.result c.mark.ensures c.if-mark.true c.push.new.self.count (omega (arith, c.push.ensures.pushed.1))

pub loop-state-preserved-then-here-eq-FORK : goal.loop-state-preserved-then-here-eq-FORK
loop-state-preserved-then-here-eq-FORK c =
    let here = c.place_at-here in
    record {
      turn = turn_fork c.loop-state.invariant.turn c.mark.new.table c.mark.result c.mark.ensures c.if-mark.true
          here.result.kind here.result.next here.result.a here.result.n here.ensures c.if-here-eq-FORK.true
          c.push.new.self.numbers.now c.push.new.self.count c.push.ensures.pushed;
      same_seen = c.loop-state.invariant.same_seen;
      same_memory = c.loop-state.invariant.same_memory;
    }

-- ---- a place that leads on at once

pub lead-led-requires : goal.lead-led-requires
lead-led-requires c =
    let here = c.place_at-here in
    let t = c.loop-state.invariant.turn in
    let slots = lead_slots t c.mark.new.table c.mark.result c.mark.ensures c.if-mark.true
    here.result.kind here.result.next here.result.a here.result.n here.ensures in
    (omega (arith, c.if-here-eq-FORK.false), c.if-here-lt-SET.true, turn_floor t, omega (arith, t.inside), slots)

pub loop-state-smaller-in-Some : goal.loop-state-smaller-in-Some
loop-state-smaller-in-Some c =
    less_new c.loop-state.invariant.turn c.mark.new.table c.mark.result c.mark.ensures c.if-mark.true c.loop-state.waiting.count (omega arith)

pub loop-state-preserved-in-Some : goal.loop-state-preserved-in-Some
loop-state-preserved-in-Some c =
    let here = c.place_at-here in
    record {
      turn = turn_lead c.loop-state.invariant.turn c.mark.new.table c.mark.result c.mark.ensures c.if-mark.true
          here.result.kind here.result.next here.result.a here.result.n here.ensures
          (omega (arith, c.if-here-eq-FORK.false)) c.if-here-lt-SET.true c.in-Some.level c.lead-led.new.rows c.in-Some.ensures;
      same_seen = c.loop-state.invariant.same_seen;
      same_memory = c.loop-state.invariant.same_memory;
    }

-- ---- a thread wins

pub returns-then-settle-clause-visits : goal.returns-then-settle-clause-visits
returns-then-settle-clause-visits c =
    let here = c.place_at-here in
    turn_won c.loop-state.invariant.turn c.mark.new.table c.mark.result c.mark.ensures c.if-mark.true
    here.result.kind here.result.next here.result.a here.result.n here.ensures
    c.settle.new.carried.taken.now c.settle.new.carried.list.now c.settle.new.carried.count c.if-settle.ensures.settles

-- ---- a thread has come to its end

over : (c : Joined-mark) → Turn c.args.table.code.now c.args.table.pattern.now c.args.position.ahead c.args.table.places c.args.position.at
    c.args.state.now.seen.now c.args.state.now.carried.taken.now c.args.state.now.carried.list.now c.args.pending.now
    c.args.start.place c.args.start.rows c.args.state.now.carried.count c.args.state.now.steps
    c.if-mark.state.seen.now c.if-mark.state.carried.taken.now c.if-mark.state.carried.list.now c.loop-state.waiting.numbers.now
    c.loop-state.place c.loop-state.floor c.loop-state.rows c.if-mark.state.carried.count c.if-mark.state.steps c.loop-state.waiting.count false
over c =
    let t = c.loop-state.invariant.turn in
    elim c.if-mark.branch [
      | then-mark+else-here-eq-FORK+then-here-lt-SET+in_default w ↦
          let here = w.place_at-here in
          rw w.state-is (turn_end t c.mark.new.table c.mark.result c.mark.ensures w.if-mark.true
          here.result.kind here.result.next here.result.a here.result.n here.ensures w.lead-led.new.rows w.in_default.ensures)
      | then-mark+else-here-eq-FORK+else-here-lt-SET+else-settle w ↦
          let here = w.place_at-here in
          rw w.state-is (turn_settle t c.mark.new.table c.mark.result c.mark.ensures w.if-mark.true
          here.result.kind here.result.next here.result.a here.result.n here.ensures
          w.settle.new.carried.taken.now w.settle.new.carried.list.now w.settle.new.carried.count w.if-settle.ensures.settles)
      | else-mark w ↦ rw w.state-is (turn_seen t c.mark.new.table c.mark.result c.mark.ensures w.if-mark.false)
    ]

-- in the tables of the loop's start
kept : (c : Joined-mark)
    → (c.if-mark.state.seen.ghost_name ≡ c.args.state.now.seen.ghost_name)
    × SameMemory c.args.state.now.carried c.if-mark.state.carried
kept c =
    let i = c.loop-state.invariant in
    elim c.if-mark.branch [
      | then-mark+else-here-eq-FORK+then-here-lt-SET+in_default w ↦ rw w.state-is (i.same_seen, i.same_memory)
      | then-mark+else-here-eq-FORK+else-here-lt-SET+else-settle w ↦
          let same = same_on c.args.state.now.carried c.loop-state.state.carried w.settle.new.carried i.same_memory w.if-settle.ensures.same_memory in
          rw w.state-is (i.same_seen, same)
      | else-mark w ↦ rw w.state-is (i.same_seen, i.same_memory)
    ]

-- with no more pairs to be met
fewer : (c : Joined-mark) → lacking (c.args.position.at + 1) c.if-mark.state.seen.now ≤ lacking (c.args.position.at + 1) c.loop-state.state.seen.now
fewer c =
    let no_more = fewer_marked c.loop-state.invariant.turn c.mark.new.table c.mark.result c.mark.ensures in
    elim c.if-mark.branch [
      | then-mark+else-here-eq-FORK+then-here-lt-SET+in_default w ↦ rw w.state-is no_more
      | then-mark+else-here-eq-FORK+else-here-lt-SET+else-settle w ↦ rw w.state-is no_more
      | else-mark w ↦ rw w.state-is no_more
    ]

pub loop-state-smaller : goal.loop-state-smaller
loop-state-smaller c = omega (arith, fewer (goal.at.loop-state-smaller c).Joined-mark, c.in-Some-pop.ensures.popped.0)

pub loop-state-preserved : goal.loop-state-preserved
loop-state-preserved c =
    let o = (goal.at.loop-state-preserved c).Joined-mark in
    let popped = c.in-Some-pop.ensures.popped in
    record {
      turn = rw c.in-Some-pop.ensures.same_memory.1 (turn_resume (over o) c.pop.new.self.count popped.0 c.in-Some-pop.branch.place c.in-Some-pop.branch.floor c.in-Some-pop.branch.rows
          popped.1 popped.2 popped.3);
      same_seen = (kept o).0;
      same_memory = (kept o).1;
    }

pub returns-in_default-pop-clause-visits : goal.returns-in_default-pop-clause-visits
returns-in_default-pop-clause-visits c = turn_last (over (goal.at.returns-in_default-pop-clause-visits c).Joined-mark) c.in_default-pop.ensures.popped.0
