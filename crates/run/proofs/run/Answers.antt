use Rattle.std.proofs.Common.{ℕ, List, ◌≡◌, ◌++◌, ◌∙◌, refl, ap, length, take, drop, true, false, arith, append-nil}
use Rattle.std.proofs.Math.Seq.{take_all}
use Rattle.std.proofs.lemmas.List.{drop_all}
use Rattle.paper.specs.Rows.{no_rows}
use Rattle.threads.specs.Threads.{stored, rows_in}
use Rattle.std.specs.Borrow.{MutBor}
use Rattle.run.proofs.Position.{ahead_read, position_first, position_last, position_asked, position_won, position_stopped, position_next}
use Rattle.run.proofs.run.Goals as goal
use Rattle.run.proofs.run.Goals.{else-loop-p-test, then-loop-p-test+else-wins+then-number-eq0, then-loop-p-test+else-wins+else-number-eq0+else-p-p-end}

pub loop-p-init : goal.loop-p-init
loop-p-init c =
    let front = c.split_at_mut-current.result.0.now in
    let current =
    ap (λ (rest : List ℕ). c.store.new.list ++ rest) (drop_all (length front) front (omega arith))
    ∙ (append-nil c.store.new.list ∙ (c.store.ensures ∙ ap (λ (l : List ℕ). stored l 0 0 no_rows) (take_all (length front) front (omega arith)))) in
    record {
      position = rw c.from-p.ensures (position_first c.args.table.code.now c.args.table.pattern.now c.args.line.now c.args.table.places c.args.start
          c.args.seen.now c.args.taken.now c.args.lists.now c.args.pending.now c.requires
          c.fill.new.self c.fill-2.new.self front (c.store.new.list ++ drop (length front) front) c.split_at_mut-current.result.1.now
          (c.fill.ensures.after (λ y e. e)) (c.fill-2.ensures.after (λ y e. e)) c.split_at_mut-current.ensures.front_len current c.split_at_mut-current.ensures.back_len);
      none_carried = refl;
    }

-- the whole of a list is the list
whole : (list : List ℕ) → take (length list) list ≡ list
whole list = take_all (length list) list (omega arith)

pub step-wins-requires-clause-stepping : goal.step-wins-requires-clause-stepping
step-wins-requires-clause-stepping c = rw (whole c.loop-p.current.now) (position_asked c.loop-p.invariant.position c.loop-p-test.true)

pub returns-then-wins : goal.returns-then-wins
returns-then-wins c =
    let state = c.step-wins.new.state in
    let list : c.swap.new.x.now ≡ state.carried.list.now = ap (λ (x : MutBor (List ℕ)). x.now) c.swap.ensures.x_after in
    position_won c.loop-p.invariant.position c.loop-p-test.true (ahead_read c.args.line.now c.loop-p.p c.get.result c.copied.result c.copied.ensures c.get.ensures.lookup c.loop-p-test.true)
    state.seen.now state.carried.taken.now state.carried.list.now state.carried.count state.steps true
    (take (length c.loop-p.current.now) c.loop-p.current.now) (whole c.loop-p.current.now) c.if-wins.ensures.steps refl c.thread_at-winner.result.rows
    (c.thread_at-winner.ensures.2 ∙ ap (λ (l : List ℕ). rows_in l state.carried.count) (whole c.swap.new.x.now ∙ list))

pub loop-p-preserved : goal.loop-p-preserved
loop-p-preserved c =
    let state = c.step-wins.new.state in
    let list : c.swap.new.x.now ≡ state.carried.list.now = ap (λ (x : MutBor (List ℕ)). x.now) c.swap.ensures.x_after in
    let current : c.swap.new.y.now ≡ c.loop-p.current.now = ap (λ (x : MutBor (List ℕ)). x.now) c.swap.ensures.y_after in
    record {
      position = rw (list, current) (position_next c.loop-p.invariant.position c.loop-p-test.true
          (ahead_read c.args.line.now c.loop-p.p c.get.result c.copied.result c.copied.ensures c.get.ensures.lookup c.loop-p-test.true)
          state.seen.now state.carried.taken.now state.carried.list.now state.carried.count state.steps false
          (take (length c.loop-p.current.now) c.loop-p.current.now) (whole c.loop-p.current.now) c.if-wins.ensures.steps refl (omega (arith, c.if-number-eq0.false))
          c.step-wins.ensures.same_tables.1 c.step-wins.new.pending c.step-wins.auto.pending);
      none_carried = refl;
    }

pub returns : goal.returns
returns c =
    elim c.loop-p-test.branch [
      | else-loop-p-test w ↦ rw w.state-is (position_last c.loop-p.invariant.position w.loop-p-test.false)
      | then-loop-p-test+else-wins+then-number-eq0 w ↦
          let state = w.step-wins.new.state in
          rw w.state-is (position_stopped c.loop-p.invariant.position w.loop-p-test.true
          (ahead_read c.args.line.now c.loop-p.p w.get.result w.copied.result w.copied.ensures w.get.ensures.lookup w.loop-p-test.true)
          state.seen.now state.carried.taken.now state.carried.list.now state.carried.count state.steps false
          (take (length c.loop-p.current.now) c.loop-p.current.now) (whole c.loop-p.current.now) w.if-wins.ensures.steps refl w.if-number-eq0.true)
      | then-loop-p-test+else-wins+else-number-eq0+else-p-p-end w ↦
          let state = w.step-wins.new.state in
          rw w.state-is (position_last (position_next c.loop-p.invariant.position w.loop-p-test.true
          (ahead_read c.args.line.now c.loop-p.p w.get.result w.copied.result w.copied.ensures w.get.ensures.lookup w.loop-p-test.true)
          state.seen.now state.carried.taken.now state.carried.list.now state.carried.count state.steps false
          (take (length c.loop-p.current.now) c.loop-p.current.now) (whole c.loop-p.current.now) w.if-wins.ensures.steps refl (omega (arith, w.if-number-eq0.false))
          w.step-wins.ensures.same_tables.1 w.step-wins.new.pending w.step-wins.auto.pending) (omega arith))
    ]
