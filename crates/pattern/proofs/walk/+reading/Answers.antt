-- Each answer cites the law for its way out.
use Rattle.std.proofs.Common.{sym, ◌∙◌, ◌≡◌, max, arith, rules}
use Rattle.std.proofs.lemmas.Result.{err_from_is_err_and}
use Rattle.paper.specs.Check.{walk_record}
use Rattle.pattern.specs.Kinds.{kind_of}
use Rattle.pattern.proofs.Walking.{one_level, passed_on, repeat_counts, several_counts}
use Rattle.pattern.proofs.Turning.{begun, bad_one, one_more}
use Rattle.pattern.proofs.walk.+reading.Goals as goal
use Rattle.pattern.proofs.walk.+reading.Goals.{Body::several-then-forks, Body::several-else-forks}

pub any_record-returns : goal.any_record-returns
any_record-returns t c =
    let s = c.args.s.now in
    let shown = c.in-Some.ensures in
    let known = c.in-Ok.ensures ∙ shown.1 in
    passed_on c.args.before c.walk.result (omega arith) (omega arith) shown.3 (one_level s c.args.at c.args.stop c.args.before c.args.levels (kind_of c.in-Ok.kind) c.if-levels-eq0.false shown.0 known) c.walk.ensures

pub Body::repeat-returns : goal.Body::repeat-returns
Body::repeat-returns t c =
    let self = c.args.self in
    let right = sym c.right.ensures ∙ c.if-not-right.false in
    rw c.passes.ensures
    (repeat_counts (walk_record self.left self.s.now) self.s.now self.at self.end self.left c.args.before
    self.starts c.number_at-least.ensures.0 c.number_at-most.ensures.0 c.number_at-mode.ensures.0 (omega arith) right c.optional-optional.ensures c.from.ensures c.in_ok-inner.ensures)

pub Body::several-returns : goal.Body::several-returns
Body::several-returns t c =
    let self = c.args.self in
    rw c.sum.ensures
    (several_counts c.args.forks (walk_record self.left self.s.now) self.s.now self.at self.end self.left c.args.before c.in_ok-members.ensures (omega arith)
    (elim c.if-forks.branch [ Body::several-then-forks w ↦ rw w.if-forks.true w.forked-is | Body::several-else-forks w ↦ rw w.if-forks.false w.forked-is ]))

pub Body::all-loop-next-init : goal.Body::all-loop-next-init
Body::all-loop-next-init t c =
    let self = c.args.self in
    begun (walk_record self.left self.s.now) self.s.now self.at self.left c.args.before self.starts self.ends c.requires

pub Body::all-returns-in_err-record : goal.Body::all-returns-in_err-record
Body::all-returns-in_err-record t c =
    let (e, is, same) = err_from_is_err_and c.from_residual.result c.from_residual.ensures.1 in
    rw (is, same) (bad_one c.loop-next.invariant c.loop-next-test.true c.in_err-record.ensures)

pub Body::all-loop-next-preserved : goal.Body::all-loop-next-preserved
Body::all-loop-next-preserved t c =
    let deeper : c.max-depth.result ≡ max c.loop-next.depth c.in_ok-record.record.depth = search rules in
    rw (c.sum-places.ensures, deeper) (one_more c.loop-next.invariant c.loop-next-test.true c.in_ok-record.ensures)
