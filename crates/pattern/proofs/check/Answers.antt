-- `check` meets its promise: each of its ways out is one of the definition's.
use Rattle.std.proofs.Common.{arith}
use Rattle.std.proofs.lemmas.Result.{err_from_is_err_and}
use Rattle.pattern.proofs.Answering.{promised, walk_fault, bytes_after, too_many, taken}
use Rattle.pattern.proofs.check.Goals as goal

pub returns-in_err-found : goal.returns-in_err-found
returns-in_err-found c =
    let (e, is, same) = err_from_is_err_and c.from_residual.result c.from_residual.ensures.1 in
    rw (is, same) (promised (λ i. omega (arith, c.type_inv.pattern i)) (walk_fault c.args.pattern.now c.if-long-gt-BYTES.false c.in_err-found.ensures))

pub returns-then-found-long : goal.returns-then-found-long
returns-then-found-long c =
    rw c.at-then-found-long.ensures
    (promised (λ i. omega (arith, c.type_inv.pattern i)) (bytes_after c.args.pattern.now c.if-long-gt-BYTES.false c.in_ok-found.ensures c.if-found-long.true))

pub returns-then-found-ge-PLACES : goal.returns-then-found-ge-PLACES
returns-then-found-ge-PLACES c =
    rw c.at-then-found-ge-PLACES.ensures
    (promised (λ i. omega (arith, c.type_inv.pattern i)) (too_many c.args.pattern.now c.if-long-gt-BYTES.false c.in_ok-found.ensures c.if-found-long.false c.in_ok-found.ensures.before_stop c.if-found-ge-PLACES.true))

pub returns : goal.returns
returns c =
    promised (λ i. omega (arith, c.type_inv.pattern i)) (taken c.args.pattern.now c.if-long-gt-BYTES.false c.in_ok-found.ensures c.if-found-long.false c.in_ok-found.ensures.before_stop c.if-found-ge-PLACES.false)
