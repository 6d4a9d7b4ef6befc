-- Checking's refusals, or the machine that building wrote.
use Rattle.std.proofs.Common.{arith, refl}
use Rattle.std.proofs.lemmas.Result.{err_from_is_err_and}
use Rattle.machine.proofs.Building.{tree_of, fault_of, accepted_of, builds_match, builds_search}
use Rattle.machine.proofs.build.Goals as goal

pub returns-in_err-numbers : goal.returns-in_err-numbers
returns-in_err-numbers c =
    let (e, is, same) = err_from_is_err_and c.from_residual.result c.from_residual.ensures.1 in
    rw (is, same) (fault_of c.check.ensures c.in_err-numbers.was, refl)

pub build_search-requires-clause-accepted : goal.build_search-requires-clause-accepted
build_search-requires-clause-accepted c = accepted_of (tree_of c.check.ensures c.in_ok-numbers.was)

pub build_match-requires-clause-accepted : goal.build_match-requires-clause-accepted
build_match-requires-clause-accepted c = accepted_of (tree_of c.check.ensures c.in_ok-numbers.was)

pub returns-then-searches : goal.returns-then-searches
returns-then-searches c =
    builds_search c.args.pattern.now c.args.code.now c.build_search.new.table (λ i. (c.type_inv.pattern i).fits) c.requires
    c.args.searches c.if-searches.true (omega arith) (tree_of c.check.ensures c.in_ok-numbers.was) c.build_search.ensures

pub returns-else-searches : goal.returns-else-searches
returns-else-searches c =
    builds_match c.args.pattern.now c.args.code.now c.build_match.new.table (λ i. (c.type_inv.pattern i).fits) c.requires
    c.args.searches c.if-searches.false (tree_of c.check.ensures c.in_ok-numbers.was) c.build_match.ensures
