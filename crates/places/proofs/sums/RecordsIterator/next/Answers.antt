-- `next`: what is left behind the first stands as well.
use Rattle.std.proofs.Common.{◌+◌, arith, rules}
use Rattle.places.specs.Sums.{Counting}
use Rattle.places.proofs.Adding.{first, others}
use Rattle.places.proofs.sums.RecordsIterator.next.Goals as goal

pub number_at-requires : goal.number_at-requires
number_at-requires c = let f = first c.requires (omega arith) in omega (arith, f.fits, f.ends)

pub returns-clause-goes : goal.returns-clause-goes
returns-clause-goes c =
    let f = first c.requires (omega arith) in
    let rest : Counting c.args.self.now.pattern.now (c.args.self.now.at + 4 + c.number_at.result) c.args.self.now.stop =
    rw c.number_at.ensures.0 (others c.requires (omega arith)) in
    search (rules, rest, f.fits)
