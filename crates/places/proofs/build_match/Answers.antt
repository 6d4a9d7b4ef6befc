-- `build_match`: the pattern is one record, laid from 0 on, and the accepting place follows.
use Rattle.std.proofs.Common.{◌+◌, arith, rules}
use Rattle.places.specs.Built.{BuiltMatch}
use Rattle.places.proofs.Walked.{pattern_stands}
use Rattle.places.proofs.Finished.{whole_places, whole_groups, whole_few, whole_one, match_built}
use Rattle.places.proofs.build_match.Goals as goal

pub one-requires : goal.one-requires
one-requires c =
    let a = c.requires.accepted in
    let w = pattern_stands c.args.pattern.now a.tree a.found in
    whole_one 0 c.args.places w a.places_are a.groups_are (omega (arith, w.few_places, a.places_are)) (omega (arith, w.few_places, a.places_are))

pub put-requires : goal.put-requires
put-requires c =
    rw c.plain.ensures
    (record {
      room = omega (arith, whole_few c.requires.accepted, c.one.ensures.1.kept.same_length);
      next_fits = omega arith;
      a_fits = omega arith;
      n_fits = omega arith;
    })

pub returns : goal.returns
returns c =
    let a = c.requires.accepted in
    let last = rw c.plain.ensures at c.put.ensures.1 in
    let built : BuiltMatch c.args.pattern.now c.args.table.now c.put.new.self.numbers.now (c.args.places + 1) =
    record {
      count_is = λ e found. omega (arith, whole_places a found);
      built = λ e found.
          match_built (pattern_stands c.args.pattern.now e found) (whole_places a found) (whole_groups a found) c.one.ensures.1 last;
    } in
    search (rules, built)
