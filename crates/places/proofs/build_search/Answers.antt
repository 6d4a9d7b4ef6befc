-- `build_search`: the wrap's places stand around the pattern's, in their order.
use Rattle.std.proofs.Common.{◌+◌, arith, rules}
use Rattle.places.specs.Built.{BuiltSearch}
use Rattle.places.proofs.Walked.{pattern_stands}
use Rattle.places.proofs.Finished.{whole_places, whole_groups, whole_few, whole_one, search_built}
use Rattle.places.proofs.build_search.Goals as goal

pub overflow_add-second : goal.overflow_add-second
overflow_add-second c = omega (arith, whole_few c.requires.accepted)

pub overflow_add-end : goal.overflow_add-end
overflow_add-end c = omega (arith, whole_few c.requires.accepted)

pub captured-requires : goal.captured-requires
captured-requires c =
    let a = c.requires.accepted in
    let w = pattern_stands c.args.pattern.now a.tree a.found in
    let few = whole_few a in
    record {
      held = whole_one 5 (5 + c.args.places) w a.places_are a.groups_are (omega (arith, few)) (omega (arith, few));
      number = omega arith;
      room = omega (arith, few);
      follows = omega (arith, few);
    }

pub overflow_add-groups : goal.overflow_add-groups
overflow_add-groups c = omega (arith, whole_few c.requires.accepted)

pub any_star-requires-2 : goal.any_star-requires-2
any_star-requires-2 c =
    let few = whole_few c.requires.accepted in
    record {
      room = omega (arith, few);
      follows = omega (arith, few);
      first_small = omega (arith, few);
      long = omega (arith, c.captured.ensures.1.kept.same_length, c.any_star.ensures.1.kept.same_length);
    }

pub put-requires : goal.put-requires
put-requires c =
    rw c.plain.ensures
    (record {
      room = omega (
        arith,
        whole_few c.requires.accepted,
        c.any_star-2.ensures.1.kept.same_length,
        c.captured.ensures.1.kept.same_length,
        c.any_star.ensures.1.kept.same_length,
      );
      next_fits = omega arith;
      a_fits = omega arith;
      n_fits = omega arith;
    })

pub returns : goal.returns
returns c =
    let a = c.requires.accepted in
    let last = rw c.plain.ensures at c.put.ensures.1 in
    let built : BuiltSearch c.args.pattern.now c.args.table.now c.put.new.self.numbers.now (c.args.places + 6 + 4 + 1) =
    record {
      count_is = λ e found. omega (arith, whole_places a found);
      built = λ e found.
          search_built (pattern_stands c.args.pattern.now e found) (whole_places a found) (whole_groups a found) c.any_star.ensures.1 c.captured.ensures.1
          c.any_star-2.ensures.1 last;
    } in
    search (rules, built)
