-- Each answer asks for the record that is counted, and the law for what is told of it.
use Rattle.std.proofs.Common.{◌+◌, arith}
use Rattle.places.proofs.Adding.{first, first_kind, inside_after, read_inside, read_own, read_groups, read_all, place_counted, empty_counted, summing_inside, summing_alone, summing_few, summing_more, summing_left, summing_all}
use Rattle.places.specs.Sums.{number_of}
use Rattle.places.proofs.sums.+counting.Goals as goal

pub Record::counted-sums-inside-requires : goal.Record::counted-sums-inside-requires
Record::counted-sums-inside-requires t c =
    let f = first c.requires.counting (omega (arith, c.requires.ends)) in
    let ek = first_kind _ f c.known_kind-kind.ensures in (
      omega (arith, c.inside_start.ensures, c.requires.ends, inside_after (number_of c.known_kind-kind.result) (c.args.self.at + 4) c.args.self.end (omega (arith, c.requires.ends))),
      read_inside _ _ ek c.requires.ends c.inside_start.ensures f,
    )

pub Record::counted-own_places-own-requires : goal.Record::counted-own_places-own-requires
Record::counted-own_places-own-requires t c =
    let f = first c.requires.counting (omega (arith, c.requires.ends)) in
    read_own _ _ (first_kind _ f c.known_kind-kind.ensures) c.requires.ends c.inside_start.ensures f c.sums-inside.ensures

pub Record::counted-own_groups-requires : goal.Record::counted-own_groups-requires
Record::counted-own_groups-requires t c =
    let f = first c.requires.counting (omega (arith, c.requires.ends)) in
    read_groups _ _ (first_kind _ f c.known_kind-kind.ensures) c.requires.ends c.inside_start.ensures f c.sums-inside.ensures

pub Record::counted-returns : goal.Record::counted-returns
Record::counted-returns t c =
    let f = first c.requires.counting (omega (arith, c.requires.ends)) in
    read_all _ _ (first_kind _ f c.known_kind-kind.ensures) c.requires.ends c.inside_start.ensures c.sums-inside.ensures c.own_places-own.ensures.0 c.min.ensures
    c.own_groups.ensures.0

pub Records::sums-sums-own-requires : goal.Records::sums-sums-own-requires
Records::sums-sums-own-requires t c =
    let s = c.loop-record.invariant.2 in
    (omega (arith, summing_inside c.requires s c.in-Some.ensures.steps), summing_alone c.requires s c.in-Some.ensures.steps)

pub Records::sums-overflow_add-sums : goal.Records::sums-overflow_add-sums
Records::sums-overflow_add-sums t c = omega (arith, summing_few c.requires c.loop-record.invariant.2 c.in-Some.ensures.steps c.sums-own.ensures)

pub Records::sums-loop-record-preserved : goal.Records::sums-loop-record-preserved
Records::sums-loop-record-preserved t c =
    let more = summing_more c.requires c.loop-record.invariant.2 c.in-Some.ensures.steps c.sums-own.ensures c.sum.ensures in
    (summing_left c.requires more, tt, more)

pub Records::sums-returns : goal.Records::sums-returns
Records::sums-returns t c = summing_all c.loop-record.invariant.2 c.in-None.ensures.steps

pub Record::sums-returns-in-Nothing : goal.Record::sums-returns-in-Nothing
Record::sums-returns-in-Nothing t c = place_counted c.requires.counting c.requires.ends c.known_kind.ensures c.in-Nothing.is

pub Record::sums-returns-in-Empty : goal.Record::sums-returns-in-Empty
Record::sums-returns-in-Empty t c = empty_counted c.requires.counting c.requires.ends c.known_kind.ensures c.in-Empty.is
