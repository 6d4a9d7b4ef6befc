-- Each answer cites the law for its kind of record, or for the step of a row.
use Rattle.std.proofs.Common.{arith, refl, sym, ◌∙◌, false, true}
use Rattle.places.proofs.Repeats.{inner_ask, passes_ask, repeat_passes}
use Rattle.places.proofs.Records.{nothing_to_lay, empty_laid, stop_laid, set_ask, set_laid, captured_laid, group_two, group_some, group_ask, group_laid, repeat_ask, repeat_laid, row_ask, row_laid, in_sequence, in_alternation, kind_found}
use Rattle.places.proofs.Rows.{more_counting, more_few, more_inside, join_sum, join_ask, join_one, join_rest, row_header, along_one, along_ask, along_last}
use Rattle.places.proofs.walk.Part.+walking.Goals as goal

pub captured-one-requires : goal.captured-one-requires
captured-one-requires t c = (omega arith, c.requires.held)

pub captured-returns : goal.captured-returns
captured-returns t c =
    (c.put-2.ensures.0 ∙ c.one.ensures.0 ∙ c.put.ensures.0, captured_laid c.entered.ensures c.put.ensures.1 c.one.ensures.1 c.put-2.ensures.1)

pub one-returns-then-self-eq0 : goal.one-returns-then-self-eq0
one-returns-then-self-eq0 t c = (refl, nothing_to_lay c.if-self-eq0.true)

pub one-returns-in-Nothing : goal.one-returns-in-Nothing
one-returns-in-Nothing t c =
    (c.put.ensures.0, stop_laid c.if-self-eq0.false (kind_found c.known_kind.ensures c.in-Nothing.is c.requires) (rw c.plain.ensures at c.put.ensures.1))

pub one-returns-in-Empty : goal.one-returns-in-Empty
one-returns-in-Empty t c = (refl, empty_laid c.requires (kind_found c.known_kind.ensures c.in-Empty.is c.requires))

pub one-set_place-requires : goal.one-set_place-requires
one-set_place-requires t c = set_ask c.requires c.if-self-eq0.false (kind_found c.known_kind.ensures c.in-Bytes.is c.requires)

pub one-returns-in-Bytes : goal.one-returns-in-Bytes
one-returns-in-Bytes t c =
    (c.set_place.ensures.0, set_laid c.if-self-eq0.false (kind_found c.known_kind.ensures c.in-Bytes.is c.requires) c.set_place.ensures.1)

pub one-group-requires : goal.one-group-requires
one-group-requires t c = (omega arith, (c.requires, kind_found c.known_kind.ensures c.in-Group.is c.requires))

pub group-overflow_sub-held : goal.group-overflow_sub-held
group-overflow_sub-held t c = group_two c.requires.one c.requires.group

pub group-overflow_sub-held-2 : goal.group-overflow_sub-held-2
group-overflow_sub-held-2 t c = group_some c.requires.one c.requires.group

pub group-captured-requires : goal.group-captured-requires
group-captured-requires t c = (omega arith, group_ask c.requires.one c.requires.group)

pub group-returns : goal.group-returns
group-returns t c = (c.captured.ensures.0, group_laid c.requires.one c.requires.group c.captured.ensures.1)

pub one-row-requires : goal.one-row-requires
one-row-requires t c = (omega arith, row_ask false (in_sequence (kind_found c.known_kind.ensures c.in-Sequence.is c.requires)) c.requires)

pub one-returns-in-Sequence : goal.one-returns-in-Sequence
one-returns-in-Sequence t c =
    (c.row.ensures.0, row_laid false (in_sequence (kind_found c.known_kind.ensures c.in-Sequence.is c.requires)) c.row.ensures.1)

pub one-row-requires-in-Alternation : goal.one-row-requires-in-Alternation
one-row-requires-in-Alternation t c = (omega arith, row_ask true (in_alternation (kind_found c.known_kind.ensures c.in-Alternation.is c.requires)) c.requires)

pub one-returns-in-Alternation : goal.one-returns-in-Alternation
one-returns-in-Alternation t c =
    (c.row-in-Alternation.ensures.0, row_laid true (in_alternation (kind_found c.known_kind.ensures c.in-Alternation.is c.requires)) c.row-in-Alternation.ensures.1)

pub one-repeated-requires : goal.one-repeated-requires
one-repeated-requires t c = (omega arith, repeat_ask c.requires c.if-self-eq0.false (kind_found c.known_kind.ensures c.in-Repeat.is c.requires))

pub one-returns-in-Repeat : goal.one-returns-in-Repeat
one-returns-in-Repeat t c =
    (c.repeated.ensures.0, repeat_laid c.if-self-eq0.false (kind_found c.known_kind.ensures c.in-Repeat.is c.requires) c.repeated.ensures.1)

pub repeated-one-requires : goal.repeated-one-requires
repeated-one-requires t c = (
  omega arith,
  inner_ask c.requires c.number_at-must.ensures.0 c.number_at-most.ensures.0 c.number_at-mode.ensures.0 c.optional-may.ensures c.inner_places-places.ensures
      c.inner_start-model.ensures,
)

pub repeated-overflow_add-inner-2 : goal.repeated-overflow_add-inner-2
repeated-overflow_add-inner-2 t c =
    omega (
      arith,
      (inner_ask c.requires c.number_at-must.ensures.0 c.number_at-most.ensures.0 c.number_at-mode.ensures.0 c.optional-may.ensures
          c.inner_places-places.ensures c.inner_start-model.ensures).room,
    )

pub repeated-lay-requires : goal.repeated-lay-requires
repeated-lay-requires t c =
    passes_ask c.requires c.number_at-must.ensures.0 c.number_at-most.ensures.0 c.number_at-mode.ensures.0 c.optional-may.ensures c.inner_places-places.ensures
    c.inner_start-model.ensures

pub repeated-returns : goal.repeated-returns
repeated-returns t c = (
  c.lay.ensures.0 ∙ c.one.ensures.0,
  repeat_passes c.requires c.number_at-must.ensures.0 c.number_at-most.ensures.0 c.number_at-mode.ensures.0 c.optional-may.ensures c.inner_places-places.ensures
      c.inner_start-model.ensures c.one.ensures.1 c.lay.ensures.1,
)

pub row-record_end-end-requires-clause-header : goal.row-record_end-end-requires-clause-header
row-record_end-end-requires-clause-header t c = omega (arith, row_header c.requires)

pub row-sums-own-requires : goal.row-sums-own-requires
row-sums-own-requires t c = let i = c.loop-end.invariant.1 in record { counting = more_counting i.end_is c.loop-end-test.true i.row; ends = sym i.end_is }

pub row-overflow_sub-rest : goal.row-overflow_sub-rest
row-overflow_sub-rest t c =
    let i = c.loop-end.invariant.1 in omega (arith, join_sum i.end_is c.loop-end-test.true c.sums-own.ensures c.args.forks c.from-head.ensures i.row)

pub row-overflow_sub-rest-in-loop-end : goal.row-overflow_sub-rest-in-loop-end
row-overflow_sub-rest-in-loop-end t c =
    let i = c.loop-end.invariant.1 in omega (arith, join_sum i.end_is c.loop-end-test.true c.sums-own.ensures c.args.forks c.from-head.ensures i.row)

pub row-joined-next-requires : goal.row-joined-next-requires
row-joined-next-requires t c =
    let i = c.loop-end.invariant.1 in rw i.same_next (join_ask i.end_is c.loop-end-test.true c.sums-own.ensures c.args.forks c.from-head.ensures i.row)

pub row-one-requires : goal.row-one-requires
row-one-requires t c =
    let i = c.loop-end.invariant.1 in
    let j = rw i.same_next at c.joined-next.ensures.1 in (
      omega (arith, i.passed, i.end_is, row_header i.row),
      rw i.same_pattern (join_one i.end_is c.loop-end-test.true c.sums-own.ensures c.args.forks _ _ c.from-head.ensures j i.row),
    )

pub row-overflow_add-left : goal.row-overflow_add-left
row-overflow_add-left t c =
    let i = c.loop-end.invariant.1 in omega (arith, more_few i.end_is c.loop-end-test.true c.sums-own.ensures i.row)

pub row-overflow_sub-left : goal.row-overflow_sub-left
row-overflow_sub-left t c = let i = c.loop-end.invariant.1 in more_inside i.end_is c.loop-end-test.true c.sums-own.ensures i.row

pub row-record_end-end-requires-in-loop-end-clause-header : goal.row-record_end-end-requires-in-loop-end-clause-header
row-record_end-end-requires-in-loop-end-clause-header t c =
    let i = c.loop-end.invariant.1 in
    omega (arith, row_header (join_rest i.end_is c.loop-end-test.true c.sums-own.ensures c.args.forks c.from-head.ensures i.row))

pub row-loop-end-preserved : goal.row-loop-end-preserved
row-loop-end-preserved t c =
    let i = c.loop-end.invariant.1 in
    let j = rw i.same_next at c.joined-next.ensures.1 in
    let o = rw i.same_pattern at c.one.ensures.1 in (
      c.one.ensures.0 ∙ c.joined-next.ensures.0 ∙ c.loop-end.invariant.0,
      along_one i c.loop-end-test.true c.sums-own.ensures c.from-head.ensures j o c.record_end-end-in-loop-end.ensures,
    )

pub row-one-requires-2 : goal.row-one-requires-2
row-one-requires-2 t c =
    let i = c.loop-end.invariant.1 in (omega (arith, i.passed, i.same_stop), along_ask i c.loop-end-test.false)

pub row-returns : goal.row-returns
row-returns t c = let i = c.loop-end.invariant.1 in (c.one-2.ensures.0 ∙ c.loop-end.invariant.0, along_last i c.loop-end-test.false c.one-2.ensures.1)
