-- What is there is accepted: where the record of a tree stands that keeps the table and the limits, the walk accepts that tree.
-- By recursion on the tree and its members.
use Prim.Native.Nat.{ℕ, zero, suc, ◌+◌, ◌-◌, ◌≤◌, ◌<◌}
use native.Mathlib.Omega.{arith}
use mathlib.Core.Path.{◌≡◌, refl, ◌∙◌, ap, subst}
use mathlib.Core.List.{List, [], ◌∷◌, ◌++◌}
use lib.Dec.{eqb}
use lib.ListN.{length, length-append}
use borrow.Author.Tests.{lt-ltb, le-leb, eq-eqb}
use Rattle.paper.specs.Limits.{pattern_groups}
use Rattle.paper.specs.Refusal.{Checked, accepted, ◌>>=◌, ◌>>◌, holds, broken_record, set_wrong, repeat_wrong, too_many_groups}
use Rattle.paper.specs.Pattern.{Mode, Upper, Range, Pattern, Members, groups, groups_of_all, levels, levels_of_all}
use Rattle.paper.specs.Pattern.Pattern.{nothing, empty, bytes, group, sequence, alternation, repeat}
use Rattle.paper.specs.Pattern.Members.{two, more}
use Rattle.paper.specs.Layout.{two_bytes, kind_number, upper_number, mode_number, repeat_bytes, range_bytes, record_of, records_of, CountsRight, WellMade, AllWellMade}
use Rattle.paper.specs.Check.{number_at, body_length, body_start, body_end, bare, ranges_of, set_right, repeat_numbers_right, upper_of, mode_of, repeat_head, single, walk_all, at_least_two, body, walk_record}
use Rattle.paper.proofs.layout.Accepted.{holds_passes}
use Rattle.paper.proofs.layout.Standing.{two_byte_end, Stands, Standing, stands_first, stands_second, number_standing, part_standing}
use Rattle.paper.proofs.layout.SetBody.{ranges_of_bytes, right_set}
use Rattle.paper.proofs.layout.RepeatBody.{upper_of_number, mode_of_number, counts_small, mode_small, right_numbers}
use Rattle.paper.proofs.layout.Turns.{walk_all_none, walk_all_accepts}
use Rattle.paper.proofs.layout.TreeRecord.{kind_of, body_of, length_record, tree_standing, end_standing}
use Rattle.paper.proofs.layout.MemberList.{list_of, members_accepted, Holder, sequence_holds, alternation_holds}
use Rattle.paper.proofs.layout.Header.{header_accepts}

-- a tree that keeps the table, whose record stands at `at` inside its holder and is within the limits
pub record Fitting (bs : List ℕ) (left at stop before : ℕ) (e : Pattern) : Type 0 where
  pub stands : Stands bs at (record_of e)
  pub ends : at + length (record_of e) ≤ stop
  pub inside : stop ≤ length bs
  pub short : length (record_of e) < two_byte_end
  pub made : WellMade e
  pub low : levels e ≤ left
  pub few : before + groups e ≤ pattern_groups

-- members that keep the table, whose records stand from `at` up to the holder's end and are within the limits
record FittingAll (bs : List ℕ) (left at stop before : ℕ) (ms : Members) : Type 0 where
  stands : Stands bs at (records_of ms)
  ends : at + length (records_of ms) ≡ stop
  inside : stop ≤ length bs
  short : length (records_of ms) < two_byte_end
  made : AllWellMade ms
  low : levels_of_all ms ≤ left
  few : before + groups_of_all ms ≤ pattern_groups

abbrev Accepts : List ℕ → Pattern → Type 0
Accepts bs e = (left at stop before : ℕ) → Fitting bs left at stop before e → walk_record left bs at stop before ≡ accepted e

abbrev AcceptsAll : List ℕ → Members → Type 0
AcceptsAll bs ms =
    (left at stop before turns : ℕ) → FittingAll bs left at stop before ms → stop - at ≤ turns
    → walk_all turns (walk_record left bs) bs at stop before ≡ accepted (list_of ms)

levels_positive : (e : Pattern) → 1 ≤ levels e
levels_positive nothing = omega arith
levels_positive empty = omega arith
levels_positive (bytes ranges) = omega arith
levels_positive (group e) = omega arith
levels_positive (sequence ms) = omega arith
levels_positive (alternation ms) = omega arith
levels_positive (repeat least upper mode e) = omega arith

module _ (bs : List ℕ) where
  -- where the record stands and a level is left, the walk is what the body's walk is
  enters : (e : Pattern) (left at stop before : ℕ) → Fitting bs left at stop before e
      → (Standing bs at (kind_number (kind_of e)) (body_of e) → (below : ℕ) → left ≡ suc below → body (kind_of e) (walk_record below bs) bs at before ≡ accepted e)
      → walk_record left bs at stop before ≡ accepted e
  enters e zero at stop before fit goes_on = absurd (omega (arith, levels_positive e, fit.low))
  enters e (suc below) at stop before fit goes_on =
      let here = tree_standing bs at e fit.short fit.stands in
      let end = end_standing bs at e fit.short fit.stands in
      ap (λ (c : Checked _). c >>= λ kind. body kind (walk_record below bs) bs at before) (header_accepts bs at stop (kind_of e) (omega (arith, end, fit.ends)) here.named)
      ∙ goes_on here below refl

  bare_accepts : (tree : Pattern) (at : ℕ) → body_length bs at ≡ 0 → bare tree bs at ≡ accepted tree
  bare_accepts tree at none = holds_passes broken_record at (accepted tree) (eq-eqb (body_length bs at) 0 none)

  set_accepts : (ranges : List Range) → Accepts bs (bytes ranges)
  set_accepts ranges left at stop before fit =
      enters (bytes ranges) left at stop before fit λ here below _.
      let end = end_standing bs at (bytes ranges) fit.short fit.stands in
      let inside : body_end bs at ≤ length bs = omega (arith, end, fit.ends, fit.inside) in
      let read = part_standing bs (body_start at) (body_end bs at) (range_bytes ranges) (omega (arith, here.size)) inside here.inside in
      ap (λ (l : List ℕ). holds (set_right l) set_wrong at >> accepted (bytes (ranges_of l))) read
      ∙ holds_passes set_wrong at (accepted (bytes (ranges_of (range_bytes ranges)))) (right_set ranges fit.made)
      ∙ ap (λ (rs : List Range). accepted (bytes rs)) (ranges_of_bytes ranges)

  -- the single record that fills what is left of its holder is accepted
  single_accepts : (e : Pattern) → Accepts bs e → (below at start before : ℕ) → start + length (record_of e) ≡ body_end bs at → Fitting bs below start (body_end bs at) before e
      → single (walk_record below bs) bs at start before ≡ accepted e
  single_accepts e accepts below at start before full fit =
      ap (λ (c : Checked Pattern). c >>= λ m. holds (eqb (body_end bs start) (body_end bs at)) broken_record at >> accepted m) (accepts below start (body_end bs at) before fit)
      ∙ holds_passes broken_record at (accepted e) (eq-eqb (body_end bs start) (body_end bs at) (end_standing bs start e fit.short fit.stands ∙ full))

  group_accepts : (e : Pattern) → Accepts bs e → Accepts bs (group e)
  group_accepts e accepts left at stop before fit =
      enters (group e) left at stop before fit λ here below left≡.
      let full : body_start at + length (record_of e) ≡ body_end bs at = omega (arith, here.size) in
      let end = end_standing bs at (group e) fit.short fit.stands in
      let long = length_record (group e) in
      holds_passes too_many_groups at (single (walk_record below bs) bs at (body_start at) (before + 1) >>= λ m. accepted (group m)) (lt-ltb before pattern_groups (omega (arith, fit.few)))
      ∙ ap (λ (c : Checked Pattern). c >>= λ m. accepted (group m))
      (single_accepts e accepts below at (body_start at) (before + 1) full
      (record {
        stands = here.inside;
        ends = omega arith;
        inside = omega (arith, end, fit.ends, fit.inside);
        short = omega (arith, long, fit.short);
        made = fit.made;
        low = omega (arith, fit.low);
        few = omega (arith, fit.few);
      }))

  -- the three numbers of a repeat are read where their bytes stand
  numbers_read : (start least : ℕ) (upper : Upper) (mode : Mode) → CountsRight least upper → Stands bs start (repeat_bytes least upper mode)
      → (number_at bs start ≡ least) × (number_at bs (start + 2) ≡ upper_number upper) × (number_at bs (start + 4) ≡ mode_number mode)
  numbers_read start least upper mode counts stands =
      let small = counts_small least upper counts in
      let most = upper_number upper in
      let last = mode_number mode in
      let ends = stands_first bs start (two_bytes least ++ two_bytes most) (two_bytes last) stands in (
        number_standing bs start least (omega (arith, small)) (stands_first bs start (two_bytes least) (two_bytes most) ends),
        number_standing bs (start + 2) most small.2 (stands_second bs start (two_bytes least) (two_bytes most) ends),
        number_standing bs (start + 4) last (omega (arith, mode_small mode)) (stands_second bs start (two_bytes least ++ two_bytes most) (two_bytes last) stands),
      )

  repeat_accepts : (least : ℕ) (upper : Upper) (mode : Mode) (e : Pattern) → Accepts bs e → Accepts bs (repeat least upper mode e)
  repeat_accepts least upper mode e accepts left at stop before fit =
      enters (repeat least upper mode e) left at stop before fit λ here below left≡.
      let start = body_start at in
      let tree = repeat least upper mode e in
      let end = end_standing bs at tree fit.short fit.stands in
      let long = length_record tree in
      let size = length-append (repeat_bytes least upper mode) (record_of e) in
      let full : start + repeat_head + length (record_of e) ≡ body_end bs at = omega (arith, here.size) in
      let fits : Fitting bs below (start + repeat_head) (body_end bs at) before e =
      record {
        stands = stands_second bs start (repeat_bytes least upper mode) (record_of e) here.inside;
        ends = omega arith;
        inside = omega (arith, end, fit.ends, fit.inside);
        short = omega (arith, long, fit.short);
        made = fit.made.1;
        low = omega (arith, fit.low);
        few = fit.few;
      } in
      let counts = fit.made.0 in
      let most = upper_number upper in
      let last = mode_number mode in
      let (least_read, most_read, mode_read) = numbers_read start least upper mode counts (stands_first bs start (repeat_bytes least upper mode) (record_of e) here.inside) in
      let inner = single (walk_record below bs) bs at (start + repeat_head) before in
      let behind : ℕ → ℕ → ℕ → Checked Pattern = λ a b c. inner >>= λ m. accepted (repeat a (upper_of b) (mode_of c) m) in
      let tested : ℕ → ℕ → ℕ → Checked Pattern = λ a b c. holds (repeat_numbers_right a b c) repeat_wrong at >> behind a b c in
      let found = tested (number_at bs start) (number_at bs (start + 2)) (number_at bs (start + 4)) in
      let read : found ≡ tested least most last = λ i. tested (least_read i) (most_read i) (mode_read i) in
      let back : accepted (repeat least (upper_of most) (mode_of last) e) ≡ accepted tree =
      λ i. accepted (repeat least (upper_of_number least upper counts i) (mode_of_number mode i) e) in
      holds_passes broken_record at found (le-leb repeat_head (body_length bs at) (omega (arith, here.size)))
      ∙ read
      ∙ holds_passes repeat_wrong at (behind least most last) (right_numbers least upper mode counts)
      ∙ ap (λ (c : Checked Pattern). c >>= λ m. accepted (repeat least (upper_of most) (mode_of last) m)) (single_accepts e accepts below at (start + repeat_head) before full fits)
      ∙ back

  holder_accepts : (tree : Members → Pattern) → Holder tree → (ms : Members) → AcceptsAll bs ms → Accepts bs (tree ms)
  holder_accepts tree holder ms accepts left at stop before fit =
      enters (tree ms) left at stop before fit λ here below left≡.
      let end = end_standing bs at (tree ms) fit.short fit.stands in
      let long = length_record (tree ms) in
      let same : length (body_of (tree ms)) ≡ length (records_of ms) = ap length (holder.inside ms) in
      holder.walked ms (walk_record below bs) bs at before
      ∙ ap (λ (c : Checked (List Pattern)). c >>= (λ es. at_least_two es at) >>= λ found. accepted (tree found))
      (accepts below (body_start at) (body_end bs at) before (body_length bs at)
      (record {
        stands = subst (Stands bs (body_start at)) (holder.inside ms) here.inside;
        ends = omega (arith, here.size);
        inside = omega (arith, end, fit.ends, fit.inside);
        short = omega (arith, long, fit.short);
        made = (holder.made ms).0 fit.made;
        low = omega (arith, holder.low ms, fit.low);
        few = omega (arith, holder.few ms, fit.few);
      })
      (omega arith))
      ∙ ap (λ (c : Checked Members). c >>= λ found. accepted (tree found)) (members_accepted ms at)

  -- a member before others that are accepted
  front_accepts : (e : Pattern) (es : List Pattern) → Accepts bs e → (left at stop before turns : ℕ) → Fitting bs left at stop before e → stop - at ≤ turns
      → walk_all turns (walk_record left bs) bs (at + length (record_of e)) stop (before + groups e) ≡ accepted es
      → walk_all turns (walk_record left bs) bs at stop before ≡ accepted (e ∷ es)
  front_accepts e es accepts left at stop before turns fit enough rest =
      let end = end_standing bs at e fit.short fit.stands in
      walk_all_accepts (walk_record left bs) bs turns at stop before e es enough (omega (arith, length_record e, fit.ends)) (accepts left at stop before fit)
      (ap (λ (n : ℕ). walk_all turns (walk_record left bs) bs n stop (before + groups e)) end ∙ rest)

  -- a member that stands before other bytes of its holder fits into it
  front_fits : (a : Pattern) (others : List ℕ) (left at stop before : ℕ) → Stands bs at (record_of a ++ others) → at + length (record_of a ++ others) ≡ stop → stop ≤ length bs
      → length (record_of a ++ others) < two_byte_end → WellMade a → levels a ≤ left → before + groups a ≤ pattern_groups → Fitting bs left at stop before a
  front_fits a others left at stop before stands ends inside short made low few =
      let size = length-append (record_of a) others in
      record {
        stands = stands_first bs at (record_of a) others stands;
        ends = omega arith;
        inside = inside;
        short = omega arith;
        made = made;
        low = low;
        few = few;
      }

  two_accept : (a b : Pattern) → Accepts bs a → Accepts bs b → AcceptsAll bs (two a b)
  two_accept a b first second left at stop before turns fit enough =
      let size = length-append (record_of a) (record_of b) in
      let after = at + length (record_of a) in
      let last : Fitting bs left after stop (before + groups a) b =
      record {
        stands = stands_second bs at (record_of a) (record_of b) fit.stands;
        ends = omega (arith, fit.ends);
        inside = fit.inside;
        short = omega (arith, fit.short);
        made = fit.made.1;
        low = omega (arith, fit.low);
        few = omega (arith, fit.few);
      } in
      front_accepts a (b ∷ []) first left at stop before turns
      (front_fits a (record_of b) left at stop before fit.stands fit.ends fit.inside fit.short fit.made.0 (omega (arith, fit.low)) (omega (arith, fit.few)))
      enough
      (front_accepts b [] second left after stop (before + groups a) turns last (omega arith)
      (walk_all_none turns (walk_record left bs) bs (after + length (record_of b)) stop (before + groups a + groups b) (omega (arith, fit.ends))))

  more_accept : (a : Pattern) (ms : Members) → Accepts bs a → AcceptsAll bs ms → AcceptsAll bs (more a ms)
  more_accept a ms first others left at stop before turns fit enough =
      let size = length-append (record_of a) (records_of ms) in
      let after = at + length (record_of a) in
      let rest : FittingAll bs left after stop (before + groups a) ms =
      record {
        stands = stands_second bs at (record_of a) (records_of ms) fit.stands;
        ends = omega (arith, fit.ends);
        inside = fit.inside;
        short = omega (arith, fit.short);
        made = fit.made.1;
        low = omega (arith, fit.low);
        few = omega (arith, fit.few);
      } in
      front_accepts a (list_of ms) first left at stop before turns
      (front_fits a (records_of ms) left at stop before fit.stands fit.ends fit.inside fit.short fit.made.0 (omega (arith, fit.low)) (omega (arith, fit.few)))
      enough
      (others left after stop (before + groups a) turns rest (omega arith))

mutual
  tree_accepts : (e : Pattern) (bs : List ℕ) → Accepts bs e
  tree_accepts nothing bs = λ left at stop before fit. enters bs nothing left at stop before fit λ here below _. bare_accepts bs nothing at here.size
  tree_accepts empty bs = λ left at stop before fit. enters bs empty left at stop before fit λ here below _. bare_accepts bs empty at here.size
  tree_accepts (bytes ranges) bs = set_accepts bs ranges
  tree_accepts (group e) bs = group_accepts bs e (tree_accepts e bs)
  tree_accepts (sequence ms) bs = holder_accepts bs sequence sequence_holds ms (members_accept ms bs)
  tree_accepts (alternation ms) bs = holder_accepts bs alternation alternation_holds ms (members_accept ms bs)
  tree_accepts (repeat least upper mode e) bs = repeat_accepts bs least upper mode e (tree_accepts e bs)

  members_accept : (ms : Members) (bs : List ℕ) → AcceptsAll bs ms
  members_accept (two a b) bs = two_accept bs a b (tree_accepts a bs) (tree_accepts b bs)
  members_accept (more a ms) bs = more_accept bs a ms (tree_accepts a bs) (members_accept ms bs)

-- the walk accepts what is there
pub walk_accepts : (bs : List ℕ) (left at stop before : ℕ) (e : Pattern) → Fitting bs left at stop before e → walk_record left bs at stop before ≡ accepted e
walk_accepts bs left at stop before e fit = tree_accepts e bs left at stop before fit
