-- What the walk accepts is there: where it accepts a tree, the tree's record stands, ends where the record ends, and keeps the table and the limits.
-- By recursion on the levels left; inside a sequence or an alternation by the induction over the walk's turns.
use Prim.Native.Nat.{ℕ, zero, suc, ◌+◌, ◌≤◌, ◌<◌}
use native.Mathlib.Omega.{arith}
use mathlib.Core.Path.{◌≡◌, refl, sym, ◌∙◌, ap, subst}
use mathlib.Core.List.{List, [], ◌∷◌, ◌++◌}
use lib.Dec.{leb, ltb, eqb}
use lib.ListN.{length, length-append}
use borrow.Author.Tests.{ltb-true, eqb-true}
use Rattle.paper.specs.Limits.{pattern_groups}
use Rattle.paper.specs.Refusal.{refused, accepted, ◌>>=◌, ◌>>◌, holds, broken_record, set_wrong, repeat_wrong, too_deep, too_many_groups}
use Rattle.paper.specs.Pattern.{Pattern, Members, groups, levels}
use Rattle.paper.specs.Pattern.Pattern.{nothing, empty, bytes, group, sequence, alternation, repeat}
use Rattle.paper.specs.Layout.{two_bytes, Kind, nothing_kind, empty_kind, bytes_kind, group_kind, sequence_kind, alternation_kind, repeat_kind, kind_number, upper_number, mode_number, repeat_bytes, record_of, WellMade}
use Rattle.paper.specs.Check.{number_at, body_length, kind_at, body_start, body_end, part, header, bare, ranges_of, set_right, byte_set, repeat_numbers_right, upper_of, mode_of, repeat_head, Walk, single, walk_all, at_least_two, several, body, walk_record}
use Rattle.paper.proofs.layout.Accepted.{refused_not_accepted, accepted_injective, bind_accepted, holds_accepted}
use Rattle.paper.proofs.layout.Standing.{Bytes, Stands, stands_at, stands_append, stands_number, stands_record, stands_part, length_part}
use Rattle.paper.proofs.layout.SetBody.{bytes_of_ranges, bytes_part, set_right_law}
use Rattle.paper.proofs.layout.RepeatBody.{upper_number_of, numbers_right}
use Rattle.paper.proofs.layout.Turns.{Within, walk_all_induction}
use Rattle.paper.proofs.layout.MemberList.{list_of, joined, groups_in, Each, list_accepted, records_joined, groups_listed, all_well_made, levels_listed, Holder, sequence_holds, alternation_holds}
use Rattle.paper.proofs.layout.TreeRecord.{kind_of, body_of, record_of_body, length_record}
use Rattle.paper.proofs.layout.Header.{header_accepted, walk_within}

-- a tree whose record stands at `at`, with so many levels left for it and so many groups before it
pub record Found (left : ℕ) (bs : List ℕ) (at before : ℕ) (e : Pattern) : Type 0 where
  pub stands : Stands bs at (record_of e)
  pub ends : body_end bs at ≡ at + length (record_of e)
  pub made : WellMade e
  pub low : levels e ≤ left
  pub few : before ≤ pattern_groups → before + groups e ≤ pattern_groups

-- a list of trees whose records stand one behind the other from `at` up to `stop`
pub record FoundAll (left : ℕ) (bs : List ℕ) (stop at before : ℕ) (es : List Pattern) : Type 0 where
  pub stands : Stands bs at (joined es)
  pub ends : at + length (joined es) ≡ stop
  pub made : Each WellMade es
  pub low : Each (λ e. levels e ≤ left) es
  pub few : before ≤ pattern_groups → before + groups_in es ≤ pattern_groups

-- a walk that accepts only what is there
abbrev pub Finds : ℕ → List ℕ → Walk → Type 0
Finds left bs walk = (at stop before : ℕ) (e : Pattern) → stop ≤ length bs → walk at stop before ≡ accepted e → Found left bs at before e

-- a record of the tree's kind around the tree's body
module _ (bs : List ℕ) (small : Bytes bs) (left at before : ℕ) where
  found_around : (e : Pattern) → kind_at bs at ≡ kind_number (kind_of e) → body_length bs at ≡ length (body_of e) → Stands bs (body_start at) (body_of e)
      → WellMade e → levels e ≤ left → (before ≤ pattern_groups → before + groups e ≤ pattern_groups) → Found left bs at before e
  found_around e named size inside made low few =
      record {
        stands = subst (Stands bs at) (sym (record_of_body e)) (stands_record bs small at (kind_number (kind_of e)) (body_of e) size named inside);
        ends = omega (arith, length_record e);
        made = made;
        low = low;
        few = few;
      }

module _ (bs : List ℕ) (small : Bytes bs) (left : ℕ) (walk : Walk) (within : Within bs walk) (finds : Finds left bs walk) (at before : ℕ) (fits : body_end bs at ≤ length bs) where
  -- the single record inside a group or a repeat is there, and nothing behind it
  single_finds : (start groups_before : ℕ) (e : Pattern) → single walk bs at start groups_before ≡ accepted e → Found left bs start groups_before e × (body_end bs start ≡ body_end bs at)
  single_finds start groups_before e accepts =
      let (m, walked, f) = bind_accepted (walk start (body_end bs at) groups_before) (λ m. holds (eqb (body_end bs start) (body_end bs at)) broken_record at >> accepted m) accepts in
      let (same, g) = holds_accepted (eqb (body_end bs start) (body_end bs at)) broken_record at (accepted m) f in
      (subst (Found left bs start groups_before) (accepted_injective g) (finds start (body_end bs at) groups_before m fits walked), eqb-true (body_end bs start) (body_end bs at) same)

  all_found : (es : List Pattern) → walk_all (body_length bs at) walk bs (body_start at) (body_end bs at) before ≡ accepted es → FoundAll left bs (body_end bs at) (body_start at) before es
  all_found es =
      walk_all_induction bs walk within (body_end bs at) (FoundAll left bs (body_end bs at)) none one (body_length bs at) (body_start at) before es (omega arith) (omega arith)
    where
      none : (groups_before : ℕ) → FoundAll left bs (body_end bs at) (body_end bs at) groups_before []
      none groups_before = record { stands = tt; ends = omega arith; made = tt; low = tt; few = λ h. omega arith }

      one : (from groups_before : ℕ) (m : Pattern) (ms : List Pattern) → from < body_end bs at → walk from (body_end bs at) groups_before ≡ accepted m
          → FoundAll left bs (body_end bs at) (body_end bs from) (groups_before + groups m) ms → FoundAll left bs (body_end bs at) from groups_before (m ∷ ms)
      one from groups_before m ms _ walked rest =
          let first = finds from (body_end bs at) groups_before m fits walked in
          record {
            stands = stands_append bs from (record_of m) (joined ms) first.stands (stands_at bs (joined ms) first.ends rest.stands);
            ends = omega (arith, length-append (record_of m) (joined ms), first.ends, rest.ends);
            made = (first.made, rest.made);
            low = (first.low, rest.low);
            few = λ h. omega (arith, rest.few (first.few h));
          }

  -- the records inside a sequence or an alternation are there, and nothing behind them
  several_finds : (ms : Members) → several walk bs at before ≡ accepted ms → FoundAll left bs (body_end bs at) (body_start at) before (list_of ms)
  several_finds ms accepts =
      let (es, walked, f) = bind_accepted (walk_all (body_length bs at) walk bs (body_start at) (body_end bs at) before) (λ es. at_least_two es at) accepts in
      subst (FoundAll left bs (body_end bs at) (body_start at) before) (sym (list_accepted es at ms f)) (all_found es walked)

  -- a record without a body
  bare_finds : (tree e : Pattern) → body_of tree ≡ [] → WellMade tree → levels tree ≡ 1 → groups tree ≡ 0 → kind_at bs at ≡ kind_number (kind_of tree) → bare tree bs at ≡ accepted e
      → Found (suc left) bs at before e
  bare_finds tree e none made one zero-groups named accepts =
      let (t, f) = holds_accepted (eqb (body_length bs at) 0) broken_record at (accepted tree) accepts in
      let size : body_length bs at ≡ length (body_of tree) = eqb-true (body_length bs at) 0 t ∙ ap length (sym none) in
      let inside : Stands bs (body_start at) (body_of tree) = subst (Stands bs (body_start at)) (sym none) tt in
      subst (Found (suc left) bs at before) (accepted_injective f)
      (found_around bs small (suc left) at before tree named size inside made (omega arith) (λ h. omega arith))

  set_finds : (e : Pattern) → kind_at bs at ≡ kind_number bytes_kind → byte_set bs at ≡ accepted e → Found (suc left) bs at before e
  set_finds e named accepts =
      let inner = part bs (body_start at) (body_end bs at) in
      let (t, f) = holds_accepted (set_right inner) set_wrong at (accepted (bytes (ranges_of inner))) accepts in
      let right = set_right_law inner (bytes_part bs (body_start at) (body_end bs at) small) t in
      let again = bytes_of_ranges inner right.0 in
      let long : length inner ≡ body_length bs at = omega (arith, length_part bs (body_start at) (body_end bs at) fits) in
      subst (Found (suc left) bs at before) (accepted_injective f)
      (found_around bs small (suc left) at before (bytes (ranges_of inner)) named
      (sym (ap length again ∙ long))
      (subst (Stands bs (body_start at)) (sym again) (stands_part bs (body_start at) (body_end bs at) (omega arith) fits))
      right.1
      (omega arith)
      (λ h. omega arith))

  group_finds : (e : Pattern) → kind_at bs at ≡ kind_number group_kind → body group_kind walk bs at before ≡ accepted e → Found (suc left) bs at before e
  group_finds e named accepts =
      let inner = single walk bs at (body_start at) (before + 1) in
      let (t, f) = holds_accepted (ltb before pattern_groups) too_many_groups at (inner >>= λ m. accepted (group m)) accepts in
      let (m, walked, g) = bind_accepted inner (λ m. accepted (group m)) f in
      let (found, same) = single_finds (body_start at) (before + 1) m walked in
      let room = ltb-true before pattern_groups t in
      subst (Found (suc left) bs at before) (accepted_injective g)
      (found_around bs small (suc left) at before (group m) named (omega (arith, found.ends)) found.stands found.made (omega (arith, found.low))
      (λ h. omega (arith, found.few (omega arith))))

  members_find : (tree : Members → Pattern) → Holder tree → ((ms : Members) → kind_at bs at ≡ kind_number (kind_of (tree ms))) → (e : Pattern)
      → several walk bs at before >>= (λ ms. accepted (tree ms)) ≡ accepted e → Found (suc left) bs at before e
  members_find tree holder named e accepts =
      let (ms, walked, f) = bind_accepted (several walk bs at before) (λ ms. accepted (tree ms)) accepts in
      let found = several_finds ms walked in
      let same = holder.inside ms ∙ records_joined ms in
      subst (Found (suc left) bs at before) (accepted_injective f)
      (found_around bs small (suc left) at before (tree ms) (named ms)
      (omega (arith, ap length same, found.ends))
      (subst (Stands bs (body_start at)) (sym same) found.stands)
      ((holder.made ms).1 (all_well_made ms found.made))
      (omega (arith, holder.low ms, levels_listed ms found.low))
      (λ h. omega (arith, holder.few ms, groups_listed ms, found.few h)))

  repeat_finds : (e : Pattern) → kind_at bs at ≡ kind_number repeat_kind → body repeat_kind walk bs at before ≡ accepted e → Found (suc left) bs at before e
  repeat_finds e named accepts =
      let start = body_start at in
      let least = number_at bs start in
      let most = number_at bs (start + 2) in
      let mode = number_at bs (start + 4) in
      let inner = single walk bs at (start + repeat_head) before in
      let tree : Pattern → Pattern = λ m. repeat least (upper_of most) (mode_of mode) m in
      let (t, f) = holds_accepted (leb repeat_head (body_length bs at)) broken_record at (holds (repeat_numbers_right least most mode) repeat_wrong at >> (inner >>= λ m. accepted (tree m))) accepts in
      let (u, g) = holds_accepted (repeat_numbers_right least most mode) repeat_wrong at (inner >>= λ m. accepted (tree m)) f in
      let (m, walked, h) = bind_accepted inner (λ m. accepted (tree m)) g in
      let (found, same) = single_finds (start + repeat_head) before m walked in
      let (counts, kept) = numbers_right least most mode u in
      subst (Found (suc left) bs at before) (accepted_injective h)
      (found_around bs small (suc left) at before (tree m) named
      (omega (arith, length-append (repeat_bytes least (upper_of most) (mode_of mode)) (record_of m), found.ends))
      (stands_append bs start (repeat_bytes least (upper_of most) (mode_of mode)) (record_of m)
      (stands_append bs start (two_bytes least ++ two_bytes (upper_number (upper_of most))) (two_bytes (mode_number (mode_of mode)))
      (stands_append bs start (two_bytes least) (two_bytes (upper_number (upper_of most)))
      (stands_number bs small start least refl)
      (stands_number bs small (start + 2) (upper_number (upper_of most)) (sym (upper_number_of most))))
      (stands_number bs small (start + 4) (mode_number (mode_of mode)) (sym kept)))
      found.stands)
      (counts, found.made)
      (omega (arith, found.low))
      (λ few. found.few few))

  -- an accepted record of each kind is there
  body_finds : (k : Kind) (e : Pattern) → kind_at bs at ≡ kind_number k → body k walk bs at before ≡ accepted e → Found (suc left) bs at before e
  body_finds nothing_kind e named accepts = bare_finds nothing e refl tt refl refl named accepts
  body_finds empty_kind e named accepts = bare_finds empty e refl tt refl refl named accepts
  body_finds bytes_kind e named accepts = set_finds e named accepts
  body_finds group_kind e named accepts = group_finds e named accepts
  body_finds sequence_kind e named accepts = members_find sequence sequence_holds (λ ms. named) e accepts
  body_finds alternation_kind e named accepts = members_find alternation alternation_holds (λ ms. named) e accepts
  body_finds repeat_kind e named accepts = repeat_finds e named accepts

-- the walk accepts only what is there
pub walk_finds : (bs : List ℕ) → Bytes bs → (left : ℕ) → Finds left bs (walk_record left bs)
walk_finds bs small zero at stop before e fits accepts =
    let (kind, known, f) = bind_accepted (header bs at stop) (λ kind. refused too_deep at) accepts in
    absurd (refused_not_accepted f)
walk_finds bs small (suc left) at stop before e fits accepts =
    let (kind, known, f) = bind_accepted (header bs at stop) (λ kind. body kind (walk_record left bs) bs at before) accepts in
    let (inside, named) = header_accepted bs at stop kind known in
    body_finds bs small left (walk_record left bs) (walk_within left bs) (walk_finds bs small left) at before (omega arith) kind e named f
