-- Where the walk accepts a tree, the tree stands there record by record. By recursion on the levels left; inside a sequence or an alternation by
-- paper's induction over the walk's turns.
use Prim.Native.Nat.{ℕ, zero, suc, ◌+◌, ◌*◌, ◌≤◌, ◌<◌}
use mathlib.Core.Path.{◌≡◌, refl, sym, ap, subst}
use mathlib.Core.Bool.{◌&&◌}
use mathlib.Core.List.{List, [], ◌∷◌}
use native.Mathlib.Omega.{arith}
use borrow.Author.Tests.{eqb-true, leb-true, ltb-true}
use lib.Dec.{leb, ltb, eqb}
use lib.ListN.{length}
use Rattle.paper.specs.Limits.{pattern_bytes, pattern_levels, pattern_groups, pattern_places, set_pairs}
use Rattle.paper.specs.Refusal.{Checked, refused, accepted, ◌>>=◌, ◌>>◌, holds, pattern_too_long, broken_record, set_wrong, repeat_wrong, too_deep, too_many_groups, too_many_places}
use Rattle.paper.specs.Pattern.{Pattern, Members, all_places, groups}
use Rattle.paper.specs.Pattern.Pattern.{nothing, empty, bytes, group, sequence, alternation, repeat}
use Rattle.paper.specs.Pattern.Members.{two, more}
use Rattle.paper.specs.Layout.{Kind, nothing_kind, empty_kind, bytes_kind, group_kind, sequence_kind, alternation_kind, repeat_kind, kind_number}
use Rattle.paper.specs.Check.{number_at, body_length, kind_at, body_start, body_end, part, header, ranges_of, apart, set_right, byte_set, repeat_numbers_right, upper_of, mode_of, repeat_head, Walk, single, walk_all, at_least_two, several, body, walk_record, pattern_of}
use Rattle.paper.proofs.layout.Accepted.{refused_not_accepted, accepted_injective, bind_accepted, holds_accepted, both_true}
use Rattle.paper.proofs.layout.Standing.{length_part}
use Rattle.paper.proofs.layout.RepeatBody.{upper_number_of, numbers_right}
use Rattle.paper.proofs.layout.MemberList.{list_of, list_accepted, groups_listed}
use Rattle.paper.proofs.layout.MemberList as list
use Rattle.paper.proofs.layout.Turns.{Within, walk_all_induction}
use Rattle.paper.proofs.layout.Header.{header_accepted, walk_within}
use Rattle.pattern.specs.Walk.{groups_in}
use Rattle.places.specs.Standing.{Stands, AllStand, Row}

-- a tree that stands at `at`, with so many groups before it
pub record Stood (bs : List ℕ) (at before : ℕ) (e : Pattern) : Type 0 where
  pub stand : Stands bs at e
  pub few : before ≤ pattern_groups → before + groups e ≤ pattern_groups

record StoodAll (bs : List ℕ) (stop at before : ℕ) (es : List Pattern) : Type 0 where
  stand : Row bs at stop es
  few : before ≤ pattern_groups → before + groups_in es ≤ pattern_groups

-- a walk that accepts only trees that stand
abbrev Finds : List ℕ → Walk → Type 0
Finds bs walk = (at stop before : ℕ) (e : Pattern) → stop ≤ length bs → walk at stop before ≡ accepted e → Stood bs at before e

row_members : (ms : Members) (bs : List ℕ) (at stop : ℕ) → Row bs at stop (list_of ms) → AllStand bs at stop ms
row_members (two a b) bs at stop h = (h.0, h.1.0, h.1.1)
row_members (more a ms) bs at stop h = (h.0, row_members ms bs (body_end bs at) stop h.1)

-- the groups of a list are counted alike
same_groups : (es : List Pattern) → list.groups_in es ≡ groups_in es
same_groups [] = refl
same_groups (e ∷ es) = ap (λ (k : ℕ). groups e + k) (same_groups es)

module _ (bs : List ℕ) (walk : Walk) (within : Within bs walk) (finds : Finds bs walk) (at before : ℕ) (fits : body_end bs at ≤ length bs) where
  single_finds : (start groups_before : ℕ) (e : Pattern) → single walk bs at start groups_before ≡ accepted e
      → Stood bs start groups_before e × (body_end bs start ≡ body_end bs at)
  single_finds start groups_before e accepts =
      let (m, walked, f) =
      bind_accepted (walk start (body_end bs at) groups_before) (λ m. holds (eqb (body_end bs start) (body_end bs at)) broken_record at >> accepted m) accepts in
      let (same, g) = holds_accepted (eqb (body_end bs start) (body_end bs at)) broken_record at (accepted m) f in (
        subst (Stood bs start groups_before) (accepted_injective g) (finds start (body_end bs at) groups_before m fits walked),
        eqb-true (body_end bs start) (body_end bs at) same,
      )

  several_finds : (ms : Members) → several walk bs at before ≡ accepted ms → StoodAll bs (body_end bs at) (body_start at) before (list_of ms)
  several_finds ms accepts =
      let (es, walked, f) = bind_accepted (walk_all (body_length bs at) walk bs (body_start at) (body_end bs at) before) (λ es. at_least_two es at) accepts in
      subst (StoodAll bs (body_end bs at) (body_start at) before) (sym (list_accepted es at ms f))
      (walk_all_induction bs walk within (body_end bs at) (StoodAll bs (body_end bs at)) none one (body_length bs at) (body_start at) before es (omega arith)
      (omega arith) walked)
    where
      none : (groups_before : ℕ) → StoodAll bs (body_end bs at) (body_end bs at) groups_before []
      none groups_before = record { stand = refl; few = λ h. omega arith }

      one : (from groups_before : ℕ) (m : Pattern) (ms : List Pattern) → from < body_end bs at → walk from (body_end bs at) groups_before ≡ accepted m
          → StoodAll bs (body_end bs at) (body_end bs from) (groups_before + groups m) ms → StoodAll bs (body_end bs at) from groups_before (m ∷ ms)
      one from groups_before m ms _ walked rest =
          let first = finds from (body_end bs at) groups_before m fits walked in
          record { stand = (first.stand, rest.stand); few = λ h. omega (arith, rest.few (first.few h)) }

  set_finds : (e : Pattern) → kind_at bs at ≡ 2 → byte_set bs at ≡ accepted e → Stood bs at before e
  set_finds e named accepts =
      let inner = part bs (body_start at) (body_end bs at) in
      let ranges = ranges_of inner in
      let (t, f) = holds_accepted (set_right inner) set_wrong at (accepted (bytes ranges)) accepts in
      let (three, _) = both_true (eqb (length inner) (2 * length ranges) && leb 1 (length ranges) && leb (length ranges) set_pairs) (apart ranges) t in
      let (both, few) = both_true (eqb (length inner) (2 * length ranges) && leb 1 (length ranges)) (leb (length ranges) set_pairs) three in
      let (whole, _) = both_true (eqb (length inner) (2 * length ranges)) (leb 1 (length ranges)) both in
      let long : length inner ≡ 2 * length ranges = eqb-true (length inner) (2 * length ranges) whole in
      subst (Stood bs at before) (accepted_injective f)
      (record {
        stand = (
          named,
          record {
            found = refl;
            whole = omega (arith, length_part bs (body_start at) (body_end bs at) fits);
            few = leb-true (length ranges) set_pairs few;
          },
        );
        few = λ h. omega arith;
      })

  group_finds : (e : Pattern) → kind_at bs at ≡ 3 → body group_kind walk bs at before ≡ accepted e → Stood bs at before e
  group_finds e named accepts =
      let inner = single walk bs at (body_start at) (before + 1) in
      let (t, f) = holds_accepted (ltb before pattern_groups) too_many_groups at (inner >>= λ m. accepted (group m)) accepts in
      let (m, walked, g) = bind_accepted inner (λ m. accepted (group m)) f in
      let (found, same) = single_finds (body_start at) (before + 1) m walked in
      let room = ltb-true before pattern_groups t in
      subst (Stood bs at before) (accepted_injective g)
      (record { stand = (named, found.stand, same); few = λ h. omega (arith, found.few (omega arith)) })

  repeat_finds : (e : Pattern) → kind_at bs at ≡ 6 → body repeat_kind walk bs at before ≡ accepted e → Stood bs at before e
  repeat_finds e named accepts =
      let start = body_start at in
      let least = number_at bs start in
      let most = number_at bs (start + 2) in
      let mode = number_at bs (start + 4) in
      let inner = single walk bs at (start + repeat_head) before in
      let tree : Pattern → Pattern = λ m. repeat least (upper_of most) (mode_of mode) m in
      let (t, f) = holds_accepted (leb repeat_head (body_length bs at)) broken_record at
      (holds (repeat_numbers_right least most mode) repeat_wrong at >> (inner >>= λ m. accepted (tree m))) accepts in
      let (u, g) = holds_accepted (repeat_numbers_right least most mode) repeat_wrong at (inner >>= λ m. accepted (tree m)) f in
      let (m, walked, h) = bind_accepted inner (λ m. accepted (tree m)) g in
      let (found, same) = single_finds (start + repeat_head) before m walked in
      let (counts, kept) = numbers_right least most mode u in
      subst (Stood bs at before) (accepted_injective h)
      (record {
        stand = (
          named,
          record {
            least_is = refl;
            upper_is = sym (upper_number_of most);
            mode_is = sym kept;
            right = counts;
          },
          found.stand,
          same,
        );
        few = found.few;
      })

  body_finds : (k : Kind) (e : Pattern) → kind_at bs at ≡ kind_number k → body k walk bs at before ≡ accepted e → Stood bs at before e
  body_finds nothing_kind e named accepts =
      let (t, f) = holds_accepted (eqb (body_length bs at) 0) broken_record at (accepted nothing) accepts in
      subst (Stood bs at before) (accepted_injective f) (record { stand = named; few = λ h. omega arith })
  body_finds empty_kind e named accepts =
      let (t, f) = holds_accepted (eqb (body_length bs at) 0) broken_record at (accepted empty) accepts in
      subst (Stood bs at before) (accepted_injective f) (record { stand = named; few = λ h. omega arith })
  body_finds bytes_kind e named accepts = set_finds e named accepts
  body_finds group_kind e named accepts = group_finds e named accepts
  body_finds sequence_kind e named accepts =
      let (ms, walked, f) = bind_accepted (several walk bs at before) (λ ms. accepted (sequence ms)) accepts in
      let found = several_finds ms walked in
      subst (Stood bs at before) (accepted_injective f)
      (record { stand = (named, row_members ms bs _ _ found.stand); few = λ h. omega (arith, found.few h, groups_listed ms, same_groups (list_of ms)) })
  body_finds alternation_kind e named accepts =
      let (ms, walked, f) = bind_accepted (several walk bs at before) (λ ms. accepted (alternation ms)) accepts in
      let found = several_finds ms walked in
      subst (Stood bs at before) (accepted_injective f)
      (record { stand = (named, row_members ms bs _ _ found.stand); few = λ h. omega (arith, found.few h, groups_listed ms, same_groups (list_of ms)) })
  body_finds repeat_kind e named accepts = repeat_finds e named accepts

-- what the walk accepts stands
pub walk_stands : (bs : List ℕ) (left : ℕ) → Finds bs (walk_record left bs)
walk_stands bs zero at stop before e fits accepts =
    let (kind, known, f) = bind_accepted (header bs at stop) (λ kind. refused too_deep at) accepts in
    absurd (refused_not_accepted f)
walk_stands bs (suc left) at stop before e fits accepts =
    let (kind, known, f) = bind_accepted (header bs at stop) (λ kind. body kind (walk_record left bs) bs at before) accepts in
    let (inside, named) = header_accepted bs at stop kind known in
    body_finds bs (walk_record left bs) (walk_within left bs) (walk_stands bs left) at before (omega arith) kind e named f

-- an accepted pattern stands from its first byte to its last, and keeps the limits
pub record Whole (bs : List ℕ) (e : Pattern) : Type 0 where
  pub stand : Stands bs 0 e
  pub end_is : body_end bs 0 ≡ length bs
  pub short : length bs ≤ pattern_bytes
  pub few_groups : groups e ≤ pattern_groups
  pub few_places : all_places e ≤ pattern_places

-- what checking accepts stands, and keeps the limits
pub pattern_stands : (bs : List ℕ) (e : Pattern) → pattern_of bs ≡ accepted e → Whole bs e
pattern_stands bs e accepts =
    let walk = walk_record pattern_levels bs 0 (length bs) 0 in
    let tail : Pattern → Checked Pattern = λ m. holds (eqb (body_end bs 0) (length bs)) broken_record (body_end bs 0) >>
    (holds (leb (all_places m) pattern_places) too_many_places 0 >> accepted m) in
    let (short, f) = holds_accepted (leb (length bs) pattern_bytes) pattern_too_long 0 (walk >>= tail) accepts in
    let (m, walked, g) = bind_accepted walk tail f in
    let (ends, h) = holds_accepted (eqb (body_end bs 0) (length bs)) broken_record (body_end bs 0) (holds (leb (all_places m) pattern_places) too_many_places 0 >> accepted m) g in
    let (few, i) = holds_accepted (leb (all_places m) pattern_places) too_many_places 0 (accepted m) h in
    let stood = walk_stands bs pattern_levels 0 (length bs) 0 m (omega arith) walked in
    subst (Whole bs) (accepted_injective i)
    (record {
      stand = stood.stand;
      end_is = eqb-true (body_end bs 0) (length bs) ends;
      short = leb-true (length bs) pattern_bytes short;
      few_groups = omega (arith, stood.few (omega arith));
      few_places = leb-true (all_places m) pattern_places few;
    })
