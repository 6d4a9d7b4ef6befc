-- Building one record, by its kind.
use Prim.Native.Nat.{ℕ, zero, suc, ◌+◌, ◌-◌, ◌≤◌}
use mathlib.Core.Path.{◌≡◌, refl, sym, ap, subst, ◌∙◌}
use mathlib.Core.Bool.{Bool, true, false}
use mathlib.Core.List.{List}
use native.Mathlib.Numerals.{add-one}
use native.Mathlib.Omega.{arith}
use lib.ListN.{length}
use Rattle.paper.specs.Pattern.{Range, Pattern, places, groups}
use Rattle.paper.specs.Check.{body_end, kind_at, part, ranges_of}
use Rattle.paper.specs.Machine.{Core, captures, size, written_out, opening, closing, one_of}
use Rattle.paper.proofs.machine.Sizes.{size_written}
use Rattle.pattern.specs.declared.Kind.{Kind}
use Rattle.laying.specs.Laid.{Holds, Kept, entry_of, Lays}
use Rattle.laying.specs.Single.{Fitting, Put, Ranged, RangedLaid, Head}
use Rattle.laying.proofs.Stores.{put_holds, plain_holds, holds_kept, lays_kept, lays_none, kept_none, kept_both}
use Rattle.laying.proofs.Entering.{entering_fits, at_least_one}
use Rattle.places.specs.Walk.{One, OneLaid, Group, GroupLaid, Several, SeveralLaid, Repeat, RepeatLaid}
use Rattle.places.specs.Standing.{Row}
use Rattle.places.specs.Sums.{number_of, KindAt}
use Rattle.places.proofs.Adding.{row_long, kind_known}
use Rattle.places.proofs.Views.{RowView, nothing_view, set_view, group_view, repeat_view, empty_view, sequence_view, alternation_view}

-- `one` without places
pub nothing_to_lay : {bs : List ℕ} {at stop base next first n gs : ℕ} {t : List ℕ} → n ≡ 0 → OneLaid bs at stop base next first n gs t t
nothing_to_lay {bs} {base = base} {next = next} {first = first} {n = n} {t = t} none =
    record {
      kept = kept_none base (base + n) t;
      laid = λ m. lays_none (written_out m.tree first) t bs base next (size_written m.tree first ∙ sym m.places_are ∙ none);
    }

-- what is laid of a tree is laid of the same tree by another name
as_tree : (t bs : List ℕ) (first base next : ℕ) {e f : Pattern} → e ≡ f → Lays t bs (written_out f first) base next → Lays t bs (written_out e first) base next
as_tree t bs first base next is h = subst (λ (e : Pattern). Lays t bs (written_out e first) base next) (sym is) h

-- one place is inside the part that may change
one_kept : {base n : ℕ} {t t' : List ℕ} → (n ≡ 0 → ⊥) → Kept base (base + 1) t t' → Kept base (base + n) t t'
one_kept {base} {n} {t} {t'} some k = kept_both base (base + n) k (kept_none base base t') (omega arith) (one_more n some) (omega arith) (omega arith)
  where
    one_more : (n : ℕ) → (n ≡ 0 → ⊥) → base + 1 ≤ base + n
    one_more zero some = absurd (some refl)
    one_more (suc n) some = omega arith

-- a record that takes nothing is one place
pub stop_laid : {bs : List ℕ} {at stop base next first n gs : ℕ} {t t' : List ℕ} → (n ≡ 0 → ⊥) → kind_at bs at ≡ 0 → Put t base 8 0 0 0 t'
    → OneLaid bs at stop base next first n gs t t'
stop_laid {bs} {at} {base = base} {next = next} {first = first} {t' = t'} some none put =
    record {
      kept = one_kept some put.kept;
      laid = λ m. as_tree t' bs first base next (nothing_view m.tree bs at m.inside.stand none) (put_holds bs put (omega arith) (λ e. absurd (omega arith)));
    }

-- a byte set is one place
pub set_ask : {bs : List ℕ} {at stop base next first n gs : ℕ} → One bs at stop base next first n gs → (n ≡ 0 → ⊥) → kind_at bs at ≡ 2
    → Ranged bs (at + 4) stop base next
set_ask {bs} {at} m some two =
    let v = set_view m.tree bs at m.inside.stand two in
    record {
      pairs = length v.ranges;
      whole = omega (arith, v.pairs.whole, m.inside.end_is);
      few = v.pairs.few;
      ends = m.inside.ends;
      short = m.inside.short;
      room = omega (arith, at_least_one some, m.room);
      follows = m.follows;
    }

pub set_laid : {bs : List ℕ} {at stop base next first n gs : ℕ} {t t' : List ℕ} → (n ≡ 0 → ⊥) → kind_at bs at ≡ 2
    → RangedLaid bs (at + 4) stop base next t t' → OneLaid bs at stop base next first n gs t t'
set_laid {bs} {at} {base = base} {next = next} {first = first} {t' = t'} some two r =
    record {
      kept = one_kept some r.kept;
      laid = λ m.
          let v = set_view m.tree bs at m.inside.stand two in
          let ranges = ap (λ (e : ℕ). ranges_of (part bs (at + 4) e)) (sym m.inside.end_is) ∙ v.pairs.found in
          as_tree t' bs first base next v.is (subst (λ (r : List Range). Holds t' bs base (one_of r next)) ranges r.held);
    }

-- a head, the place before an expression: its numbers fit
pub head_fits : {bs t : List ℕ} {at stop base next first p g kind a n v : ℕ} → One bs at stop (base + 1) next first p g → Head kind a n → 2040 ≤ length t
    → v ≡ entry_of p (base + 1) next → Fitting t base v a n
head_fits {base = base} {next = next} {p = p} m = entering_fits p base next m.room m.follows

-- a group: its open, what it holds, its close
abbrev pub group_one : {bs : List ℕ} {at stop base next first n gs : ℕ} → One bs at stop base next first n gs → kind_at bs at ≡ 3
    → One bs (at + 4) stop (base + 1) (base + 1 + (n - 2)) (first + 1) (n - 2) (gs - 1)
group_one {bs} {at} m three =
    let v = group_view m.tree bs at m.inside.stand three in
    let e : places m.tree ≡ 2 + places v.inner = ap places v.is in
    let f : groups m.tree ≡ suc (groups v.inner) = ap groups v.is in
    record {
      tree = v.inner;
      inside = record {
        stand = v.stand;
        end_is = v.end_is ∙ m.inside.end_is;
        ends = m.inside.ends;
        short = m.inside.short;
        few = omega (arith, m.inside.few);
      };
      places_are = omega (arith, m.places_are);
      groups_are = omega (arith, m.groups_are);
      small = omega (arith, m.small);
      room = omega (arith, m.room, m.places_are);
      follows = omega (arith, m.room, m.places_are);
    }

-- a group has its open and its close
pub group_two : {bs : List ℕ} {at stop base next first n gs : ℕ} → One bs at stop base next first n gs → kind_at bs at ≡ 3 → 2 ≤ n
group_two {bs} {at} m three =
    let v = group_view m.tree bs at m.inside.stand three in
    let e : places m.tree ≡ 2 + places v.inner = ap places v.is in
    omega (arith, m.places_are)

-- a group is one itself
pub group_some : {bs : List ℕ} {at stop base next first n gs : ℕ} → One bs at stop base next first n gs → kind_at bs at ≡ 3 → 1 ≤ gs
group_some {bs} {at} m three =
    let v = group_view m.tree bs at m.inside.stand three in
    let f : groups m.tree ≡ suc (groups v.inner) = ap groups v.is in
    omega (arith, m.groups_are)

-- a group, from its places
pub captures_lays : (t bs : List ℕ) (k : ℕ) (e : Core) (base next p : ℕ) → p ≡ size e → Holds t bs base (opening k (entry_of p (base + 1) (base + 1 + p)))
    → Lays t bs e (base + 1) (base + 1 + p) → Holds t bs (base + 1 + p) (closing k next) → Lays t bs (captures k e) base next
captures_lays t bs k e base next p ep =
    subst
    (λ (p : ℕ). Holds t bs base (opening k (entry_of p (base + 1) (base + 1 + p))) → Lays t bs e (base + 1) (base + 1 + p)
    → Holds t bs (base + 1 + p) (closing k next) → Lays t bs (captures k e) base next)
    (sym ep)
    (λ a b c. (a, b, c))

-- the open, what the group holds and the close lay the group
pub captured_laid : {bs : List ℕ} {at stop base next first p g k v : ℕ} {t t1 t2 t3 : List ℕ} → v ≡ entry_of p (base + 1) (base + 1 + p)
    → Put t base 1 v k 0 t1 → OneLaid bs at stop (base + 1) (base + 1 + p) first p g t1 t2 → Put t2 (base + 1 + p) 2 next k 0 t3
    → GroupLaid bs at stop base next first p g k t t3
captured_laid {bs} {base = base} {first = first} {p = p} {k = k} {t1 = t1} {t3 = t3} ev first_place o last_place =
    let high = base + 1 + p + 1 in
    record {
      kept = kept_both base high (kept_both base high first_place.kept o.kept (omega arith) (omega arith) (omega arith) (omega arith)) last_place.kept (omega arith)
          (omega arith) (omega arith) (omega arith);
      laid = λ m.
          let e = written_out m.tree first in
          let ep : p ≡ size e = m.places_are ∙ sym (size_written m.tree first) in
          captures_lays t3 bs k e base _ p ep
          (holds_kept last_place.kept (omega arith) (holds_kept o.kept (omega arith)
          (subst (λ (v : ℕ). Holds t1 bs base (opening k v)) ev (plain_holds bs first_place (omega arith)))))
          (lays_kept e bs (base + 1) (base + 1 + p) last_place.kept (omega arith) (o.laid m))
          (plain_holds bs last_place (omega arith));
    }

-- what is asked of a group that is a record
abbrev pub group_ask : {bs : List ℕ} {at stop base next first n gs : ℕ} → One bs at stop base next first n gs → kind_at bs at ≡ 3
    → Group bs (at + 4) stop base next (first + 1) (n - 2) (gs - 1) first
group_ask m three =
    record {
      held = group_one m three;
      number = omega (arith, m.inside.few);
      room = omega (arith, m.room, group_two m three);
      follows = m.follows;
    }

-- it is the record
pub group_laid : {bs : List ℕ} {at stop base next first n gs : ℕ} {t t1 : List ℕ} → One bs at stop base next first n gs → kind_at bs at ≡ 3
    → GroupLaid bs (at + 4) stop base next (first + 1) (n - 2) (gs - 1) first t t1 → OneLaid bs at stop base next first n gs t t1
group_laid {bs} {at} {base = base} {next = next} {first = first} {n = n} {t1 = t1} m0 three h =
    let whole : base + 1 + (n - 2) + 1 ≡ base + n = omega (arith, group_two m0 three) in
    record {
      kept = rw whole at h.kept;
      laid = λ m.
          let v = group_view m.tree bs at m.inside.stand three in
          as_tree t1 bs first base next v.is
          (subst (λ (k : ℕ). Lays t1 bs (captures first (written_out v.inner k)) base next) (add-one first) (h.laid (group_one m three)));
    }

-- a repeat
abbrev pub repeat_ask : {bs : List ℕ} {at stop base next first n gs : ℕ} → One bs at stop base next first n gs → (n ≡ 0 → ⊥) → kind_at bs at ≡ 6 → Repeat bs (at + 4) stop base next first n gs
repeat_ask {bs} {at} m some six =
    let v = repeat_view m.tree bs at m.inside.stand six in
    let f : groups m.tree ≡ groups v.inner = ap groups v.is in
    record {
      least = v.least;
      upper = v.upper;
      mode = v.mode;
      tree = v.inner;
      numbers = v.numbers;
      inside = record {
        stand = v.stand;
        end_is = v.end_is ∙ m.inside.end_is;
        ends = m.inside.ends;
        short = m.inside.short;
        few = omega (arith, m.inside.few);
      };
      places_are = m.places_are ∙ ap places v.is;
      groups_are = m.groups_are ∙ f;
      some = some;
      small = m.small;
      room = m.room;
      follows = m.follows;
    }

-- a repeat is laid by its passes
pub repeat_laid : {bs : List ℕ} {at stop base next first n gs : ℕ} {t t' : List ℕ} → (n ≡ 0 → ⊥) → kind_at bs at ≡ 6
    → RepeatLaid bs (at + 4) stop base next first n gs t t' → OneLaid bs at stop base next first n gs t t'
repeat_laid {bs} {at} {base = base} {next = next} {first = first} {t' = t'} some six r =
    record {
      kept = r.kept;
      laid = λ m. as_tree t' bs first base next (repeat_view m.tree bs at m.inside.stand six).is (r.laid (repeat_ask m some six));
    }

-- a sequence or an alternation
module _ {bs : List ℕ} {at stop base next first n gs : ℕ} (forks : Bool) (row_of : (m : One bs at stop base next first n gs) → RowView bs at forks m.tree) where
  -- what the row of its members is asked for
  abbrev pub row_ask : One bs at stop base next first n gs → Several bs (at + 4) stop forks base next first n gs
  row_ask m =
      let v = row_of m in
      record {
        records = v.records;
        stand = subst (λ (e : ℕ). Row bs (at + 4) e v.records) m.inside.end_is v.stand;
        some = omega (arith, row_long v.records bs (at + 4) (body_end bs at) v.stand, v.several, m.inside.end_is);
        ends = m.inside.ends;
        short = m.inside.short;
        few = omega (arith, m.inside.few, v.groups_are);
        places_are = m.places_are ∙ v.places_are;
        groups_are = m.groups_are ∙ v.groups_are;
        small = m.small;
        room = m.room;
        follows = m.follows;
      }

  -- the row lays the record
  pub row_laid : {t t' : List ℕ} → SeveralLaid bs (at + 4) stop forks base next first n gs t t' → OneLaid bs at stop base next first n gs t t'
  row_laid {t' = t'} r =
      record { kept = r.kept; laid = λ m. subst (λ (c : Core). Lays t' bs c base next) (sym ((row_of m).written first)) (r.laid (row_ask m)) }

-- the members of a sequence
abbrev pub in_sequence : {bs : List ℕ} {at stop base next first n gs : ℕ} → kind_at bs at ≡ 4 → (m : One bs at stop base next first n gs) → RowView bs at false m.tree
in_sequence {bs} {at} four m = sequence_view m.tree bs at m.inside.stand four

-- and of an alternation
abbrev pub in_alternation : {bs : List ℕ} {at stop base next first n gs : ℕ} → kind_at bs at ≡ 5 → (m : One bs at stop base next first n gs) → RowView bs at true m.tree
in_alternation {bs} {at} five m = alternation_view m.tree bs at m.inside.stand five

-- an empty record has no places
pub empty_laid : {bs : List ℕ} {at stop base next first n gs : ℕ} {t : List ℕ} → One bs at stop base next first n gs → kind_at bs at ≡ 1
    → OneLaid bs at stop base next first n gs t t
empty_laid {bs} {at} m one = nothing_to_lay (m.places_are ∙ ap places (empty_view m.tree bs at m.inside.stand one))

-- the kind that was found is the record's
pub kind_found : {bs : List ℕ} {at stop base next first n gs : ℕ} {k v : Kind} → KindAt bs at k → k ≡ v → One bs at stop base next first n gs → kind_at bs at ≡ number_of v
kind_found {bs} {at} at_kind is m = sym (at_kind (kind_known m.tree bs at m.inside.stand)) ∙ ap number_of is
