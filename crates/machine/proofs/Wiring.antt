-- The table that building leaves is safe to run: what holds of a pattern's places without a line, read off the table's numbers.
use Prim.Native.Nat.{ℕ, zero, suc, ◌+◌, ◌*◌, ◌≤◌, ◌<◌}
use native.Mathlib.Omega.{arith}
use native.Mathlib.Nat.{mul-le-mul, mul-le-mul_right, mul_comm, add-mul}
use mathlib.Core.Path.{◌≡◌, refl, sym, ap, subst, ◌∙◌}
use mathlib.Core.Bool.{Bool, true, false, cond}
use mathlib.Core.List.{List}
use lib.Dec.{leb, ltb}
use lib.ListN.{length, get_or}
use borrow.Author.Tests.{leb-true, ltb-true}
use Rattle.paper.specs.Limits.{pattern_levels, row_count}
use Rattle.paper.specs.Pattern.{Pattern, all_places, depth, groups}
use Rattle.paper.specs.Layout.{Lawful}
use Rattle.paper.specs.Machine.{Place, stop, places_of, pairs}
use Rattle.paper.specs.Tables.{stop_place, begin_optional_place, end_place, place_numbers, place_of, place_at, decode, place_kind_at, place_next_at, place_first_at, place_many_at}
use Rattle.paper.proofs.machine.Sizes.{places_wrap, depth_wrap, depth_levels}
use Rattle.paper.proofs.machine.Static.{Static, deep_at, deep_most, places_static}
use Rattle.paper.proofs.machine.Nested.{Forward, places_forward}
use Rattle.moves.specs.Moves.{Slots}
use Rattle.visit.specs.Wired.{Wired}
use Rattle.visit.proofs.Cells.{decode_at}
use Rattle.laying.specs.Laid.{Readable}
use Rattle.laying.specs.Room.{most_places}
use Rattle.machine.specs.declared.scratch.Scratch.{Scratch}
use Rattle.machine.specs.Machine.{wrapped, first_group, Ready}
use Rattle.machine.specs.Scratch.{lists_numbers, pending_numbers, small_places, small_levels, fits_small, Roomy}

-- what is known of the place that four numbers stand for
record Known (pattern : List ℕ) (deep : ℕ → ℕ) (places x kind next a n : ℕ) : Type 0 where
  static : Static deep places row_count x (place_of pattern kind next a n)
  forward : Forward x (place_of pattern kind next a n)

module _ {pattern : List ℕ} {deep : ℕ → ℕ} {places x : ℕ} where
  next_inside : {kind next a n : ℕ} → Known pattern deep places x kind next a n → kind < stop_place → next < places
  next_inside {kind = zero} s h = s.static.0.0
  next_inside {kind = suc zero} s h = s.static.0.0
  next_inside {kind = suc (suc zero)} s h = s.static.0.0
  next_inside {kind = suc (suc (suc zero))} s h = s.static.0.0
  next_inside {kind = suc (suc (suc (suc zero)))} s h = s.static.0.0
  next_inside {kind = suc (suc (suc (suc (suc zero))))} s h = s.static
  next_inside {kind = suc (suc (suc (suc (suc (suc zero)))))} s h = s.static
  next_inside {kind = suc (suc (suc (suc (suc (suc (suc zero))))))} s h = s.static
  next_inside {kind = suc (suc (suc (suc (suc (suc (suc (suc kind)))))))} s h = absurd (omega arith)

  next_deep : {kind next a n : ℕ} → Known pattern deep places x kind next a n → kind < begin_optional_place → deep x ≤ deep next
  next_deep {kind = zero} s h = s.static.0.1
  next_deep {kind = suc zero} s h = s.static.0.1
  next_deep {kind = suc (suc zero)} s h = s.static.0.1
  next_deep {kind = suc (suc (suc zero))} s h = s.static.0.1
  next_deep {kind = suc (suc (suc (suc kind)))} s h = absurd (omega arith)

  -- it leads ahead, but for an end
  next_ahead : {kind next a n : ℕ} → Known pattern deep places x kind next a n → kind < end_place → x < next
  next_ahead {kind = zero} s h = s.forward.0
  next_ahead {kind = suc zero} s h = s.forward
  next_ahead {kind = suc (suc zero)} s h = s.forward
  next_ahead {kind = suc (suc (suc zero))} s h = s.forward
  next_ahead {kind = suc (suc (suc (suc zero)))} s h = s.forward
  next_ahead {kind = suc (suc (suc (suc (suc kind))))} s h = absurd (omega arith)

  -- the place of a known kind
  as_kind : {kind next a n : ℕ} (k : ℕ) → Known pattern deep places x kind next a n → kind ≡ k → Known pattern deep places x k next a n
  as_kind {next = next} {a} {n} k s e = subst (λ (j : ℕ). Known pattern deep places x j next a n) e s

  slots_known : {kind next a n : ℕ} → Known pattern deep places x kind next a n → Slots kind a n
  slots_known s = record {
    opens = λ e. (as_kind 1 s e).static.1;
    closes = λ e. (as_kind 2 s e).static.1;
    begins = λ e. (as_kind 3 s e).static.1;
    begins_optional = λ e. (as_kind 4 s e).static.1;
  }

-- a level up to the depth of a place, times the places, and the place stay below all pairs
cell_room : (d most places x : ℕ) → d ≤ most → x < places → d * places + x < places * (most + 1)
cell_room d most places x low inside =
    omega (arith, mul-le-mul_right places low, mul_comm places (most + 1), add-mul most 1 places)

-- a table whose first places are a pattern's, each readable, is safe
pub wired : (code pattern : List ℕ) (e : Pattern) (first : ℕ) → first + groups e ≤ row_count → all_places e < 65536
    → place_numbers * all_places e ≤ length code → decode code pattern (all_places e) ≡ places_of e first
    → ((x : ℕ) → x < all_places e → Readable code pattern x) → Wired code pattern (all_places e) (pairs e)
wired code pattern e first rows few long decoded readable =
    record {
      deep = deep_at e first;
      few = few;
      long = long;
      room = λ x h. cell_room (deep_at e first x) (depth e) (all_places e) x (deep_most e first x) h;
      follows = λ x h. next_inside (known x h);
      forks = λ x h k. (as_kind 0 (known x h) k).static.1.0;
      deeper = λ x h. next_deep (known x h);
      deeper_other = λ x h k. (as_kind 0 (known x h) k).static.1.1;
      raised = λ x h k. (as_kind 4 (known x h) k).static.0.1;
      ahead = λ x h. next_ahead (known x h);
      ahead_other = λ x h k. (as_kind 0 (known x h) k).forward.1;
      slots = λ x h. slots_known (known x h);
      ranges = λ x h. (readable x h).pairs_end;
    }
  where
    listed : (x : ℕ) → x < all_places e → get_or (places_of e first) x stop ≡ place_at code pattern x
    listed x h = ap (λ (places : List Place). get_or places x stop) (sym decoded) ∙ decode_at code pattern (all_places e) x h

    known : (x : ℕ) → x < all_places e
        → Known pattern (deep_at e first) (all_places e) x (place_kind_at code x) (place_next_at code x) (place_first_at code x) (place_many_at code x)
    known x h = record {
      static = subst (Static (deep_at e first) (all_places e) row_count x) (listed x h) (places_static e first row_count rows x h);
      forward = subst (Forward x) (listed x h) (places_forward e first x);
    }

-- the tree that is built is within the limits
few_rows : (searches : Bool) (e : Pattern) → Lawful e → first_group searches + groups (wrapped searches e) ≤ row_count
few_rows false e lawful = omega (arith, lawful.few_groups)
few_rows true e lawful = omega (arith, lawful.few_groups)

pub few_places : (searches : Bool) (e : Pattern) → Lawful e → all_places (wrapped searches e) ≤ most_places
few_places false e lawful = omega (arith, lawful.few_places)
few_places true e lawful = omega (arith, lawful.few_places, places_wrap e)

few_levels : (searches : Bool) (e : Pattern) → Lawful e → depth (wrapped searches e) + 1 ≤ pattern_levels
few_levels false e lawful = omega (arith, depth_levels e, lawful.few_levels)
few_levels true e lawful = omega (arith, depth_levels e, lawful.few_levels, depth_wrap e)

-- the sizes of a machine that is ready are within those of the tables
pub ready_places : {pattern code : List ℕ} {searches : Bool} {places deep : ℕ} → Ready pattern code searches places deep → (0 < places) × (places ≤ most_places)
ready_places {searches = searches} m = (omega (arith, m.places_are), omega (arith, m.places_are, few_places searches m.tree m.lawful))

pub ready_levels : {pattern code : List ℕ} {searches : Bool} {places deep : ℕ} → Ready pattern code searches places deep → deep + 1 ≤ pattern_levels
ready_levels {searches = searches} m = omega (arith, m.deep_is, few_levels searches m.tree m.lawful)

pub ready_pairs : {pattern code : List ℕ} {searches : Bool} {places deep : ℕ} → Ready pattern code searches places deep → places * (deep + 1) ≤ most_places * pattern_levels
ready_pairs m = mul-le-mul (ready_places m).1 (ready_levels m)

-- a machine that is ready is safe to run
pub ready_wired : {pattern code : List ℕ} {searches : Bool} {places deep : ℕ} → Ready pattern code searches places deep
    → Wired code pattern places (places * (deep + 1))
ready_wired {pattern} {code} {searches} {places} {deep} m =
    let e = wrapped searches m.tree in
    let lawful = m.lawful in
    let same : places ≡ all_places e = m.places_are in
    subst (λ (d : ℕ). Wired code pattern places (places * (d + 1))) (sym m.deep_is)
    (subst (λ (n : ℕ). Wired code pattern n (n * (depth e + 1))) (sym same)
    (wired code pattern e (first_group searches) (few_rows searches m.tree lawful)
    (omega (arith, few_places searches m.tree lawful))
    (subst (λ (n : ℕ). place_numbers * n ≤ length code) same m.long)
    (subst (λ (n : ℕ). decode code pattern n ≡ places_of e (first_group searches)) same m.decoded)
    (subst (λ (n : ℕ). (x : ℕ) → x < n → Readable code pattern x) same m.readable)))

-- scratch of the sizes for the largest machine is long enough for every one
pub ready_scratch : {pattern code : List ℕ} {searches : Bool} {places deep : ℕ} → Ready pattern code searches places deep
    → {scratch : Scratch} → length scratch.seen.now ≡ most_places * pattern_levels → length scratch.taken.now ≡ most_places
    → length scratch.lists.now ≡ lists_numbers most_places → length scratch.pending.now ≡ pending_numbers most_places → Roomy places deep scratch
ready_scratch m s t l p = record {
  seen_long = omega (arith, ready_pairs m, s);
  taken_long = omega (arith, ready_places m, t);
  lists_long = omega (arith, ready_places m, l);
  pending_long = omega (arith, ready_places m, p);
}

-- and small scratch for a small one
pub small_scratch : {places deep : ℕ} → fits_small places deep ≡ true
    → {scratch : Scratch} → length scratch.seen.now ≡ small_places * small_levels → length scratch.taken.now ≡ small_places
    → length scratch.lists.now ≡ lists_numbers small_places → length scratch.pending.now ≡ pending_numbers small_places → Roomy places deep scratch
small_scratch {places} {deep} fits s t l p =
    let (few, below) = look (leb places small_places) refl fits in
    let low : deep + 1 ≤ small_levels = omega arith in
    record {
      seen_long = omega (arith, mul-le-mul few low, s);
      taken_long = omega (arith, t);
      lists_long = omega (arith, l);
      pending_long = omega (arith, p);
    }
  where
    look : (b : Bool) → leb places small_places ≡ b → cond b (ltb deep small_levels) false ≡ true → (places ≤ small_places) × (deep < small_levels)
    look true e h = (leb-true places small_places e, ltb-true deep small_levels h)
    look false e h = let z : ◌≡◌ {A = ℕ} 0 1 = cc in absurd (omega arith)
