-- The entry of a pair: its level times the places, and its place. Two pairs inside have two entries, and a level within a place's depth is inside.
use Prim.Native.Nat.{ℕ, zero, suc, ◌+◌, ◌*◌, ◌≤◌, ◌<◌}
use mathlib.Core.Path.{◌≡◌, refl, sym, ap, ◌∙◌, subst}
use mathlib.Core.Bool.{Bool, true, false, cond, ◌&&◌, ◌||◌}
use mathlib.Core.List.{List, [], ◌∷◌}
use mathlib.Core.Option.{Option}
use native.Mathlib.Omega.{arith}
use native.Mathlib.Nat.{suc-mul, mul-le-mul_right}
use native.Mathlib.Decide.{ℕ_discrete, dec_lt}
use native.Mathlib.Numerals.{add-one}
use borrow.Author.Tests.{eq-eqb, ne_eqb, eqb-true}
use lib.Dec.{eqb}
use lib.ListN.{length, get_or, set, length-append, get_or-append}
use lib.Seq.{get_or-set_same, get_or-set_other, get_or_at}
use Rattle.paper.specs.Rows.{Rows}
use Rattle.paper.specs.Machine.{at, State, is_seen, is_won, blocked, mark, stop}
use Rattle.paper.specs.Tables.{decode, place_at, place_kind_at, place_next_at}
use Rattle.moves.specs.Shows.{Shows}
use Rattle.moves.specs.Moves.{level_after}
use Rattle.visit.specs.Wired.{Wired}

-- ---- entries

-- a lower level's entries all stand before
row_before : (places l m x : ℕ) → x < places → l < m → l * places + x < m * places
row_before places l m x inside h = omega (arith, suc-mul l places, mul-le-mul_right places h)

-- equal entries have equal levels
cell_level : (places x l y m : ℕ) → x < places → y < places → l * places + x ≡ m * places + y → l ≡ m
cell_level places x l y m hx hy e = below (dec_lt l m)
  where
    above : Dec (m < l) → (l < m → ⊥) → l ≡ m
    above (yes h) no_less = absurd (omega (arith, row_before places m l y hy h))
    above (no h) no_less = omega arith

    below : Dec (l < m) → l ≡ m
    below (yes h) = absurd (omega (arith, row_before places l m x hx h))
    below (no h) = above (dec_lt m l) h

-- and equal places
cell_place : (places x l y m : ℕ) → x < places → y < places → l * places + x ≡ m * places + y → x ≡ y
cell_place places x l y m hx hy e =
    let same : l * places ≡ m * places = ap (λ (j : ℕ). j * places) (cell_level places x l y m hx hy e) in
    omega arith

module _ {code pattern : List ℕ} {places cells : ℕ} (w : Wired code pattern places cells) (x level : ℕ) (inside : x < places) (low : level ≤ w.deep x) where
  -- the pair's entry is inside
  pub cell_inside : level * places + x < cells
  cell_inside = omega (arith, mul-le-mul_right places low, w.room x inside)

  -- the level at the follower of a place that leads on is within the follower's depth
  pub deep_after : 0 < place_kind_at code x → place_kind_at code x < 6 → level_after (place_kind_at code x) level ≤ w.deep (place_next_at code x)
  deep_after lo hi = five (ℕ_discrete (place_kind_at code x) 5)
    where
      four : (place_kind_at code x ≡ 5 → ⊥) → Dec (place_kind_at code x ≡ 4) → level_after (place_kind_at code x) level ≤ w.deep (place_next_at code x)
      four n5 (yes e) =
          subst (λ (k : ℕ). level_after k level ≤ w.deep (place_next_at code x)) (sym e) (omega (arith, w.raised x inside e))
      four n5 (no n4) =
          subst (λ (l : ℕ). l ≤ w.deep (place_next_at code x))
          (sym (ap (λ (b : Bool). cond b 0 (cond (eqb (place_kind_at code x) 4) (level + 1) level)) (ne_eqb (place_kind_at code x) 5 n5)
          ∙ ap (λ (b : Bool). cond b (level + 1) level) (ne_eqb (place_kind_at code x) 4 n4)))
          (omega (arith, w.deeper x inside (omega arith)))

      five : Dec (place_kind_at code x ≡ 5) → level_after (place_kind_at code x) level ≤ w.deep (place_next_at code x)
      five (yes e) = subst (λ (k : ℕ). level_after k level ≤ w.deep (place_next_at code x)) (sym e) (omega arith)
      five (no n5) = four n5 (ℕ_discrete (place_kind_at code x) 4)

-- ---- the place at an index

decode_long : (table pattern : List ℕ) (n : ℕ) → length (decode table pattern n) ≡ n
decode_long table pattern zero = refl
decode_long table pattern (suc n) =
    length-append (decode table pattern n) (place_at table pattern n ∷ []) ∙ (ap (λ (k : ℕ). k + 1) (decode_long table pattern n) ∙ add-one n)

pub decode_at : (table pattern : List ℕ) (n x : ℕ) → x < n → get_or (decode table pattern n) x stop ≡ place_at table pattern x
decode_at table pattern zero x h = absurd (omega arith)
decode_at table pattern (suc n) x h = look (ℕ_discrete x n) (λ lt. decode_at table pattern n x lt)
  where
    look : Dec (x ≡ n) → (x < n → get_or (decode table pattern n) x stop ≡ place_at table pattern x)
        → get_or (decode table pattern (suc n)) x stop ≡ place_at table pattern x
    look (yes e) before =
        get_or_at (decode table pattern n) (place_at table pattern n) [] stop x (decode_long table pattern n ∙ sym e) ∙ ap (place_at table pattern) (sym e)
    look (no ne) before =
        let lt : x < n = omega arith in
        get_or-append (decode table pattern n) (place_at table pattern n ∷ []) stop x (omega (arith, decode_long table pattern n)) ∙ before lt

-- ---- a pair seen

module _ (places stamp : ℕ) (seen taken list : List ℕ) (count steps : ℕ) (s : State) (sh : Shows places stamp seen taken list count steps false s) where
  -- an arrival is blocked exactly where its entry has the stamp
  pub blocked_shown : (x l : ℕ) (rows : Rows) → x < places → blocked (at x l rows) s ≡ eqb (get_or seen (l * places + x) 0) stamp
  blocked_shown x l rows inside = ap (λ (w : Option Rows). is_won w || is_seen x l s.seen) sh.winner ∙ sh.pairs x l inside

  -- the entry set, the pair is seen and one step more is made
  pub shows_mark : (x l : ℕ) (rows : Rows) → x < places → l * places + x < length seen
      → Shows places stamp (set seen (l * places + x) stamp) taken list count (steps + 1) false (mark (at x l rows) s)
  shows_mark x l rows inside room = record {
    pairs = λ y m hy. look y m hy (ℕ_discrete (m * places + y) (l * places + x));
    marks = sh.marks;
    carried = sh.carried;
    winner = sh.winner;
    counted = ap (λ (n : ℕ). n + 1) sh.counted;
  }
    where
      and_false : (a b : Bool) → ((a ≡ true) → (b ≡ true) → ⊥) → (a && b) ≡ false
      and_false true true h = absurd (h refl refl)
      and_false true false h = refl
      and_false false b h = refl

      look : (y m : ℕ) → y < places → Dec (m * places + y ≡ l * places + x)
          → ((eqb x y && eqb l m) || is_seen y m s.seen) ≡ eqb (get_or (set seen (l * places + x) stamp) (m * places + y) 0) stamp
      look y m hy (yes e) =
          ap (λ (b : Bool). (b && eqb l m) || is_seen y m s.seen) (eq-eqb x y (sym (cell_place places y m x l hy inside e)))
          ∙ (ap (λ (b : Bool). b || is_seen y m s.seen) (eq-eqb l m (sym (cell_level places y m x l hy inside e)))
          ∙ sym (ap (λ (i : ℕ). eqb (get_or (set seen (l * places + x) stamp) i 0) stamp) e
          ∙ (ap (λ (v : ℕ). eqb v stamp) (get_or-set_same seen (l * places + x) stamp 0 room) ∙ eq-eqb stamp stamp refl)))
      look y m hy (no ne) =
          ap (λ (b : Bool). b || is_seen y m s.seen)
          (and_false (eqb x y) (eqb l m)
          (λ ex el. ne (ap (λ (j : ℕ). j * places + y) (sym (eqb-true l m el)) ∙ ap (λ (j : ℕ). l * places + j) (sym (eqb-true x y ex)))))
          ∙ (sh.pairs y m hy ∙ sym (ap (λ (v : ℕ). eqb v stamp) (get_or-set_other seen (l * places + x) (m * places + y) stamp 0 ne)))
