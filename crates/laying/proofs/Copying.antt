-- Copying places: a copy with its followers moved lays, where it stands, the written-out pattern that the copied places lay.
use Prim.Native.Nat.{ℕ, zero, suc, ◌+◌, ◌-◌, ◌*◌, ◌≤◌, ◌<◌}
use mathlib.Core.Path.{◌≡◌, refl, sym, ap, subst, ◌∙◌}
use mathlib.Core.Bool.{Bool, true, false, cond}
use mathlib.Core.List.{List, [], ◌∷◌}
use native.Mathlib.Omega.{arith}
use borrow.Author.Tests.{ltb-true, ltb-false, lt-ltb, le-ltb, ne_eqb}
use mathlib.Core.Logic.{∥∥₁_elim}
use Rattle.std.proofs.Math.Bridge.{le_prop}
use Rattle.std.proofs.lemmas.Bool.{eqb-true, eqb-false}
use lib.Dec.{ltb, eqb}
use lib.ListN.{get_or}
use Rattle.paper.specs.Pattern.{Mode, greedy, lazy}
use Rattle.paper.specs.Check.{part, ranges_of}
use Rattle.paper.specs.Machine.{Core, dead, skip, eats, captures, chain, either, must, maybe, star, Place, one_of, stop, fork, opening, closing, begin, begin_optional, ending, accept, size, pass_fork}
use Rattle.paper.specs.Tables.{place_of, place_kind_at, place_next_at, place_first_at, place_many_at}
use Rattle.laying.specs.Laid.{Holds, Kept, entry_of, Lays}
use Rattle.laying.specs.Copies.{moved_to, moved_other, Model, in_place, ahead, Moving, PutMoved, PlaceMoved, Copied}
use Rattle.laying.proofs.Stores.{agree, kept_both}
use Rattle.laying.proofs.Entering.{entry_none, entry_some}

-- one of the copied places has its copy
pub moved_inside : (from count to next x y : ℕ) → from ≤ x → x < from + count → y + from ≡ x + to → moved_to from count to next x ≡ y
moved_inside from count to next x y low high e =
    ap (λ (b : Bool). cond b next (cond (ltb (x - from) count) (to + (x - from)) next)) (le-ltb x from low)
    ∙ ap (λ (b : Bool). cond b (to + (x - from)) next) (lt-ltb (x - from) count (omega arith))
    ∙ omega arith

-- what follows the copied places is what follows the copy
pub moved_behind : (from count to next x : ℕ) → from + count ≤ x → moved_to from count to next x ≡ next
moved_behind from count to next x high =
    ap (λ (b : Bool). cond b next (cond (ltb (x - from) count) (to + (x - from)) next)) (le-ltb x from (omega arith))
    ∙ ap (λ (b : Bool). cond b (to + (x - from)) next) (le-ltb (x - from) count (omega arith))

-- any other place's is not
pub other_same : (from count to next kind a : ℕ) → (kind ≡ 0 → ⊥) → moved_other from count to next kind a ≡ a
other_same from count to next kind a not = ap (λ (b : Bool). cond b (moved_to from count to next a) a) (ne_eqb kind 0 not)

-- a fact that is an order of numbers holds where a shift may be made somehow
moving_le : {from count to next i j : ℕ} → ∥ Moving from count to next ∥₁ → (Moving from count to next → i ≤ j) → i ≤ j
moving_le somehow found = ∥∥₁_elim somehow le_prop found

-- what is known of a shift that may be made somehow: which of the two ways it is tells a test
pub moving_of : {from count to next : ℕ} → ∥ Moving from count to next ∥₁ → Moving from count to next
moving_of {from} {count} {to} {next} somehow =
    record {
      model_room = moving_le somehow (λ m. m.model_room);
      room = moving_le somehow (λ m. m.room);
      follows = moving_le somehow (λ m. m.follows);
      apart = apart (eqb from to) refl;
    }
  where
    first : (from ≡ to → ⊥) → Model from count to to → from + count ≤ to
    first not (in_place same) = absurd (not same)
    first not (ahead before) = before

    apart : (b : Bool) → eqb from to ≡ b → Model from count to to
    apart true e = in_place (eqb-true from to e)
    apart false e = ahead (moving_le somehow (λ m. first (eqb-false from to e) m.apart))

-- Copying goes from place to place.

-- a place that is still to be copied has not changed
unmoved : {from count to k : ℕ} {t t1 : List ℕ} → Model from count to to → k < count → Kept to (to + k) t t1 → (i : ℕ) → 4 * (from + k) ≤ i
    → i < 4 * (from + k) + 4 → get_or t1 i 0 ≡ get_or t i 0
unmoved (in_place same) lt kept i le less = kept.behind i (omega arith)
unmoved (ahead first) lt kept i le less = kept.below i (omega arith)

-- one more place
pub copy_one : {from count to next k : ℕ} {t t1 t2 : List ℕ} → Moving from count to next → k < count → Copied from count to next k t t1
    → PutMoved from count to next k t1 t2 → Copied from count to next (k + 1) t t2
copy_one {from} {count} {to} {next} {k} {t} {t1} {t2} m lt c put =
    record {
      kept = kept_both to (to + (k + 1)) c.kept put.kept (omega arith) (omega arith) (omega arith) (omega arith);
      moved = λ j less. which j less (ltb j k) refl;
    }
  where
    same : (i : ℕ) → 4 * (from + k) ≤ i → i < 4 * (from + k) + 4 → get_or t1 i 0 ≡ get_or t i 0
    same = unmoved m.apart lt c.kept

    last : PlaceMoved from count to next k t t2
    last =
        let e0 : place_kind_at t1 (from + k) ≡ place_kind_at t (from + k) = same (4 * (from + k)) (omega arith) (omega arith) in
        let e1 : place_next_at t1 (from + k) ≡ place_next_at t (from + k) = same (4 * (from + k) + 1) (omega arith) (omega arith) in
        let e2 : place_first_at t1 (from + k) ≡ place_first_at t (from + k) = same (4 * (from + k) + 2) (omega arith) (omega arith) in
        let e3 : place_many_at t1 (from + k) ≡ place_many_at t (from + k) = same (4 * (from + k) + 3) (omega arith) (omega arith) in
        record {
          kind_is = put.kind_is ∙ e0;
          next_is = put.next_is ∙ ap (moved_to from count to next) e1;
          a_is = put.a_is ∙ ap (λ (y : ℕ). moved_other from count to next y (place_first_at t1 (from + k))) e0
              ∙ ap (moved_other from count to next (place_kind_at t (from + k))) e2;
          n_is = put.n_is ∙ e3;
        }

    earlier : (j : ℕ) → j < k → PlaceMoved from count to next j t t2
    earlier j less =
        let w = c.moved j less in
        record {
          kind_is = put.kept.below (4 * (to + j)) (omega arith) ∙ w.kind_is;
          next_is = put.kept.below (4 * (to + j) + 1) (omega arith) ∙ w.next_is;
          a_is = put.kept.below (4 * (to + j) + 2) (omega arith) ∙ w.a_is;
          n_is = put.kept.below (4 * (to + j) + 3) (omega arith) ∙ w.n_is;
        }

    which : (j : ℕ) → j < k + 1 → (b : Bool) → ltb j k ≡ b → PlaceMoved from count to next j t t2
    which j less true e = earlier j (ltb-true j k e)
    which j less false e = let same : k ≡ j = omega (arith, ltb-false j k e) in subst (λ (j : ℕ). PlaceMoved from count to next j t t2) same last

-- A place with its followers moved, and the numbers that stand for it.

abbrev moved_place : (ℕ → ℕ) → Place → Place
moved_place g (one_of ranges x) = one_of ranges (g x)
moved_place g stop = stop
moved_place g (fork x y) = fork (g x) (g y)
moved_place g (opening k x) = opening k (g x)
moved_place g (closing k x) = closing k (g x)
moved_place g (begin first n x) = begin first n (g x)
moved_place g (begin_optional first n x) = begin_optional first n (g x)
moved_place g (ending x) = ending (g x)
moved_place g accept = accept

-- a choice of places is moved by moving both
either_moved : (g : ℕ → ℕ) (b : Bool) (x y : Place) {y' : Place} → y' ≡ moved_place g y → cond b (moved_place g x) y' ≡ moved_place g (cond b x y)
either_moved g true x y ey = refl
either_moved g false x y ey = ey

-- any place but a fork
abbrev unforked : List ℕ → ℕ → ℕ → ℕ → ℕ → Place
unforked p kind next a n =
    cond (eqb kind 1) (opening a next)
    (cond (eqb kind 2) (closing a next)
    (cond (eqb kind 3) (begin a n next)
    (cond (eqb kind 4) (begin_optional a n next)
    (cond (eqb kind 5) (ending next)
    (cond (eqb kind 6) (one_of (ranges_of (part p a (a + 2 * n))) next)
    (cond (eqb kind 7) (one_of (record { low = a; high = n } ∷ []) next)
    (cond (eqb kind 9) accept stop)))))))

unforked_moved : (g : ℕ → ℕ) (p : List ℕ) (kind next a n : ℕ) → unforked p kind (g next) a n ≡ moved_place g (unforked p kind next a n)
unforked_moved g p kind next a n =
    either_moved g (eqb kind 1) _ _
    (either_moved g (eqb kind 2) _ _
    (either_moved g (eqb kind 3) _ _
    (either_moved g (eqb kind 4) _ _
    (either_moved g (eqb kind 5) _ _ (either_moved g (eqb kind 6) _ _ (either_moved g (eqb kind 7) _ _ (either_moved g (eqb kind 9) accept stop refl)))))))

-- moving the follower, and a fork's other one, moves the place
place_moved : (g : ℕ → ℕ) (p : List ℕ) (kind next a n : ℕ) → place_of p kind (g next) (cond (eqb kind 0) (g a) a) n ≡ moved_place g (place_of p kind next a n)
place_moved g p kind next a n = by (eqb kind 0)
  where
    by : (b : Bool) → cond b (fork (g next) (cond b (g a) a)) (unforked p kind (g next) (cond b (g a) a) n)
        ≡ moved_place g (cond b (fork next a) (unforked p kind next a n))
    by true = refl
    by false = unforked_moved g p kind next a n

fork_moved : (g : ℕ → ℕ) (mode : Mode) {x y x' y' : ℕ} → g x ≡ x' → g y ≡ y' → moved_place g (pass_fork mode x y) ≡ pass_fork mode x' y'
fork_moved g greedy {y = y} {x' = x'} ex ey = ap (λ (z : ℕ). fork z (g y)) ex ∙ ap (fork x') ey
fork_moved g lazy {x = x} {y' = y'} ex ey = ap (λ (z : ℕ). fork z (g x)) ey ∙ ap (fork y') ex

module _ {from count to next : ℕ} {before after : List ℕ} (c : Copied from count to next count before after) (bs : List ℕ) where
  -- where a follower leads in the copy
  abbrev go : ℕ → ℕ
  go = moved_to from count to next

  copy_holds : (j : ℕ) → j < count → {q : Place} → Holds before bs (from + j) q → Holds after bs (to + j) (moved_place go q)
  copy_holds j lt h =
      let m = c.moved j lt in
      let unchanged : place_kind_at after (to + j) ≡ 6 → place_first_at after (to + j) ≡ place_first_at before (from + j) =
      λ e. m.a_is ∙ other_same from count to next (place_kind_at before (from + j)) (place_first_at before (from + j)) (λ z. omega (arith, m.kind_is)) in
      record {
        decoded = agree bs m.kind_is m.next_is m.a_is m.n_is
            ∙ place_moved go bs (place_kind_at before (from + j)) (place_next_at before (from + j)) (place_first_at before (from + j)) (place_many_at before (from + j))
            ∙ ap (moved_place go) h.decoded;
        readable = record {
          known = omega (arith, m.kind_is, h.readable.known);
          pairs_end = λ e. omega (arith, unchanged e, m.n_is, h.readable.pairs_end (sym m.kind_is ∙ e));
          few_pairs = λ e. omega (arith, m.n_is, h.readable.few_pairs (sym m.kind_is ∙ e));
        };
      }

  -- a copied place stands in the copy with its followers moved
  holds_moved : (x y : ℕ) {q q' : Place} → from ≤ x → x < from + count → y + from ≡ x + to → moved_place go q ≡ q' → Holds before bs x q → Holds after bs y q'
  holds_moved x y {q} {q'} low high e eq h =
      let ex : x ≡ from + (x - from) = omega arith in
      let ey : to + (x - from) ≡ y = omega arith in
      let there : Holds before bs (from + (x - from)) q = subst (λ (x : ℕ). Holds before bs x q) ex h in
      subst (λ (q : Place). Holds after bs y q) eq
      (subst (λ (y : ℕ). Holds after bs y (moved_place go q)) ey (copy_holds (x - from) (omega arith) there))

  entry_moved : (n b b' out out' : ℕ) → from ≤ b → b + n ≤ from + count → b' + from ≡ b + to → go out ≡ out' → go (entry_of n b out) ≡ entry_of n b' out'
  entry_moved zero b b' out out' low high e eo = ap go (entry_none 0 b out refl) ∙ eo ∙ sym (entry_none 0 b' out' refl)
  entry_moved (suc n) b b' out out' low high e eo =
      ap go (entry_some (suc n) b out (λ z. omega arith)) ∙ moved_inside from count to next b b' low (omega arith) e
      ∙ sym (entry_some (suc n) b' out' (λ z. omega arith))

  inside_moved : (x y : ℕ) → from ≤ x → x < from + count → y + from ≡ x + to → go x ≡ y
  inside_moved x y = moved_inside from count to next x y

  lays_moved : (e : Core) (base base' out out' : ℕ) → from ≤ base → base + size e ≤ from + count → base' + from ≡ base + to → go out ≡ out'
      → Lays before bs e base out → Lays after bs e base' out'
  lays_moved dead base base' out out' low high e eo h = holds_moved base base' low (omega arith) e refl h
  lays_moved skip base base' out out' low high e eo h = tt
  lays_moved (eats ranges) base base' out out' low high e eo h = holds_moved base base' low (omega arith) e (ap (one_of ranges) eo) h
  lays_moved (captures k a) base base' out out' low high e eo h =
      let close = base + 1 + size a in
      let close' = base' + 1 + size a in
      let ec : go close ≡ close' = inside_moved close close' (omega arith) (omega arith) (omega arith) in (
        holds_moved base base' low (omega arith) e
            (ap (opening k) (entry_moved (size a) (base + 1) (base' + 1) close close' (omega arith) (omega arith) (omega arith) ec)) h.0,
        lays_moved a (base + 1) (base' + 1) close close' (omega arith) (omega arith) (omega arith) ec h.1,
        holds_moved close close' (omega arith) (omega arith) (omega arith) (ap (closing k) eo) h.2,
      )
  lays_moved (chain a b) base base' out out' low high e eo h =
      let second = base + size a in
      let second' = base' + size a in (
        lays_moved a base base' _ _ low (omega arith) e (entry_moved (size b) second second' out out' (omega arith) (omega arith) (omega arith) eo) h.0,
        lays_moved b second second' out out' (omega arith) (omega arith) (omega arith) eo h.1,
      )
  lays_moved (either a b) base base' out out' low high e eo h =
      let second = base + 1 + size a in
      let second' = base' + 1 + size a in
      let ea = entry_moved (size a) (base + 1) (base' + 1) out out' (omega arith) (omega arith) (omega arith) eo in
      let eb = entry_moved (size b) second second' out out' (omega arith) (omega arith) (omega arith) eo in (
        holds_moved base base' low (omega arith) e (fork_moved go greedy ea eb) h.0,
        lays_moved a (base + 1) (base' + 1) out out' (omega arith) (omega arith) (omega arith) eo h.1,
        lays_moved b second second' out out' (omega arith) (omega arith) (omega arith) eo h.2,
      )
  lays_moved (must first n a then) base base' out out' low high e eo h =
      let after = base + 1 + size a in
      let after' = base' + 1 + size a in
      let et = entry_moved (size then) after after' out out' (omega arith) (omega arith) (omega arith) eo in (
        holds_moved base base' low (omega arith) e
            (ap (begin first n) (entry_moved (size a) (base + 1) (base' + 1) _ _ (omega arith) (omega arith) (omega arith) et)) h.0,
        lays_moved a (base + 1) (base' + 1) _ _ (omega arith) (omega arith) (omega arith) et h.1,
        lays_moved then after after' out out' (omega arith) (omega arith) (omega arith) eo h.2,
      )
  lays_moved (maybe mode first n a then) base base' out out' low high e eo h =
      let end = base + 1 + 1 + size a in
      let end' = base' + 1 + 1 + size a in
      let ee : go end ≡ end' = inside_moved end end' (omega arith) (omega arith) (omega arith) in
      let et = entry_moved (size then) (end + 1) (end' + 1) out out' (omega arith) (omega arith) (omega arith) eo in (
        holds_moved base base' low (omega arith) e (fork_moved go mode (inside_moved (base + 1) (base' + 1) (omega arith) (omega arith) (omega arith)) eo) h.0,
        holds_moved (base + 1) (base' + 1) (omega arith) (omega arith) (omega arith)
            (ap (begin_optional first n) (entry_moved (size a) (base + 1 + 1) (base' + 1 + 1) end end' (omega arith) (omega arith) (omega arith) ee)) h.1,
        lays_moved a (base + 1 + 1) (base' + 1 + 1) end end' (omega arith) (omega arith) (omega arith) ee h.2,
        holds_moved end end' (omega arith) (omega arith) (omega arith) (ap ending et) h.3,
        lays_moved then (end + 1) (end' + 1) out out' (omega arith) (omega arith) (omega arith) eo h.4,
      )
  lays_moved (star mode first n a) base base' out out' low high e eo h =
      let end = base + 1 + 1 + size a in
      let end' = base' + 1 + 1 + size a in
      let ee : go end ≡ end' = inside_moved end end' (omega arith) (omega arith) (omega arith) in (
        holds_moved base base' low (omega arith) e (fork_moved go mode (inside_moved (base + 1) (base' + 1) (omega arith) (omega arith) (omega arith)) eo) h.0,
        holds_moved (base + 1) (base' + 1) (omega arith) (omega arith) (omega arith)
            (ap (begin_optional first n) (entry_moved (size a) (base + 1 + 1) (base' + 1 + 1) end end' (omega arith) (omega arith) (omega arith) ee)) h.1,
        lays_moved a (base + 1 + 1) (base' + 1 + 1) end end' (omega arith) (omega arith) (omega arith) ee h.2,
        holds_moved end end' (omega arith) (omega arith) (omega arith) (ap ending (inside_moved base base' low (omega arith) e)) h.3,
      )

  -- the copy lays what the copied places lay
  pub copy_lays : (e : Core) → count ≡ size e → Lays before bs e from (from + count) → Lays after bs e to next
  copy_lays e ec = lays_moved e from to (from + count) next (omega arith) (omega arith) (omega arith) (moved_behind from count to next (from + count) (omega arith))
