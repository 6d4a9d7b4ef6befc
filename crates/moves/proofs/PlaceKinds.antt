-- The kinds of place by number: what four numbers stand for, and what such a place does to a thread.
use Prim.Native.Nat.{ℕ, zero, suc, ◌+◌, ◌*◌, ◌≤◌, ◌<◌}
use mathlib.Core.Path.{◌≡◌, refl, sym, ap, ◌∙◌, subst}
use mathlib.Core.Bool.{Bool, true, false, cond, ◌&&◌}
use mathlib.Core.List.{List, [], ◌∷◌}
use native.Mathlib.Omega.{arith}
use native.Mathlib.Nat.{suc-mul, zero-mul, one-mul, add-mul}
use native.Mathlib.Numerals.{add-one}
use borrow.Author.Tests.{ne_eqb, eq-eqb, eqb-true}
use Rattle.std.specs.Prelude.{Option, Some, None, is_some, IsSome, IfSome}
use lib.Dec.{eqb, leb, eqb-suc-zero}
use lib.ListN.{length, set, length-set}
use Rattle.paper.specs.Pattern.{Range}
use Rattle.paper.specs.Rows.{Rows, clear}
use Rattle.paper.specs.Reading.{in_set}
use Rattle.paper.specs.Check.{ranges_of, part}
use Rattle.paper.specs.Machine.{Place, Thread, at, State, Move, follow, move_at}
use Rattle.paper.specs.Tables.{place_of}
use Rattle.paper.proofs.reading.RowLaws.{length_clear}
use Rattle.moves.specs.Shows.{AheadIn}
use Rattle.moves.specs.Moves.{level_after, takes_at, Eats, Leads}
use Rattle.moves.proofs.Ranges.{ahead_none, takes_ahead, takes_none, or_false}

-- ---- the byte that a place takes

-- no place takes a byte behind the line
takes_nothing : (place : Place) (line : List ℕ) (p : ℕ) → length line ≤ p → takes_at place line p ≡ false
takes_nothing (Place.one_of ranges next) line p h = takes_none ranges line p h
takes_nothing Place.stop line p h = refl
takes_nothing (Place.fork a b) line p h = refl
takes_nothing (Place.opening k next) line p h = refl
takes_nothing (Place.closing k next) line p h = refl
takes_nothing (Place.begin first n next) line p h = refl
takes_nothing (Place.begin_optional first n next) line p h = refl
takes_nothing (Place.ending next) line p h = refl
takes_nothing Place.accept line p h = refl

-- a place of another kind takes none
no_set : (b0 b1 b2 b3 b4 b5 b9 : Bool) (p0 p1 p2 p3 p4 p5 : ℕ → ℕ → ℕ → Place) (next a n : ℕ) (line : List ℕ) (p : ℕ)
    → takes_at (p0 next a n) line p ≡ false → takes_at (p1 next a n) line p ≡ false → takes_at (p2 next a n) line p ≡ false
    → takes_at (p3 next a n) line p ≡ false → takes_at (p4 next a n) line p ≡ false → takes_at (p5 next a n) line p ≡ false
    → takes_at (cond b0 (p0 next a n) (cond b1 (p1 next a n) (cond b2 (p2 next a n) (cond b3 (p3 next a n) (cond b4 (p4 next a n) (cond b5 (p5 next a n)
    (cond b9 Place.accept Place.stop))))))) line p ≡ false
no_set true b1 b2 b3 b4 b5 b9 p0 p1 p2 p3 p4 p5 next a n line p h0 h1 h2 h3 h4 h5 = h0
no_set false true b2 b3 b4 b5 b9 p0 p1 p2 p3 p4 p5 next a n line p h0 h1 h2 h3 h4 h5 = h1
no_set false false true b3 b4 b5 b9 p0 p1 p2 p3 p4 p5 next a n line p h0 h1 h2 h3 h4 h5 = h2
no_set false false false true b4 b5 b9 p0 p1 p2 p3 p4 p5 next a n line p h0 h1 h2 h3 h4 h5 = h3
no_set false false false false true b5 b9 p0 p1 p2 p3 p4 p5 next a n line p h0 h1 h2 h3 h4 h5 = h4
no_set false false false false false true b9 p0 p1 p2 p3 p4 p5 next a n line p h0 h1 h2 h3 h4 h5 = h5
no_set false false false false false false true p0 p1 p2 p3 p4 p5 next a n line p h0 h1 h2 h3 h4 h5 = refl
no_set false false false false false false false p0 p1 p2 p3 p4 p5 next a n line p h0 h1 h2 h3 h4 h5 = refl

-- the place of a number that is neither 6 nor 7
other_kind : (pattern : List ℕ) (kind next a n : ℕ) → (kind ≡ 6 → ⊥) → (kind ≡ 7 → ⊥)
    → place_of pattern kind next a n
    ≡ cond (eqb kind 0) (Place.fork next a) (cond (eqb kind 1) (Place.opening a next) (cond (eqb kind 2) (Place.closing a next)
    (cond (eqb kind 3) (Place.begin a n next) (cond (eqb kind 4) (Place.begin_optional a n next) (cond (eqb kind 5) (Place.ending next)
    (cond (eqb kind 9) Place.accept Place.stop))))))
other_kind pattern kind next a n h6 h7 = rw (ne_eqb kind 6 h6, ne_eqb kind 7 h7)

pub eats_none : (pattern line : List ℕ) (kind next a n p : ℕ) → (kind ≡ 6 → ⊥) → (kind ≡ 7 → ⊥)
    → false ≡ takes_at (place_of pattern kind next a n) line p
eats_none pattern line kind next a n p h6 h7 =
    sym (ap (λ (x : Place). takes_at x line p) (other_kind pattern kind next a n h6 h7)
    ∙ no_set (eqb kind 0) (eqb kind 1) (eqb kind 2) (eqb kind 3) (eqb kind 4) (eqb kind 5) (eqb kind 9)
    (λ x y m. Place.fork x y) (λ x y m. Place.opening y x) (λ x y m. Place.closing y x) (λ x y m. Place.begin y m x)
    (λ x y m. Place.begin_optional y m x) (λ x y m. Place.ending x) next a n line p refl refl refl refl refl refl)

module _ (pattern : List ℕ) (kind a n : ℕ) where
  -- it takes none
  eats_not : (ahead : Option ℕ) → ((line : List ℕ) (p next : ℕ) → AheadIn line p ahead → false ≡ takes_at (place_of pattern kind next a n) line p)
      → Eats pattern ahead kind a n false
  eats_not ahead none = record {
    leads = λ e. let one : ◌≡◌ {A = ℕ} 0 1 = ap (λ (b : Bool). cond b 1 0) e in absurd (omega arith);
    takes_it = none;
  }

  -- at the line's end
  pub eats_end : Eats pattern None kind a n false
  eats_end = eats_not None (λ line p next along. sym (takes_nothing (place_of pattern kind next a n) line p (ahead_none along)))

  -- because it is of another kind
  pub eats_other : (ahead : Option ℕ) → (kind ≡ 6 → ⊥) → (kind ≡ 7 → ⊥) → Eats pattern ahead kind a n false
  eats_other ahead n6 n7 = eats_not ahead (λ line p next along. eats_none pattern line kind next a n p n6 n7)

  -- a set takes the byte that is there, if it holds it
  eats_held : (byte k : ℕ) → k < 8 → (ranges : List Range) → ((next : ℕ) → place_of pattern k next a n ≡ Place.one_of ranges next) → kind ≡ k
      → (r : Bool) → r ≡ in_set ranges byte → Eats pattern (Some byte) kind a n r
  eats_held byte k low ranges is_set e r held = record {
    leads = λ f. omega arith;
    takes_it = λ line p next along.
        held
        ∙ (sym (takes_ahead ranges line p byte along)
        ∙ (ap (λ (x : Place). takes_at x line p) (sym (is_set next)) ∙ ap (λ (j : ℕ). takes_at (place_of pattern j next a n) line p) (sym e)));
  }

  -- a set of the pattern
  pub eats_set : (byte : ℕ) → kind ≡ 6 → (r : Bool) → r ≡ in_set (ranges_of (part pattern a (a + 2 * n))) byte → Eats pattern (Some byte) kind a n r
  eats_set byte = eats_held byte 6 (omega arith) (ranges_of (part pattern a (a + 2 * n))) (λ next. refl)

  -- a range
  pub eats_range : (byte : ℕ) → kind ≡ 7 → (r : Bool) → r ≡ (leb a byte && leb byte n) → Eats pattern (Some byte) kind a n r
  eats_range byte e r held =
      eats_held byte 7 (omega arith) (record { low = a; high = n } ∷ []) (λ next. refl) e r (held ∙ sym (or_false (leb a byte && leb byte n)))

-- ---- where a place leads at once

-- a floor is 0 exactly on level 0
floor_zero : (places floor level : ℕ) → 0 < places → floor ≡ level * places → eqb floor 0 ≡ eqb level 0
floor_zero places floor zero some e = ap (λ (f : ℕ). eqb f 0) (e ∙ zero-mul places)
floor_zero places floor (suc level) some e =
    let high : floor ≡ 0 → ⊥ = λ h. omega (arith, suc-mul level places) in
    ne_eqb floor 0 high ∙ sym (eqb-suc-zero level)

module _ (kind a n p places floor : ℕ) (rows : Rows) where
  -- a place of this kind, whose move is known, on the level of the floor
  leads_known : (k : ℕ) → kind ≡ k → (led : Option ℕ) (rows' : Rows) → length rows' ≡ length rows → (k ≡ 5 → IsSome led → floor ≡ 0)
      → ((level : ℕ) → floor ≡ level * places → IfSome led (λ f. f ≡ level_after k level * places))
      → ((level : ℕ) → floor ≡ level * places → (pattern line : List ℕ) (next place : ℕ) (visit : Thread → State → State) (s : State)
      → follow visit (at place level rows) (move_at (place_of pattern k next a n) line p level rows) s ≡ cond (is_some led) (visit (at next (level_after k level) rows') s) s)
      → Leads kind a n p places floor rows led rows'
  leads_known k e led rows' same ended raised followed =
      subst (λ (j : ℕ). Leads j a n p places floor rows led rows') (sym e) (record { same_long = same; ends = ended; raises = raised; follows = followed })

  -- open
  pub leads_open : kind ≡ 1 → Leads kind a n p places floor rows (Some floor) (set rows (2 * a) p)
  leads_open e =
      leads_known 1 e (Some floor) (set rows (2 * a) p) (length-set rows (2 * a) p) (λ h g. omega arith) (λ level h. h) (λ level h pattern line next place visit s. refl)

  -- close
  pub leads_close : kind ≡ 2 → Leads kind a n p places floor rows (Some floor) (set rows (2 * a + 1) p)
  leads_close e =
      leads_known 2 e (Some floor) (set rows (2 * a + 1) p) (length-set rows (2 * a + 1) p) (λ h g. omega arith) (λ level h. h) (λ level h pattern line next place visit s. refl)

  -- begin
  pub leads_begin : (rows' : Rows) → rows' ≡ clear a n rows → kind ≡ 3 → Leads kind a n p places floor rows (Some floor) rows'
  leads_begin rows' same e =
      leads_known 3 e (Some floor) rows' (ap length same ∙ length_clear n a rows) (λ h g. omega arith) (λ level h. h)
      (λ level h pattern line next place visit s. ap (λ (r : Rows). visit (at next level r) s) (sym same))

  -- begin optional
  pub leads_begin_optional : (rows' : Rows) → rows' ≡ clear a n rows → kind ≡ 4 → Leads kind a n p places floor rows (Some (floor + places)) rows'
  leads_begin_optional rows' same e =
      leads_known 4 e (Some (floor + places)) rows' (ap length same ∙ length_clear n a rows) (λ h g. omega arith)
      (λ level h. omega (arith, add-mul level 1 places, one-mul places))
      (λ level h pattern line next place visit s.
      ap (λ (r : Rows). visit (at next (suc level) r) s) (sym same) ∙ ap (λ (l : ℕ). visit (at next l rows') s) (sym (add-one level)))

  at_zero : (b : Bool) (next place level : ℕ) (visit : Thread → State → State) (s : State)
      → follow visit (at place level rows) (cond b (Move.lead (at next 0 rows)) Move.die) s ≡ cond b (visit (at next 0 rows) s) s
  at_zero true next place level visit s = refl
  at_zero false next place level visit s = refl

  -- end
  end_known : 0 < places → kind ≡ 5 → (led : Option ℕ) → is_some led ≡ eqb floor 0 → IfSome led (λ f. f ≡ 0) → Leads kind a n p places floor rows led rows
  end_known some e led goes bottom =
      leads_known 5 e led rows refl (λ h g. eqb-true floor 0 (sym goes ∙ g)) (λ level h. end_floor led level bottom)
      (λ level h pattern line next place visit s.
      at_zero (eqb level 0) next place level visit s
      ∙ ap (λ (b : Bool). cond b (visit (at next 0 rows) s) s) (sym (goes ∙ floor_zero places floor level some h)))
    where
      end_floor : (led : Option ℕ) (level : ℕ) → IfSome led (λ f. f ≡ 0) → IfSome led (λ f. f ≡ 0 * places)
      end_floor None level h = tt
      end_floor (Some f) level h = h ∙ sym (zero-mul places)

  pub leads_end : 0 < places → kind ≡ 5 → floor ≡ 0 → Leads kind a n p places floor rows (Some 0) rows
  leads_end some e none = end_known some e (Some 0) (sym (eq-eqb floor 0 none)) refl

  pub leads_nowhere : 0 < places → kind ≡ 5 → (floor ≡ 0 → ⊥) → Leads kind a n p places floor rows None rows
  leads_nowhere some e high = end_known some e None (sym (ne_eqb floor 0 high)) tt
