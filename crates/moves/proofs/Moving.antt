-- The moves of the places that lead nowhere at once, by number: a set eats or dies, accept wins or dies, any other dies.
use Prim.Native.Nat.{ℕ, ◌≤◌}
use mathlib.Core.Path.{◌≡◌, sym, ap, ◌∙◌}
use mathlib.Core.Bool.{Bool, true, false, cond}
use mathlib.Core.List.{List}
use native.Mathlib.Omega.{arith}
use native.Mathlib.Decide.{ℕ_discrete}
use borrow.Author.Tests.{ne_eqb, eq-eqb}
use lib.ListN.{length}
use Rattle.paper.specs.Rows.{Rows}
use Rattle.paper.specs.Machine.{Move, move_at}
use Rattle.paper.specs.Tables.{place_of}
use Rattle.moves.specs.Moves.{takes_at}
use Rattle.moves.proofs.PlaceKinds.{eats_none}

module _ (pattern line : List ℕ) (kind next a n p level : ℕ) (rows : Rows) where
  -- what the place takes, and its move, if its number is this one
  taken_if : (k : ℕ) (b : Bool) → kind ≡ k → takes_at (place_of pattern kind next a n) line p ≡ b → takes_at (place_of pattern k next a n) line p ≡ b
  taken_if k b e h = ap (λ (j : ℕ). takes_at (place_of pattern j next a n) line p) (sym e) ∙ h

  move_if : (k : ℕ) → kind ≡ k → move_at (place_of pattern kind next a n) line p level rows ≡ move_at (place_of pattern k next a n) line p level rows
  move_if k e = ap (λ (j : ℕ). move_at (place_of pattern j next a n) line p level rows) e

  -- a place that takes the byte goes on to its follower
  pub move_eat : takes_at (place_of pattern kind next a n) line p ≡ true → move_at (place_of pattern kind next a n) line p level rows ≡ Move.eat next
  move_eat h = six (ℕ_discrete kind 6)
    where
      seven : (kind ≡ 6 → ⊥) → Dec (kind ≡ 7) → move_at (place_of pattern kind next a n) line p level rows ≡ Move.eat next
      seven n6 (yes e) = move_if 7 e ∙ ap (λ (b : Bool). cond b (Move.eat next) Move.die) (taken_if 7 true e h)
      seven n6 (no n7) = let z : ◌≡◌ {A = Bool} true false = sym h ∙ sym (eats_none pattern line kind next a n p n6 n7) in cc

      six : Dec (kind ≡ 6) → move_at (place_of pattern kind next a n) line p level rows ≡ Move.eat next
      six (yes e) = move_if 6 e ∙ ap (λ (b : Bool). cond b (Move.eat next) Move.die) (taken_if 6 true e h)
      six (no n6) = seven n6 (ℕ_discrete kind 7)

  -- accept at the line's end wins
  pub move_win : kind ≡ 9 → p ≡ length line → move_at (place_of pattern kind next a n) line p level rows ≡ Move.win
  move_win e h = move_if 9 e ∙ ap (λ (b : Bool). cond b Move.win Move.die) (eq-eqb p (length line) h)

  -- and dies before it
  pub move_early : kind ≡ 9 → (p ≡ length line → ⊥) → move_at (place_of pattern kind next a n) line p level rows ≡ Move.die
  move_early e h = move_if 9 e ∙ ap (λ (b : Bool). cond b Move.win Move.die) (ne_eqb p (length line) h)

  -- a set that does not take the byte, and a stop, die
  pub move_die : 6 ≤ kind → (kind ≡ 9 → ⊥) → takes_at (place_of pattern kind next a n) line p ≡ false
      → move_at (place_of pattern kind next a n) line p level rows ≡ Move.die
  move_die low n9 h = six (ℕ_discrete kind 6)
    where
      seven : (kind ≡ 6 → ⊥) → Dec (kind ≡ 7) → move_at (place_of pattern kind next a n) line p level rows ≡ Move.die
      seven n6 (yes e) = move_if 7 e ∙ ap (λ (b : Bool). cond b (Move.eat next) Move.die) (taken_if 7 false e h)
      seven n6 (no n7) =
          rw (
            ne_eqb kind 0 (λ e. omega arith),
            ne_eqb kind 1 (λ e. omega arith),
            ne_eqb kind 2 (λ e. omega arith),
            ne_eqb kind 3 (λ e. omega arith),
            ne_eqb kind 4 (λ e. omega arith),
            ne_eqb kind 5 (λ e. omega arith),
            ne_eqb kind 6 n6,
            ne_eqb kind 7 n7,
            ne_eqb kind 9 n9,
          )

      six : Dec (kind ≡ 6) → move_at (place_of pattern kind next a n) line p level rows ≡ Move.die
      six (yes e) = move_if 6 e ∙ ap (λ (b : Bool). cond b (Move.eat next) Move.die) (taken_if 6 false e h)
      six (no n6) = seven n6 (ℕ_discrete kind 7)
