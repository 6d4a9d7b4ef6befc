-- The three ways of a place that leads nowhere at once: it carries its follower, it wins, or nothing comes of it.
use Prim.Native.Nat.{ℕ, ◌+◌, ◌*◌, ◌≤◌}
use mathlib.Core.Path.{◌≡◌, sym, ◌∙◌, subst}
use mathlib.Core.Bool.{Bool, true, false}
use mathlib.Core.List.{List}
use native.Mathlib.Omega.{arith}
use Rattle.std.specs.Prelude.{Option, is_none}
use Rattle.moves.proofs.Ranges.{ahead_none, ahead_some, no_byte, some_byte}
use lib.ListN.{length}
use Rattle.paper.specs.Rows.{Rows}
use Rattle.paper.specs.Machine.{at, Move, move_at, follow}
use Rattle.paper.specs.Tables.{place_of}
use Rattle.threads.specs.Threads.{stored, Carries}
use Rattle.moves.specs.Shows.{AheadIn, Shows}
use Rattle.moves.specs.Moves.{Eats, Settling, Settles}
use Rattle.moves.proofs.Moving.{move_eat, move_win, move_early, move_die}
use Rattle.moves.proofs.Carrying.{shows_carry, carried_carry, shows_win, carried_win}

module _ {pattern : List ℕ} {p kind next a n : ℕ} {taken list : List ℕ} {count : ℕ} (asked : Settling pattern p kind next a n taken list count) where
  -- there is room for one thread more
  pub settle_room : 21 * count + 21 ≤ length list
  settle_room = omega (arith, asked.carried.fits, asked.carried.list_long)

  module _ (ahead : Option ℕ) (rows : Rows) where
    -- it carries its follower
    pub settles_eat : (r : Bool) → Eats pattern ahead kind a n r → r ≡ true → (taken' list' : List ℕ) (count' : ℕ) → length rows ≡ 20
        → Carries taken list next (p + 1) rows count taken' list' count' → Settles pattern ahead p kind next a n rows taken list count taken' list' count' false
    settles_eat r eats e taken' list' count' long made = record {
      carried = carried_carry taken list next (p + 1) rows count long taken' list' count' made (length taken) (asked.inside (eats.leads e)) asked.carried;
      shows = λ line along places seen steps place level visit s sh.
          subst (λ (m : Move). Shows places (p + 1) seen taken' list' count' steps false (follow visit (at place level rows) m s))
          (sym (move_eat pattern line kind next a n p level rows (sym (eats.takes_it line p next along) ∙ e)))
          (shows_carry taken list next (p + 1) rows count long taken' list' count' made places seen steps s (asked.inside (eats.leads e)) settle_room sh);
    }

    pub settles_win : (taken' list' : List ℕ) (count' : ℕ) → length rows ≡ 20 → kind ≡ 9 → is_none ahead ≡ true
        → (taken' ≡ taken) × (count' ≡ count) × (list' ≡ stored list (21 * count) 0 rows)
        → Settles pattern ahead p kind next a n rows taken list count taken' list' count' true
    settles_win taken' list' count' long e end won = rw (won.0, won.1, won.2) (record {
      carried = carried_win taken list (p + 1) rows count long (length taken) asked.carried;
      shows = λ line along places seen steps place level visit s sh.
          subst (λ (m : Move). Shows places (p + 1) seen taken (stored list (21 * count) 0 rows) count steps true (follow visit (at place level rows) m s))
          (sym (move_win pattern line kind next a n p level rows e (omega (arith, along.within, ahead_none (subst (AheadIn line p) (no_byte ahead end) along)))))
          (shows_win taken list (p + 1) rows count long (length taken) asked.carried places seen steps s sh);
    })

    settles_stay : ((line : List ℕ) → AheadIn line p ahead → (level : ℕ) → move_at (place_of pattern kind next a n) line p level rows ≡ Move.die)
        → Settles pattern ahead p kind next a n rows taken list count taken list count false
    settles_stay dies = record {
      carried = asked.carried;
      shows = λ line along places seen steps place level visit s sh.
          subst (λ (m : Move). Shows places (p + 1) seen taken list count steps false (follow visit (at place level rows) m s)) (sym (dies line along level)) sh;
    }

    pub settles_early : kind ≡ 9 → is_none ahead ≡ false → Settles pattern ahead p kind next a n rows taken list count taken list count false
    settles_early e more =
        settles_stay (λ line along level. move_early pattern line kind next a n p level rows e (λ same. omega (arith, ahead_some along (some_byte ahead more))))

    pub settles_die : (kind ≡ 9 → ⊥) → (r : Bool) → Eats pattern ahead kind a n r → r ≡ false
        → Settles pattern ahead p kind next a n rows taken list count taken list count false
    settles_die other r eats e =
        settles_stay (λ line along level. move_die pattern line kind next a n p level rows asked.last other (sym (eats.takes_it line p next along) ∙ e))
