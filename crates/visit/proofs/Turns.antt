-- One turn of a visit's loop: what the tables show before it, with what is left to be visited, and what they show after it,
-- for each of the ways round: the pair was seen, the place leads on, it leads nowhere, a thread wins, or it is a fork, whose other branch then waits.
use Prim.Native.Nat.{ℕ, zero, suc, ◌+◌, ◌*◌, ◌≤◌, ◌<◌}
use mathlib.Core.Path.{◌≡◌, refl, sym, ap, ◌∙◌, subst}
use mathlib.Core.Bool.{Bool, true, false, not, ◌||◌}
use mathlib.Core.List.{List, [], ◌∷◌}
use native.Mathlib.Omega.{arith}
use borrow.Author.Tests.{not-true, not-false}
use Rattle.std.specs.Prelude.{Option, Some, None}
use lib.Dec.{eqb}
use lib.ListN.{length, get_or, set}
use Rattle.paper.specs.Rows.{Rows}
use Rattle.paper.specs.Machine.{Place, Thread, at, State, is_seen, is_won, mark, follow, arrive, visit, move_at}
use Rattle.paper.specs.Tables.{decode, place_at, place_of, place_kind_at, place_next_at, place_first_at, place_many_at}
use Rattle.paper.proofs.machine.Once.{visit_blocked}
use Rattle.threads.specs.Threads.{lacking}
use Rattle.moves.specs.Shows.{AheadIn, Shows}
use Rattle.moves.specs.Moves.{level_after, Leads, Settles}
use Rattle.threads.proofs.Stamps.{lacking_mark, mark_same}
use Rattle.visit.proofs.Cells.{decode_at, blocked_shown, shows_mark}

-- ---- what is left of a visit

-- threads visited one after the other, each with some bound above the number of pairs not seen, lead from a state to the final one
abbrev pub Unwinds : List Place → List ℕ → ℕ → ℕ → List Thread → State → State → Type 0
Unwinds code line p unseen [] s final = final ≡ s
Unwinds code line p unseen (t ∷ ts) s final = (k : ℕ) × (unseen < k) × Unwinds code line p unseen ts (visit k code line p t s) final

module _ (code : List Place) (line : List ℕ) (p : ℕ) where
  -- with fewer pairs not seen the bounds still do
  unwinds_fewer : (unseen fewer : ℕ) → fewer ≤ unseen → (ts : List Thread) (s final : State) → Unwinds code line p unseen ts s final → Unwinds code line p fewer ts s final
  unwinds_fewer unseen fewer h [] s final u = u
  unwinds_fewer unseen fewer h (t ∷ ts) s final u = (u.0, omega (arith, u.1), unwinds_fewer unseen fewer h ts (visit u.0 code line p t s) final u.2)

  -- a winner stays
  unwinds_won : (unseen : ℕ) (ts : List Thread) (s final : State) → is_won s.won ≡ true → Unwinds code line p unseen ts s final → final ≡ s
  unwinds_won unseen [] s final won u = u
  unwinds_won unseen (t ∷ ts) s final won u =
      let same : visit u.0 code line p t s ≡ s =
      visit_blocked code line p u.0 t s (ap (λ (b : Bool). b || is_seen t.place t.level s.seen) won) in
      unwinds_won unseen ts s final won (subst (λ (after : State). Unwinds code line p unseen ts after final) same u.2)

-- the tables show a state from which what is left of the visit gives the final state
pub record Stands (code pattern line : List ℕ) (places p : ℕ) (seen taken list : List ℕ) (count steps : ℕ) (ts : List Thread) (final : State) : Type 0 where
  pub state : State
  pub shows : Shows places (p + 1) seen taken list count steps false state
  pub rest : Unwinds (decode code pattern places) line p (lacking (p + 1) seen) ts state final

-- the same after a new pair was marked, before its move is followed
record Marked (code pattern line : List ℕ) (places p : ℕ) (seen taken list : List ℕ) (count steps x l : ℕ) (rows : Rows) (ts : List Thread) (final : State) : Type 0 where
  fuel : ℕ
  state : State
  shows : Shows places (p + 1) (set seen (l * places + x) (p + 1)) taken list count (steps + 1) false state
  enough : lacking (p + 1) (set seen (l * places + x) (p + 1)) < fuel
  rest : Unwinds (decode code pattern places) line p (lacking (p + 1) (set seen (l * places + x) (p + 1))) ts
      (follow (visit fuel (decode code pattern places) line p) (at x l rows) (move_at (place_at code pattern x) line p l rows) state) final

-- the four numbers of a place, as they were read
abbrev pub Reads : List ℕ → ℕ → ℕ → ℕ → ℕ → ℕ → Type 0
Reads code x kind next a n = (kind ≡ place_kind_at code x) × (next ≡ place_next_at code x) × (a ≡ place_first_at code x) × (n ≡ place_many_at code x)

read_place : (code pattern : List ℕ) (x kind next a n : ℕ) → Reads code x kind next a n → place_at code pattern x ≡ place_of pattern kind next a n
read_place code pattern x kind next a n r =
    ap (λ (k : ℕ). place_of pattern k (place_next_at code x) (place_first_at code x) (place_many_at code x)) (sym r.0)
    ∙ (ap (λ (k : ℕ). place_of pattern kind k (place_first_at code x) (place_many_at code x)) (sym r.1)
    ∙ (ap (λ (k : ℕ). place_of pattern kind next k (place_many_at code x)) (sym r.2) ∙ ap (λ (k : ℕ). place_of pattern kind next a k) (sym r.3)))

module _ (code pattern line : List ℕ) (places p : ℕ) (seen taken list : List ℕ) (count steps x l : ℕ) (rows : Rows) (ts : List Thread) (final : State)
    (inside : x < places) (room : l * places + x < length seen) (fresh : Bool) (was : fresh ≡ not (eqb (get_or seen (l * places + x) 0) (p + 1)))
    (s : Stands code pattern line places p seen taken list count steps (at x l rows ∷ ts) final) where
  -- the pair was seen
  pub stands_seen : fresh ≡ false → Stands code pattern line places p (set seen (l * places + x) (p + 1)) taken list count steps ts final
  stands_seen e =
      let stamped : eqb (get_or seen (l * places + x) 0) (p + 1) ≡ true = not-false (eqb (get_or seen (l * places + x) 0) (p + 1)) (sym was ∙ e) in
      let same : set seen (l * places + x) (p + 1) ≡ seen = mark_same (p + 1) seen (l * places + x) stamped in
      subst (λ (table : List ℕ). Stands code pattern line places p table taken list count steps ts final) (sym same)
      (record {
        state = s.state;
        shows = s.shows;
        rest =
            subst (λ (after : State). Unwinds (decode code pattern places) line p (lacking (p + 1) seen) ts after final)
            (visit_blocked (decode code pattern places) line p s.rest.0 (at x l rows) s.state
            (blocked_shown places (p + 1) seen taken list count steps s.state s.shows x l rows inside ∙ stamped))
            s.rest.2;
      })

  -- the pair is new
  marked : fresh ≡ true → Marked code pattern line places p seen taken list count steps x l rows ts final
  marked e = look s.rest.0 s.rest.1 s.rest.2
    where
      unstamped : eqb (get_or seen (l * places + x) 0) (p + 1) ≡ false
      unstamped = not-true (eqb (get_or seen (l * places + x) 0) (p + 1)) (sym was ∙ e)

      one_less : suc (lacking (p + 1) (set seen (l * places + x) (p + 1))) ≡ lacking (p + 1) seen
      one_less = lacking_mark (p + 1) seen (l * places + x) room unstamped

      look : (k : ℕ) → lacking (p + 1) seen < k
          → Unwinds (decode code pattern places) line p (lacking (p + 1) seen) ts (visit k (decode code pattern places) line p (at x l rows) s.state) final
          → Marked code pattern line places p seen taken list count steps x l rows ts final
      look zero h r = absurd (omega arith)
      look (suc k) h r = record {
        fuel = k;
        state = mark (at x l rows) s.state;
        shows = shows_mark places (p + 1) seen taken list count steps s.state s.shows x l rows inside room;
        enough = omega (arith, one_less);
        rest =
            unwinds_fewer (decode code pattern places) line p (lacking (p + 1) seen) (lacking (p + 1) (set seen (l * places + x) (p + 1))) (omega (arith, one_less)) ts
            (follow (visit k (decode code pattern places) line p) (at x l rows) (move_at (place_at code pattern x) line p l rows) (mark (at x l rows) s.state)) final
            (subst (λ (after : State). Unwinds (decode code pattern places) line p (lacking (p + 1) seen) ts after final)
            (ap (λ (b : Bool). arrive (visit k (decode code pattern places) line p) (decode code pattern places) line p b (at x l rows) s.state)
            (blocked_shown places (p + 1) seen taken list count steps s.state s.shows x l rows inside ∙ unstamped)
            ∙ ap (λ (place : Place). follow (visit k (decode code pattern places) line p) (at x l rows) (move_at place line p l rows) (mark (at x l rows) s.state))
            (decode_at code pattern places x inside))
            r);
      }

  module _ (new : fresh ≡ true) (kind next a n : ℕ) (read : Reads code x kind next a n) where
    -- the new pair's move, by the numbers that were read, is known to lead to a state
    followed : (m : Marked code pattern line places p seen taken list count steps x l rows ts final) (after : State)
        → follow (visit m.fuel (decode code pattern places) line p) (at x l rows) (move_at (place_of pattern kind next a n) line p l rows) m.state ≡ after
        → Unwinds (decode code pattern places) line p (lacking (p + 1) (set seen (l * places + x) (p + 1))) ts after final
    followed m after e =
        subst (λ (st : State). Unwinds (decode code pattern places) line p (lacking (p + 1) (set seen (l * places + x) (p + 1))) ts st final)
        (ap (λ (place : Place). follow (visit m.fuel (decode code pattern places) line p) (at x l rows) (move_at place line p l rows) m.state)
        (read_place code pattern x kind next a n read) ∙ e)
        m.rest

    -- the place leads on
    pub stands_lead : (floor : ℕ) → floor ≡ l * places → (floor' : ℕ) (rows' : Rows) → Leads kind a n p places floor rows (Some floor') rows'
        → Stands code pattern line places p (set seen (l * places + x) (p + 1)) taken list count (steps + 1) (at next (level_after kind l) rows' ∷ ts) final
    stands_lead floor low floor' rows' made =
        let m = marked new in
        let go = visit m.fuel (decode code pattern places) line p in
        record {
          state = m.state;
          shows = m.shows;
          rest = (m.fuel, m.enough, followed m (go (at next (level_after kind l) rows') m.state) (made.follows l low pattern line next x go m.state));
        }

    -- it leads nowhere
    pub stands_end : (floor : ℕ) → floor ≡ l * places → (rows' : Rows) → Leads kind a n p places floor rows None rows'
        → Stands code pattern line places p (set seen (l * places + x) (p + 1)) taken list count (steps + 1) ts final
    stands_end floor low rows' made =
        let m = marked new in
        record {
          state = m.state;
          shows = m.shows;
          rest = followed m m.state (made.follows l low pattern line next x (visit m.fuel (decode code pattern places) line p) m.state);
        }

    -- the place leads nowhere at once
    module _ {ahead : Option ℕ} (along : AheadIn line p ahead) (taken' list' : List ℕ) (count' : ℕ) where
      pub stands_settle : Settles pattern ahead p kind next a n rows taken list count taken' list' count' false
          → Stands code pattern line places p (set seen (l * places + x) (p + 1)) taken' list' count' (steps + 1) ts final
      stands_settle made =
          let m = marked new in
          let go = visit m.fuel (decode code pattern places) line p in
          let after = follow go (at x l rows) (move_at (place_of pattern kind next a n) line p l rows) m.state in
          record {
            state = after;
            shows = made.shows line along places (set seen (l * places + x) (p + 1)) (steps + 1) x l go m.state m.shows;
            rest = followed m after refl;
          }

      -- a winner's state is the final one
      pub stands_won : Settles pattern ahead p kind next a n rows taken list count taken' list' count' true
          → Shows places (p + 1) (set seen (l * places + x) (p + 1)) taken' list' count' (steps + 1) true final
      stands_won made =
          let m = marked new in
          let go = visit m.fuel (decode code pattern places) line p in
          let after = follow go (at x l rows) (move_at (place_of pattern kind next a n) line p l rows) m.state in
          let shown = made.shows line along places (set seen (l * places + x) (p + 1)) (steps + 1) x l go m.state m.shows in
          subst (Shows places (p + 1) (set seen (l * places + x) (p + 1)) taken' list' count' (steps + 1) true)
          (sym (unwinds_won (decode code pattern places) line p (lacking (p + 1) (set seen (l * places + x) (p + 1))) ts after final (ap is_won shown.winner) (followed m after refl)))
          shown

    -- the place is a fork: its other branch waits
    pub stands_fork : kind ≡ 0
        → Stands code pattern line places p (set seen (l * places + x) (p + 1)) taken list count (steps + 1) (at next l rows ∷ at a l rows ∷ ts) final
    stands_fork e =
        let m = marked new in
        let go = visit m.fuel (decode code pattern places) line p in
        record {
          state = m.state;
          shows = m.shows;
          rest = (
            m.fuel,
            m.enough,
            (
              m.fuel,
              m.enough,
              followed m (go (at a l rows) (go (at next l rows) m.state))
                  (ap (λ (k : ℕ). follow go (at x l rows) (move_at (place_of pattern k next a n) line p l rows) m.state) e),
            ),
          );
        }
