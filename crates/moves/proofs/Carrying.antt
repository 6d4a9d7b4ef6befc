-- The tables show the state after a thread was carried or has won. A follower that has a mark is carried already, and the list keeps the first.
use Prim.Native.Nat.{ℕ, ◌+◌, ◌*◌, ◌≤◌, ◌<◌}
use mathlib.Core.Path.{◌≡◌, refl, sym, ap, ap₂, ◌∙◌, subst}
use mathlib.Core.Bool.{Bool, true, false, cond, ◌&&◌, ◌||◌}
use mathlib.Core.List.{List, [], ◌∷◌, ◌++◌}
use mathlib.Core.Option.{some}
use native.Mathlib.Omega.{arith}
use native.Mathlib.Decide.{ℕ_discrete}
use native.Mathlib.Numerals.{add-one}
use borrow.Author.Tests.{eq-eqb, ne_eqb}
use lib.Dec.{eqb}
use lib.ListN.{length, get_or, set, length-set}
use lib.Seq.{get_or-set_same, get_or-set_other}
use Rattle.paper.specs.Rows.{Rows}
use Rattle.paper.specs.Machine.{Thread, at, State, is_seen, stop_with}
use Rattle.paper.specs.Once.{once, pairs_of}
use Rattle.paper.proofs.machine.Once.{once_snoc}
use Rattle.threads.specs.Threads.{stored, place_in, threads, lacking, Under, Carries}
use Rattle.moves.specs.Shows.{Shows, Carried}
use Rattle.threads.proofs.Stamps.{lacking_mark, mark_same, under_mark}
use Rattle.threads.proofs.Stores.{stored_long, stored_before, stored_place, stored_rows, same_threads}

-- whether a pair is among the threads, with one more
or_step : (a b c : Bool) → ((a || b) || c) ≡ (a || (b || c))
or_step true b c = refl
or_step false b c = refl

or_false : (a : Bool) → (a || false) ≡ a
or_false true = refl
or_false false = refl

or_true : (a : Bool) → (a || true) ≡ true
or_true true = refl
or_true false = refl

among_snoc : (x l : ℕ) (ts : List Thread) (t : Thread)
    → is_seen x l (pairs_of (ts ++ (t ∷ []))) ≡ (is_seen x l (pairs_of ts) || (eqb t.place x && eqb t.level l))
among_snoc x l [] t = or_false (eqb t.place x && eqb t.level l)
among_snoc x l (u ∷ ts) t =
    ap (λ (b : Bool). (eqb u.place x && eqb u.level l) || b) (among_snoc x l ts t)
    ∙ sym (or_step (eqb u.place x && eqb u.level l) (is_seen x l (pairs_of ts)) (eqb t.place x && eqb t.level l))

module _ (taken list : List ℕ) (next stamp : ℕ) (rows : Rows) (count : ℕ) (long : length rows ≡ 20) where
  -- the mark of the follower is set, the others stay
  marks_carry : (ts : List Thread) → next < length taken → ((x : ℕ) → is_seen x 0 (pairs_of ts) ≡ eqb (get_or taken x 0) stamp)
      → (x : ℕ) → is_seen x 0 (pairs_of (ts ++ (at next 0 rows ∷ []))) ≡ eqb (get_or (set taken next stamp) x 0) stamp
  marks_carry ts inside marks x = among_snoc x 0 ts (at next 0 rows) ∙ look (ℕ_discrete x next)
    where
      look : Dec (x ≡ next) → (is_seen x 0 (pairs_of ts) || (eqb next x && true)) ≡ eqb (get_or (set taken next stamp) x 0) stamp
      look (yes e) =
          ap (λ (b : Bool). is_seen x 0 (pairs_of ts) || (b && true)) (eq-eqb next x (sym e))
          ∙ (or_true (is_seen x 0 (pairs_of ts))
          ∙ sym (ap (λ (v : ℕ). eqb v stamp) (ap (λ (y : ℕ). get_or (set taken next stamp) y 0) e ∙ get_or-set_same taken next stamp 0 inside) ∙ eq-eqb stamp stamp refl))
      look (no ne) =
          ap (λ (b : Bool). is_seen x 0 (pairs_of ts) || (b && true)) (ne_eqb next x (λ e. ne (sym e)))
          ∙ (or_false (is_seen x 0 (pairs_of ts))
          ∙ (marks x ∙ sym (ap (λ (v : ℕ). eqb v stamp) (get_or-set_other taken next x stamp 0 ne))))

  -- the list has the thread behind the others, unless the follower had a mark
  carried_more : (b : Bool) (ts : List Thread) → 21 * count + 21 ≤ length list → ts ≡ threads list count
      → cond b ts (ts ++ (at next 0 rows ∷ [])) ≡ threads (cond b list (stored list (21 * count) next rows)) (cond b count (count + 1))
  carried_more true ts room e = e
  carried_more false ts room e =
      ap₂ (λ (x y : List Thread). x ++ y)
      (e ∙ sym (same_threads (stored list (21 * count) next rows) list count (stored_long list (21 * count) next rows long room)
      (stored_before list (21 * count) next rows long room)))
      (sym (ap₂ (λ (x : ℕ) (r : Rows). at x 0 r ∷ []) (stored_place list (21 * count) next rows long room) (stored_rows list (21 * count) next rows long room)))
      ∙ ap (threads (stored list (21 * count) next rows)) (sym (add-one count))

  module _ (taken' list' : List ℕ) (count' : ℕ) (made : Carries taken list next stamp rows count taken' list' count') where
    -- the tables show the state with the thread carried
    pub shows_carry : (places : ℕ) (seen : List ℕ) (steps : ℕ) (s : State) → next < length taken → 21 * count + 21 ≤ length list
        → Shows places stamp seen taken list count steps false s
        → Shows places stamp seen taken' list' count' steps false (Rattle.paper.specs.Machine.carry next rows s)
    shows_carry places seen steps s inside room sh = record {
      pairs = sh.pairs;
      marks = λ x. marks_carry s.carried inside sh.marks x ∙ ap (λ (t : List ℕ). eqb (get_or t x 0) stamp) (sym made.marked);
      carried =
          once_snoc [] s.carried (at next 0 rows)
          ∙ (ap (λ (b : Bool). cond b (once s.carried) (once s.carried ++ (at next 0 rows ∷ []))) (sh.marks next)
          ∙ (carried_more (eqb (get_or taken next 0) stamp) (once s.carried) room sh.carried
          ∙ ap₂ threads (sym made.kept) (sym made.counted)));
      winner = sh.winner;
      counted = sh.counted;
    }

    module _ (places : ℕ) (inside : next < places) (was : Carried places stamp taken list count) where
      room_here : 21 * count + 21 ≤ length list
      room_here = omega (arith, was.fits, was.list_long)

      kept_long : (b : Bool) → length (cond b list (stored list (21 * count) next rows)) ≡ length list
      kept_long true = refl
      kept_long false = stored_long list (21 * count) next rows long room_here

      still_fits : (b : Bool) → eqb (get_or taken next 0) stamp ≡ b → cond b count (count + 1) + lacking stamp (set taken next stamp) ≤ places
      still_fits true e = subst (λ (t : List ℕ). count + lacking stamp t ≤ places) (sym (mark_same stamp taken next e)) was.fits
      still_fits false e = omega (arith, lacking_mark stamp taken next (omega (arith, was.taken_long)) e, was.fits)

      still_inside : (b : Bool) (i : ℕ) → i < cond b count (count + 1) → place_in (cond b list (stored list (21 * count) next rows)) i < places
      still_inside true i h = was.inside i h
      still_inside false i h = look (ℕ_discrete i count)
        where
          look : Dec (i ≡ count) → place_in (stored list (21 * count) next rows) i < places
          look (yes e) =
              subst (λ (x : ℕ). x < places)
              (sym (ap (λ (j : ℕ). place_in (stored list (21 * count) next rows) j) e ∙ stored_place list (21 * count) next rows long room_here)) inside
          look (no ne) =
              let lt : i < count = omega arith in
              subst (λ (x : ℕ). x < places) (sym (stored_before list (21 * count) next rows long room_here (21 * i) (omega arith))) (was.inside i lt)

      -- and there is still room
      pub carried_carry : Carried places stamp taken' list' count'
      carried_carry = record {
        taken_long = ap length made.marked ∙ (length-set taken next stamp ∙ was.taken_long);
        list_long = subst (λ (n : ℕ). 21 * (places + 1) ≤ n) (sym (ap length made.kept ∙ kept_long (eqb (get_or taken next 0) stamp))) was.list_long;
        under = subst (Under stamp) (sym made.marked) (under_mark stamp taken next was.under);
        fits =
            subst (λ (n : ℕ). n + lacking stamp taken' ≤ places) (sym made.counted)
            (subst (λ (t : List ℕ). cond (eqb (get_or taken next 0) stamp) count (count + 1) + lacking stamp t ≤ places) (sym made.marked)
            (still_fits (eqb (get_or taken next 0) stamp) refl));
        inside = λ i h.
            subst (λ (l : List ℕ). place_in l i < places) (sym made.kept)
            (still_inside (eqb (get_or taken next 0) stamp) i (subst (λ (n : ℕ). i < n) made.counted h));
      }

-- ---- a winner, stored behind the carried threads

module _ (taken list : List ℕ) (stamp : ℕ) (rows : Rows) (count : ℕ) (long : length rows ≡ 20) (places : ℕ) (was : Carried places stamp taken list count) where
  winner_room : 21 * count + 21 ≤ length list
  winner_room = omega (arith, was.fits, was.list_long)

  -- the tables show the state with a winner
  pub shows_win : (n : ℕ) (seen : List ℕ) (steps : ℕ) (s : State) → Shows n stamp seen taken list count steps false s
      → Shows n stamp seen taken (stored list (21 * count) 0 rows) count steps true (stop_with rows s)
  shows_win n seen steps s sh = record {
    pairs = sh.pairs;
    marks = sh.marks;
    carried = sh.carried
        ∙ sym (same_threads (stored list (21 * count) 0 rows) list count (stored_long list (21 * count) 0 rows long winner_room)
        (stored_before list (21 * count) 0 rows long winner_room));
    winner = ap some (sym (stored_rows list (21 * count) 0 rows long winner_room));
    counted = sh.counted;
  }

  pub carried_win : Carried places stamp taken (stored list (21 * count) 0 rows) count
  carried_win = record {
    taken_long = was.taken_long;
    list_long = subst (λ (n : ℕ). 21 * (places + 1) ≤ n) (sym (stored_long list (21 * count) 0 rows long winner_room)) was.list_long;
    under = was.under;
    fits = was.fits;
    inside = λ i h. subst (λ (x : ℕ). x < places) (sym (stored_before list (21 * count) 0 rows long winner_room (21 * i) (omega arith))) (was.inside i h);
  }
