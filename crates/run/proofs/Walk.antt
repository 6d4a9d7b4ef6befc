-- The threads of a list visited in order: what holds between two of them. After a winner the others are not visited, and the definition's visits of them change nothing.
use Prim.Native.Nat.{ℕ, zero, suc, ◌+◌, ◌*◌, ◌≤◌, ◌<◌, ◌^◌}
use mathlib.Core.Path.{◌≡◌, refl, sym, ap, ap₂, ◌∙◌, subst}
use mathlib.Core.Bool.{Bool, true, false, ◌||◌}
use mathlib.Core.List.{List, [], ◌∷◌, ◌++◌}
use native.Mathlib.Omega.{arith}
use native.Mathlib.Decide.{ℕ_discrete}
use native.Mathlib.Numerals.{add-one}
use borrow.Author.Tests.{ne_eqb}
use lib.Dec.{eqb}
use lib.ListN.{length, get_or}
use Rattle.std.specs.Prelude.{Option}
use Rattle.paper.specs.Rows.{Rows}
use Rattle.paper.specs.Machine.{Place, Thread, at, State, fresh, is_won, is_seen, visit, visits}
use Rattle.paper.specs.Tables.{decode}
use Rattle.paper.proofs.machine.Once.{visit_blocked}
use Rattle.threads.specs.Threads.{place_in, rows_in, thread_in, threads, lacking, Under}
use Rattle.moves.specs.Shows.{AheadIn, Shows, Carried}
use Rattle.visit.specs.Wired.{Wired}
use Rattle.visit.specs.Visits.{Arrives, Visits}
use Rattle.threads.proofs.Stamps.{lacking_all}
use Rattle.visit.proofs.Loop.{rewire}
use Rattle.run.specs.Steps.{Stepping, Steps}

-- ---- the definition's visits

module _ (k : ℕ) (code : List Place) (line : List ℕ) (p : ℕ) where
  visits_snoc : (ts : List Thread) (t : Thread) (s : State)
      → visits k code line p (ts ++ (t ∷ [])) s ≡ visit k code line p t (visits k code line p ts s)
  visits_snoc [] t s = refl
  visits_snoc (u ∷ ts) t s = visits_snoc ts t (visit k code line p u s)

  -- after a winner the threads that are left change nothing
  visits_won : (list : List ℕ) (i n : ℕ) (s : State) → i ≤ n → is_won (visits k code line p (threads list i) s).won ≡ true
      → visits k code line p (threads list n) s ≡ visits k code line p (threads list i) s
  visits_won list i zero s h won =
      let e : 0 ≡ i = omega arith in
      ap (λ (j : ℕ). visits k code line p (threads list j) s) e
  visits_won list i (suc n) s h won = look (ℕ_discrete i (suc n)) (λ le. visits_won list i n s le won)
    where
      look : Dec (i ≡ suc n) → (i ≤ n → visits k code line p (threads list n) s ≡ visits k code line p (threads list i) s)
          → visits k code line p (threads list (suc n)) s ≡ visits k code line p (threads list i) s
      look (yes e) before = ap (λ (j : ℕ). visits k code line p (threads list j) s) (sym e)
      look (no ne) before =
          let same : visits k code line p (threads list n) s ≡ visits k code line p (threads list i) s = before (omega arith) in
          visits_snoc (threads list n) (thread_in list n) s
          ∙ (ap (visit k code line p (thread_in list n)) same
          ∙ visit_blocked code line p k (thread_in list n) (visits k code line p (threads list i) s)
          (ap (λ (b : Bool). b || is_seen (place_in list n) 0 (visits k code line p (threads list i) s).seen) won))

-- ---- what holds between two threads

pub record Walk (code pattern : List ℕ) (ahead : Option ℕ) (places p : ℕ) (seen₀ from : List ℕ) (number steps₀ : ℕ)
    (seen taken list : List ℕ) (i count steps : ℕ) : Type 0 where
  pub wired : Wired code pattern places (length seen₀)
  pub cells : length seen₀ < 2 ^ 16
  pub early : p < 65535
  pub from_long : 21 * number ≤ length from
  pub inside : (j : ℕ) → j < number → place_in from j < places
  pub countable : steps₀ + length seen₀ < 2 ^ 32
  pub long : length seen ≡ length seen₀
  pub under : Under (p + 1) seen
  pub carried : Carried places (p + 1) taken list count
  pub each : steps + lacking (p + 1) seen ≡ steps₀ + lacking (p + 1) seen₀
  pub shows : (line : List ℕ) → AheadIn line p ahead → (k : ℕ) → length seen₀ < k
      → Shows places (p + 1) seen taken list count steps false (visits k (decode code pattern places) line p (threads from i) (fresh steps₀))

-- tables without this position's stamp show nothing seen or carried
unstamped : (p : ℕ) (table : List ℕ) → Under p table → (i : ℕ) → false ≡ eqb (get_or table i 0) (p + 1)
unstamped p table under i = sym (ne_eqb (get_or table i 0) (p + 1) (λ e. omega (arith, under i)))

under_more : (p : ℕ) (table : List ℕ) → Under p table → Under (p + 1) table
under_more p table under i = omega (arith, under i)

-- it holds before the first thread
pub walk_first : (code pattern : List ℕ) (ahead : Option ℕ) (places p : ℕ) (seen taken from : List ℕ) (number : ℕ) (list pending : List ℕ) (steps count : ℕ)
    → count ≡ 0 → Stepping code pattern places p seen taken from number list pending steps
    → Walk code pattern ahead places p seen from number steps seen taken list 0 count steps
walk_first code pattern ahead places p seen taken from number list pending steps count none asked = rw none (record {
  wired = asked.wired;
  cells = asked.cells;
  early = asked.early;
  from_long = asked.long;
  inside = asked.inside;
  countable = asked.countable;
  long = refl;
  under = under_more p seen asked.seen_under;
  carried = record {
    taken_long = asked.taken_long;
    list_long = asked.list_long;
    under = under_more p taken asked.taken_under;
    fits = omega (arith, lacking_all (p + 1) taken, asked.taken_long);
    inside = λ i h. absurd (omega arith);
  };
  each = refl;
  shows = λ line along k h. record {
    pairs = λ x l inside. unstamped p seen asked.seen_under (l * places + x);
    marks = λ x. unstamped p taken asked.taken_under x;
    carried = refl;
    winner = refl;
    counted = refl;
  };
})

module _ {code pattern : List ℕ} {ahead : Option ℕ} {places p : ℕ} {seen₀ from : List ℕ} {number steps₀ : ℕ}
    {seen taken list : List ℕ} {i count steps : ℕ}
    (w : Walk code pattern ahead places p seen₀ from number steps₀ seen taken list i count steps) where
  module _ (left : i < number) where
    -- the next thread's numbers are inside the list
    pub walk_room : 21 * i + 21 ≤ length from
    walk_room = omega (arith, w.from_long)

    -- what its visit asks
    pub walk_asked : (q : ℕ) → q ≡ place_in from i → (pending : List ℕ) → 22 * (2 * places) ≤ length pending
        → Arrives code pattern places p q seen taken list pending count steps
    walk_asked q e pending pending_long = record {
      wired = rewire (length seen) (sym w.long) w.wired;
      inside = omega (arith, w.inside i left);
      cells = omega (arith, w.cells, w.long);
      pending_long = pending_long;
      early = w.early;
      under = w.under;
      carried = w.carried;
      countable = omega (arith, w.each, w.countable, lacking_all (p + 1) seen₀);
    }

    module _ (q : ℕ) (e : q ≡ place_in from i) (rows : Rows) (er : rows ≡ rows_in from i) (seen' taken' list' : List ℕ) (count' steps' : ℕ) (done : Bool)
        (same_long : length seen' ≡ length seen) (made : Visits code pattern ahead places p q rows seen taken list count steps seen' taken' list' count' steps' done) where
      -- what the tables show after it
      shown_next : (line : List ℕ) → AheadIn line p ahead → (k : ℕ) → length seen₀ < k
          → Shows places (p + 1) seen' taken' list' count' steps' done (visits k (decode code pattern places) line p (threads from (i + 1)) (fresh steps₀))
      shown_next line along k h =
          let was : State = visits k (decode code pattern places) line p (threads from i) (fresh steps₀) in
          subst (Shows places (p + 1) seen' taken' list' count' steps' done)
          (ap₂ (λ (x : ℕ) (r : Rows). visit k (decode code pattern places) line p (at x 0 r) was) e er
          ∙ (sym (visits_snoc k (decode code pattern places) line p (threads from i) (thread_in from i) (fresh steps₀))
          ∙ ap (λ (j : ℕ). visits k (decode code pattern places) line p (threads from j) (fresh steps₀)) (sym (add-one i))))
          (made.shows line along k was (w.shows line along k h) (omega (arith, lacking_all (p + 1) seen, w.long)))

      -- after a winner, what the position promises
      pub walk_won : done ≡ true → Steps code pattern ahead places p seen₀ from number steps₀ seen' taken' list' count' steps' true
      walk_won won = record {
        under = made.under;
        carried = made.carried;
        bounded = omega (arith, made.each, w.each, lacking_all (p + 1) seen₀);
        shows = λ line along k h.
            let shown : Shows places (p + 1) seen' taken' list' count' steps' true (visits k (decode code pattern places) line p (threads from (i + 1)) (fresh steps₀)) =
            subst (λ (d : Bool). Shows places (p + 1) seen' taken' list' count' steps' d (visits k (decode code pattern places) line p (threads from (i + 1)) (fresh steps₀)))
            won (shown_next line along k h) in
            subst (Shows places (p + 1) seen' taken' list' count' steps' true)
            (sym (visits_won k (decode code pattern places) line p from (i + 1) number (fresh steps₀) (omega arith) (ap is_won shown.winner))) shown;
      }

      -- where none has won, it holds before the next thread
      pub walk_next : done ≡ false → Walk code pattern ahead places p seen₀ from number steps₀ seen' taken' list' (i + 1) count' steps'
      walk_next none = record {
        wired = w.wired;
        cells = w.cells;
        early = w.early;
        from_long = w.from_long;
        inside = w.inside;
        countable = w.countable;
        long = same_long ∙ w.long;
        under = made.under;
        carried = made.carried;
        each = made.each ∙ w.each;
        shows = λ line along k h.
            subst (λ (d : Bool). Shows places (p + 1) seen' taken' list' count' steps' d (visits k (decode code pattern places) line p (threads from (i + 1)) (fresh steps₀)))
            none (shown_next line along k h);
      }

  -- after the last thread, what the position promises
  pub walk_last : number ≤ i → i ≤ number → Steps code pattern ahead places p seen₀ from number steps₀ seen taken list count steps false
  walk_last all most = record {
    under = w.under;
    carried = w.carried;
    bounded = omega (arith, w.each, lacking_all (p + 1) seen₀);
    shows = λ line along k h.
        let e : i ≡ number = omega arith in
        subst (λ (j : ℕ). Shows places (p + 1) seen taken list count steps false (visits k (decode code pattern places) line p (threads from j) (fresh steps₀))) e
        (w.shows line along k h);
  }
