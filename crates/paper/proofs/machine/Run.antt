-- The machine over the positions of a line: what a list of threads gives, in at most all pairs a position, whatever larger numbers of positions and turns it is allowed.
use Prim.Native.Nat.{ℕ, zero, suc, ◌+◌, ◌*◌, ◌<◌, ◌≤◌}
use native.Mathlib.Omega.{arith}
use native.Mathlib.Nat.{suc-mul}
use mathlib.Core.Path.{◌≡◌, refl, sym, ap, subst, ◌∙◌}
use mathlib.Core.List.{List, [], ◌∷◌, nil≢cons}
use mathlib.Core.Option.{Option, none, some}
use lib.ListN.{length}
use Rattle.paper.specs.Rows.{Rows}
use Rattle.paper.specs.Machine.{Place, Thread, State, fresh, visits, Stopped, settle, run, steps_of, rows_of}
use Rattle.paper.proofs.reading.First.{before}
use Rattle.paper.proofs.machine.Unseen.{unseen_all}
use Rattle.paper.proofs.machine.Visit.{Gives, Good, Leads, none_underway, left, visited_all}

module _ (code : List Place) (line : List ℕ) (deepest : ℕ) where
  -- the pairs of a position
  abbrev pub all_pairs : ℕ
  all_pairs = length code * (deepest + 1)

  -- a run with so many bytes left: its rows, the bound on its steps, and that more positions or turns change nothing
  pub record Ran (bytes : ℕ) (runs : ℕ → ℕ → Stopped) (positions turns steps : ℕ) (o : Option Rows) : Type 0 where
    pub rows : rows_of (runs positions turns) ≡ o
    pub bound : steps_of (runs positions turns) ≤ steps + suc bytes * all_pairs
    pub same : (positions' turns' : ℕ) → bytes < positions' → all_pairs < turns' → runs positions' turns' ≡ runs positions turns

  -- a position before any thread
  pub good_fresh : (p steps : ℕ) → Good code line deepest p none_underway (fresh steps) none
  good_fresh p steps =
      record {
        later = none;
        carried = refl;
        sum = refl;
        last = λ end. refl;
        seen = λ place level h. let z : ◌≡◌ {A = ℕ} 0 1 = cc in absurd (omega arith);
      }

  -- how a position settles, given what the positions behind it do with the threads carried
  settled : (bytes p steps positions turns : ℕ) (won : Option Rows) (carried : List Thread) (made : ℕ) (o later : Option Rows)
      → o ≡ before won later → Gives code line deepest (suc p) carried later → made ≤ steps + all_pairs
      → ((t : Thread) (ts : List Thread) → carried ≡ t ∷ ts
      → (k : ℕ) × (bytes ≡ suc k) × Ran k (λ a b. run a b code line (suc p) (t ∷ ts) made) positions turns made later)
      → (rows_of (settle (run positions turns code line (suc p)) won carried made) ≡ o)
      × (steps_of (settle (run positions turns code line (suc p)) won carried made) ≤ steps + suc bytes * all_pairs)
      × ((positions' turns' : ℕ) → bytes < suc positions' → all_pairs < turns'
      → settle (run positions' turns' code line (suc p)) won carried made ≡ settle (run positions turns code line (suc p)) won carried made)
  settled bytes p steps positions turns (some rows) carried made o later sum gives few again =
      (sym sum, omega (arith, suc-mul bytes all_pairs), λ positions' turns' h h'. refl)
  settled bytes p steps positions turns none [] made o later sum gives few again =
      (sym (sum ∙ gives), omega (arith, suc-mul bytes all_pairs), λ positions' turns' h h'. refl)
  settled bytes p steps positions turns none (t ∷ ts) made o later sum gives few again =
      let next = again t ts refl in
      let k = next.0 in
      let counted : suc bytes * all_pairs ≡ suc k * all_pairs + all_pairs
      = suc-mul bytes all_pairs ∙ ap (λ (n : ℕ). n * all_pairs + all_pairs) next.1 in (
        next.2.rows ∙ sym sum,
        omega (arith, next.2.bound),
        λ positions' turns' h h'. next.2.same positions' turns' (omega (arith, next.1)) h',
      )

  -- one position, given the runs from the next
  position : (bytes p : ℕ) (ts : List Thread) (o : Option Rows) (steps : ℕ) → p + bytes ≡ length line → Gives code line deepest p ts o
      → (positions turns : ℕ) → bytes < suc positions → all_pairs < turns
      → ((k : ℕ) (us : List Thread) (later : Option Rows) (made : ℕ) → suc p + k ≡ length line → Gives code line deepest (suc p) us later
      → k < positions → Ran k (λ a b. run a b code line (suc p) us made) positions turns made later)
      → Ran bytes (λ a b. run a b code line p ts steps) (suc positions) turns steps o
  position bytes p ts o steps end gives positions turns h h' next = record { rows = all.0; bound = all.1; same = still }
    where
      all_left : left code line deepest (fresh steps) ≡ all_pairs
      all_left = unseen_all (length code) deepest

      few : left code line deepest (fresh steps) < turns
      few = omega (arith, all_left)

      led : Leads code line deepest p none_underway (fresh steps) (λ k. visits k code line p ts (fresh steps)) turns o
      led = visited_all code line deepest p ts o gives turns (fresh steps) none (good_fresh p steps) few

      s : State
      s = visits turns code line p ts (fresh steps)

      made : s.steps ≤ steps + all_pairs
      made = omega (arith, all_left, led.counted)

      again : (t : Thread) (us : List Thread) → s.carried ≡ t ∷ us
          → (k : ℕ) × (bytes ≡ suc k) × Ran k (λ a b. run a b code line (suc p) (t ∷ us) s.steps) positions turns s.steps led.good.later
      again t us e = by bytes refl
        where
          by : (n : ℕ) → bytes ≡ n
              → (k : ℕ) × (bytes ≡ suc k) × Ran k (λ a b. run a b code line (suc p) (t ∷ us) s.steps) positions turns s.steps led.good.later
          by zero none_left =
              let here : p ≡ length line = omega arith in
              let z : [] ≡ t ∷ us = sym (led.good.last here) ∙ e in
              absurd (nil≢cons z)
          by (suc k) more = (
            k,
            more,
            next k (t ∷ us) led.good.later s.steps (omega arith)
                (subst (λ (vs : List Thread). Gives code line deepest (suc p) vs led.good.later) e led.good.carried)
                (omega arith),
          )

      all : (rows_of (settle (run positions turns code line (suc p)) s.won s.carried s.steps) ≡ o)
          × (steps_of (settle (run positions turns code line (suc p)) s.won s.carried s.steps) ≤ steps + suc bytes * all_pairs)
          × ((positions' turns' : ℕ) → bytes < suc positions' → all_pairs < turns'
          → settle (run positions' turns' code line (suc p)) s.won s.carried s.steps
          ≡ settle (run positions turns code line (suc p)) s.won s.carried s.steps)
      all =
          settled bytes p steps positions turns s.won s.carried s.steps o led.good.later led.good.sum led.good.carried made again

      still : (positions' turns' : ℕ) → bytes < positions' → all_pairs < turns'
          → run positions' turns' code line p ts steps ≡ run (suc positions) turns code line p ts steps
      still zero turns' h h' = absurd (omega arith)
      still (suc positions') turns' h h' =
          ap (λ (x : State). settle (run positions' turns' code line (suc p)) x.won x.carried x.steps) (led.same turns' (omega (arith, all_left)))
          ∙ all.2 positions' turns' h h'

  -- a run from threads that give something
  pub ran : (bytes p : ℕ) (ts : List Thread) (o : Option Rows) (steps : ℕ) → p + bytes ≡ length line → Gives code line deepest p ts o
      → (positions turns : ℕ) → bytes < positions → all_pairs < turns
      → Ran bytes (λ a b. run a b code line p ts steps) positions turns steps o
  ran bytes p ts o steps end gives zero turns h h' = absurd (omega arith)
  ran bytes p ts o steps end gives (suc positions) turns h h' =
      position bytes p ts o steps end gives positions turns h h'
      (λ k us later made end' gives' few. ran k (suc p) us later made end' gives' positions turns few h')
