-- The machine inside a line makes the steps that it makes on the rest as a line of its own, and stops with the rest's rows moved.
-- A thread's rows decide nothing, a place's test sees only bytes and the line's end, and setting a row commutes with the move.
use Prim.Native.Nat.{ℕ, zero, suc, ◌+◌, ◌≤◌, ◌<◌}
use mathlib.Core.Path.{◌≡◌, refl, sym, ap, ◌∙◌}
use mathlib.Core.Bool.{Bool, true, false, cond, ◌||◌}
use mathlib.Core.List.{List, [], ◌∷◌, map, map-append}
use mathlib.Core.Option
use mathlib.Core.Option.{Option, none, some}
use native.Mathlib.Omega.{arith}
use native.Mathlib.Nat.{add-suc, add-zero}
use lib.Dec.{eqb}
use lib.ListN.{length, get_or, drop}
use Rattle.paper.specs.Limits.{absent}
use Rattle.paper.specs.Pattern.{Pattern}
use Rattle.paper.specs.Rows.{Rows, no_rows}
use Rattle.paper.specs.Reading.{takes}
use Rattle.paper.specs.Machine.{Place, one_of, stop, fork, opening, closing, begin, begin_optional, ending, accept, Thread, at, Move, die, win, eat, split, lead, move_at, State, fresh, is_seen, is_won, blocked, mark, follow, arrive, visit, visits, Stopped, matched, unmatched, settle, run, pairs, places_of, machine, steps_of, rows_of}
use Rattle.paper.specs.Match.{wrap, search, search_steps}
use Rattle.paper.specs.Replace.{moved, moved_stopped}
use Rattle.paper.proofs.machine.MachineReads.{machine_searches}
use Rattle.paper.proofs.machine.Bound.{machine_turns}
use Rattle.paper.proofs.reading.Moved.{takes_moved, end_moved, set_start_moved, set_end_moved, clear_moved}

-- a thread, a move and a state with the rows moved
abbrev pub moved_thread : ℕ → Thread → Thread
moved_thread p t = at t.place t.level (moved p t.rows)

abbrev pub moved_move : ℕ → Move → Move
moved_move p die = die
moved_move p win = win
moved_move p (eat next) = eat next
moved_move p (split preferred other) = split preferred other
moved_move p (lead t) = lead (moved_thread p t)

abbrev pub moved_state : ℕ → State → State
moved_state p s = record { seen = s.seen; carried = map (moved_thread p) s.carried; won = Option.map (moved p) s.won; steps = s.steps }

won_moved : (p : ℕ) (won : Option Rows) → is_won (Option.map (moved p) won) ≡ is_won won
won_moved p none = refl
won_moved p (some rows) = refl

module _ (p : ℕ) where
  follow_moved : (v w : Thread → State → State) → ((t : Thread) (s : State) → v (moved_thread p t) (moved_state p s) ≡ moved_state p (w t s))
      → (t : Thread) (m : Move) (s : State) → follow v (moved_thread p t) (moved_move p m) (moved_state p s) ≡ moved_state p (follow w t m s)
  follow_moved v w same t die s = refl
  follow_moved v w same t win s = refl
  follow_moved v w same t (eat next) s =
      ap (λ (c : List Thread). record { seen = s.seen; carried = c; won = Option.map (moved p) s.won; steps = s.steps })
      (sym (map-append (moved_thread p) s.carried (at next 0 t.rows ∷ [])))
  follow_moved v w same t (split preferred other) s =
      ap (v (moved_thread p (at other t.level t.rows))) (same (at preferred t.level t.rows) s) ∙
      same (at other t.level t.rows) (w (at preferred t.level t.rows) s)
  follow_moved v w same t (lead u) s = same u s

  settle_moved : (v w : List Thread → ℕ → Stopped) → ((ts : List Thread) (steps : ℕ) → v (map (moved_thread p) ts) steps ≡ moved_stopped p (w ts steps))
      → (won : Option Rows) (carried : List Thread) (steps : ℕ)
      → settle v (Option.map (moved p) won) (map (moved_thread p) carried) steps ≡ moved_stopped p (settle w won carried steps)
  settle_moved v w same (some rows) carried steps = refl
  settle_moved v w same none [] steps = refl
  settle_moved v w same none (t ∷ ts) steps = same (t ∷ ts) steps

module _ (p : ℕ) (line : List ℕ) (inside : p ≤ length line) where
  -- the move at a place is the rest's, moved
  pub move_at_moved : (place : Place) (q level : ℕ) (rows : Rows) → q < absent
      → move_at place line (p + q) level (moved p rows) ≡ moved_move p (move_at place (drop p line) q level rows)
  move_at_moved (one_of ranges next) q level rows h =
      ap (λ (b : Bool). cond b (eat next) die) (takes_moved ranges p q line) ∙ look (takes ranges (drop p line) q)
    where
      look : (b : Bool) → cond b (eat next) die ≡ moved_move p (cond b (eat next) die)
      look true = refl
      look false = refl
  move_at_moved stop q level rows h = refl
  move_at_moved (fork preferred other) q level rows h = refl
  move_at_moved (opening k next) q level rows h = ap (λ (r : Rows). lead (at next level r)) (set_start_moved p k q rows h)
  move_at_moved (closing k next) q level rows h = ap (λ (r : Rows). lead (at next level r)) (set_end_moved p k q rows h)
  move_at_moved (begin first n next) q level rows h = ap (λ (r : Rows). lead (at next level r)) (clear_moved p n first rows)
  move_at_moved (begin_optional first n next) q level rows h = ap (λ (r : Rows). lead (at next (suc level) r)) (clear_moved p n first rows)
  move_at_moved (ending next) q level rows h = look (eqb level 0)
    where
      look : (b : Bool) → cond b (lead (at next 0 (moved p rows))) die ≡ moved_move p (cond b (lead (at next 0 rows)) die)
      look true = refl
      look false = refl
  move_at_moved accept q level rows h = ap (λ (b : Bool). cond b win die) (end_moved p q line inside) ∙ look (eqb q (length (drop p line)))
    where
      look : (b : Bool) → cond b win die ≡ moved_move p (cond b win die)
      look true = refl
      look false = refl

  arrive_moved : (v w : Thread → State → State) → ((t : Thread) (s : State) → v (moved_thread p t) (moved_state p s) ≡ moved_state p (w t s))
      → (code : List Place) (q : ℕ) → q < absent → (b : Bool) (t : Thread) (s : State)
      → arrive v code line (p + q) b (moved_thread p t) (moved_state p s) ≡ moved_state p (arrive w code (drop p line) q b t s)
  arrive_moved v w same code q h true t s = refl
  arrive_moved v w same code q h false t s =
      ap (λ (m : Move). follow v (moved_thread p t) m (moved_state p (mark t s))) (move_at_moved (get_or code t.place stop) q t.level t.rows h) ∙
      follow_moved p v w same t (move_at (get_or code t.place stop) (drop p line) q t.level t.rows) (mark t s)

  -- an arrival leads to what it leads to in the rest, moved
  pub visit_moved : (turns : ℕ) (code : List Place) (q : ℕ) → q < absent → (t : Thread) (s : State)
      → visit turns code line (p + q) (moved_thread p t) (moved_state p s) ≡ moved_state p (visit turns code (drop p line) q t s)
  visit_moved zero code q h t s = refl
  visit_moved (suc turns) code q h t s =
      ap (λ (b : Bool). arrive (visit turns code line (p + q)) code line (p + q) (b || is_seen t.place t.level s.seen) (moved_thread p t) (moved_state p s))
      (won_moved p s.won) ∙
      arrive_moved (visit turns code line (p + q)) (visit turns code (drop p line) q) (visit_moved turns code q h) code q h (blocked t s) t s

  pub visits_moved : (turns : ℕ) (code : List Place) (q : ℕ) → q < absent → (ts : List Thread) (s : State)
      → visits turns code line (p + q) (map (moved_thread p) ts) (moved_state p s) ≡ moved_state p (visits turns code (drop p line) q ts s)
  visits_moved turns code q h [] s = refl
  visits_moved turns code q h (t ∷ ts) s =
      ap (visits turns code line (p + q) (map (moved_thread p) ts)) (visit_moved turns code q h t s) ∙
      visits_moved turns code q h ts (visit turns code (drop p line) q t s)

  -- the run from p + q makes the steps of the run of the rest from q, and stops with its rows moved
  pub run_moved : (positions turns : ℕ) (code : List Place) (q : ℕ) → q + positions ≤ absent → (ts : List Thread) (steps : ℕ)
      → run positions turns code line (p + q) (map (moved_thread p) ts) steps ≡ moved_stopped p (run positions turns code (drop p line) q ts steps)
  run_moved zero turns code q h ts steps = refl
  run_moved (suc positions) turns code q h ts steps =
      ap (λ (s : State). settle (run positions turns code line (suc (p + q))) s.won s.carried s.steps)
      (visits_moved turns code q (omega arith) ts (fresh steps)) ∙
      settle_moved p (run positions turns code line (suc (p + q))) (run positions turns code (drop p line) (suc q))
      (λ us n.
      ap (λ (at : ℕ). run positions turns code line at (map (moved_thread p) us) n) (sym (add-suc p q)) ∙
      run_moved positions turns code (suc q) (omega arith) us n)
      (visits turns code (drop p line) q ts (fresh steps)).won
      (visits turns code (drop p line) q ts (fresh steps)).carried
      (visits turns code (drop p line) q ts (fresh steps)).steps

-- moving the rows leaves the steps, and moves what is found
pub steps_moved : (p : ℕ) (stopped : Stopped) → steps_of (moved_stopped p stopped) ≡ steps_of stopped
steps_moved p (matched steps rows) = refl
steps_moved p (unmatched steps) = refl

pub rows_moved : (p : ℕ) (stopped : Stopped) → rows_of (moved_stopped p stopped) ≡ Option.map (moved p) (rows_of stopped)
rows_moved p (matched steps rows) = refl
rows_moved p (unmatched steps) = refl

-- the machine of a pattern, started at p of the whole line, with positions and turns enough, makes the steps that it makes on the rest,
-- and stops with the rest's rows moved by p
pub machine_moved : (e : Pattern) (first : ℕ) (line : List ℕ) (p positions turns : ℕ) → p ≤ length line → length (drop p line) < positions
    → positions ≤ absent → pairs e < turns
    → run positions turns (places_of e first) line p (at 0 0 no_rows ∷ []) 0 ≡ moved_stopped p (machine e first (drop p line))
machine_moved e first line p positions turns inside enough few many =
    ap (λ (q : ℕ). run positions turns (places_of e first) line q (at 0 0 no_rows ∷ []) 0) (sym (add-zero p)) ∙
    run_moved p line inside positions turns (places_of e first) 0 (omega arith) (at 0 0 no_rows ∷ []) 0 ∙
    ap (moved_stopped p) (machine_turns e first (drop p line) positions turns enough many)

-- so a search from p makes the steps of the search of the rest, and finds its rows moved by p
pub search_run_moved : (e : Pattern) (line : List ℕ) (p positions turns : ℕ) → p ≤ length line → length (drop p line) < positions
    → positions ≤ absent → pairs (wrap e) < turns
    → let stopped = run positions turns (places_of (wrap e) 0) line p (at 0 0 no_rows ∷ []) 0 in
    (steps_of stopped ≡ search_steps e (drop p line)) × (rows_of stopped ≡ Option.map (moved p) (search e (drop p line)))
search_run_moved e line p positions turns inside enough few many =
    let same = machine_moved (wrap e) 0 line p positions turns inside enough few many in
    let stopped = machine (wrap e) 0 (drop p line) in (
      ap steps_of same ∙ steps_moved p stopped,
      ap rows_of same ∙ rows_moved p stopped ∙ ap (Option.map (moved p)) (machine_searches e (drop p line)),
    )
