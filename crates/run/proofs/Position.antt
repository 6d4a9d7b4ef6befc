-- The positions one after the other, with two lists of threads exchanged at each: what holds between two of them. What is left of the definition's run,
-- from the threads that are carried, is the whole run's answer.
use Prim.Native.Nat.{ℕ, zero, suc, ◌+◌, ◌-◌, ◌*◌, ◌≤◌, ◌<◌}
use mathlib.Core.Path.{◌≡◌, refl, sym, ap, ap₂, ◌∙◌, subst}
use mathlib.Core.Bool.{Bool, true, false, cond}
use mathlib.Core.List.{List, [], ◌∷◌}
use mathlib.Core.Option as maybe
use native.Mathlib.Omega.{arith}
use native.Mathlib.Numerals.{add-one}
use lib.ListN.{length, get_or, replicate, length-replicate, length-append}
use Rattle.std.specs.Borrow.{Bor}
use Rattle.std.specs.Option.{option_copied}
use Rattle.std.specs.Prelude.{Option, Some, None, slice_get}
use Rattle.std.specs.Slice.{IsItemAt}
use Rattle.std.proofs.lemmas.Option.{slice_get_read, slice_get_past}
use Rattle.paper.specs.Rows.{Rows, no_rows}
use Rattle.paper.specs.Machine.{Thread, at, fresh, visits, settle, run, Stopped}
use Rattle.paper.specs.Tables.{decode}
use Rattle.paper.specs.Once.{once}
use Rattle.paper.proofs.machine.Once.{run_once}
use Rattle.threads.specs.Threads.{place_in, rows_in, thread_in, threads, stored, Under}
use Rattle.moves.specs.Shows.{AheadIn}
use Rattle.visit.specs.Wired.{Wired}
use Rattle.threads.proofs.Stores.{stored_long, stored_place, stored_rows}
use Rattle.visit.proofs.Loop.{rewire}
use Rattle.run.specs.Steps.{Stepping, Steps, Running, Runs}

-- ---- how a position settles

-- nothing carried, and nothing won: the machine stops
settle_none : (next : List Thread → ℕ → Stopped) (ts : List Thread) (steps : ℕ) → once ts ≡ [] → settle next maybe.none ts steps ≡ Stopped.unmatched steps
settle_none next [] steps e = refl
settle_none next (t ∷ ts) steps e = cc

-- something carried: it goes on
settle_some : (next : List Thread → ℕ → Stopped) (ts : List Thread) (steps : ℕ) (list : List ℕ) (n : ℕ) → 0 < n → once ts ≡ threads list n
    → settle next maybe.none ts steps ≡ next ts steps
settle_some next ts steps list zero some e = absurd (omega arith)
settle_some next [] steps list (suc n) some e =
    let long : ◌≡◌ {A = ℕ} 0 (length (threads list n) + 1) = ap length e ∙ length-append (threads list n) (thread_in list n ∷ []) in
    absurd (omega arith)
settle_some next (t ∷ ts) steps list (suc n) some e = refl

-- ---- what holds between two positions

pub record Position (code pattern line : List ℕ) (places start cells : ℕ) (seen taken current next pending : List ℕ) (p number steps : ℕ) : Type 0 where
  pub wired : Wired code pattern places cells
  pub small : cells < 65536
  pub line_long : length line ≤ 65534
  pub long : length seen ≡ cells
  pub taken_long : length taken ≡ places
  pub current_long : 21 * (places + 1) ≤ length current
  pub next_long : 21 * (places + 1) ≤ length next
  pub pending_long : 22 * (2 * places) ≤ length pending
  pub seen_under : Under p seen
  pub taken_under : Under p taken
  pub after : start ≤ p
  pub few : number ≤ places
  pub some : 0 < number
  pub inside : (i : ℕ) → i < number → place_in current i < places
  pub bounded : steps ≤ 65535 * (p - start)
  pub ran : (turns : ℕ) → cells < turns
      → run (suc (length line - start)) turns (decode code pattern places) line start (at 0 0 no_rows ∷ []) 0
      ≡ run (length line + 1 - p) turns (decode code pattern places) line p (threads current number) steps

-- the byte that stands at a position of the line, read
pub ahead_read : (line : List ℕ) (p : ℕ) (read : Option (Bor ℕ)) (ahead : Option ℕ) → ahead ≡ option_copied read → IsItemAt line p read → p ≤ length line → AheadIn line p ahead
ahead_read line p read ahead copied found within = record { within = within; is_ahead = copied ∙ look read found }
  where
    look : (r : Option (Bor ℕ)) → IsItemAt line p r → option_copied r ≡ slice_get line p
    look None past = sym (slice_get_past line p past.3)
    look (Some byte) at_p = sym (slice_get_read line (length line) p byte.now refl at_p.3.0 at_p.1)

zero_under : (p n : ℕ) → Under p (replicate n 0)
zero_under p zero i = omega arith
zero_under p (suc n) zero = omega arith
zero_under p (suc n) (suc i) = zero_under p n i

-- it holds at the start, with the tables filled with 0 and one thread at the first place
pub position_first : (code pattern line : List ℕ) (places start : ℕ) (seen taken lists pending : List ℕ) → Running code pattern line places start seen taken lists pending
    → (seen' taken' front current next : List ℕ) → seen' ≡ replicate (length seen) 0 → taken' ≡ replicate (length taken) 0
    → length front ≡ 21 * (places + 1) → current ≡ stored front 0 0 no_rows → length next + 21 * (places + 1) ≡ length lists
    → Position code pattern line places start (length seen) seen' taken' current next pending start 1 0
position_first code pattern line places start seen taken lists pending asked seen' taken' front current next es et ef ec en =
    let room : 0 + 21 ≤ length front = omega arith in
    let first : place_in current 0 ≡ 0 = ap (λ (l : List ℕ). get_or l 0 0) ec ∙ stored_place front 0 0 no_rows refl room in
    let rows : rows_in current 0 ≡ no_rows = ap (λ (l : List ℕ). rows_in l 0) ec ∙ stored_rows front 0 0 no_rows refl room in
    record {
      wired = asked.wired;
      small = asked.cells;
      line_long = asked.line_long;
      long = ap length es ∙ length-replicate (length seen) 0;
      taken_long = ap length et ∙ (length-replicate (length taken) 0 ∙ asked.taken_long);
      current_long = omega (arith, ap length ec, stored_long front 0 0 no_rows refl room);
      next_long = omega (arith, asked.lists_long);
      pending_long = asked.pending_long;
      seen_under = subst (Under start) (sym es) (zero_under start (length seen));
      taken_under = subst (Under start) (sym et) (zero_under start (length taken));
      after = omega arith;
      few = omega (arith, asked.some);
      some = omega arith;
      inside = λ i h.
          let e : 0 ≡ i = omega arith in
          subst (λ (j : ℕ). place_in current j < places) e (omega (arith, first, asked.some));
      bounded = omega arith;
      ran = λ turns h.
          let left : suc (length line - start) ≡ length line + 1 - start = omega (arith, asked.starts) in
          ap₂ (λ (x : ℕ) (r : Rows). run (suc (length line - start)) turns (decode code pattern places) line start (at x 0 r ∷ []) 0) (sym first) (sym rows)
          ∙ ap (λ (n : ℕ). run n turns (decode code pattern places) line start (threads current 1) 0) left;
    }

module _ {code pattern line : List ℕ} {places start cells : ℕ} {seen taken current next pending : List ℕ} {p number steps : ℕ}
    (q : Position code pattern line places start cells seen taken current next pending p number steps) where
  -- behind the line's end nothing matches
  pub position_last : length line < p → Runs code pattern line places start cells steps None
  position_last behind turns h =
      let none : length line + 1 - p ≡ 0 = omega arith in
      q.ran turns h ∙ ap (λ (n : ℕ). run n turns (decode code pattern places) line p (threads current number) steps) none

  module _ (within : p ≤ length line) where
    -- what the position asks of its tables
    pub position_asked : Stepping code pattern places p seen taken current number next pending steps
    position_asked = record {
      wired = rewire (length seen) (sym q.long) q.wired;
      cells = omega (arith, q.long, q.small);
      early = omega (arith, q.line_long);
      seen_under = q.seen_under;
      taken_under = q.taken_under;
      taken_long = q.taken_long;
      some = q.some;
      long = omega (arith, q.few, q.current_long);
      inside = q.inside;
      list_long = q.next_long;
      pending_long = q.pending_long;
      countable = omega (arith, q.bounded, q.line_long, q.small, q.long);
    }

    module _ {ahead : Option ℕ} (along : AheadIn line p ahead) (seen' taken' list' : List ℕ) (count steps' : ℕ) (done : Bool)
        (from : List ℕ) (same : from ≡ current) (told : Steps code pattern ahead places p seen from number steps seen' taken' list' count steps' done) where
      made : Steps code pattern ahead places p seen current number steps seen' taken' list' count steps' done
      made = subst (λ (l : List ℕ). Steps code pattern ahead places p seen l number steps seen' taken' list' count steps' done) same told

      -- the run is what the position's settling gives
      settled : (turns : ℕ) → cells < turns
          → run (suc (length line - start)) turns (decode code pattern places) line start (at 0 0 no_rows ∷ []) 0
          ≡ settle (run (length line - p) turns (decode code pattern places) line (suc p)) (cond done (maybe.some (rows_in list' count)) maybe.none)
          (visits turns (decode code pattern places) line p (threads current number) (fresh steps)).carried steps'
      settled turns h =
          let s = visits turns (decode code pattern places) line p (threads current number) (fresh steps) in
          let shown = made.shows line along turns (omega (arith, q.long)) in
          let left : length line + 1 - p ≡ suc (length line - p) = omega arith in
          q.ran turns h
          ∙ (ap (λ (n : ℕ). run n turns (decode code pattern places) line p (threads current number) steps) left
          ∙ ap₂ (λ (w : maybe.Option Rows) (n : ℕ). settle (run (length line - p) turns (decode code pattern places) line (suc p)) w s.carried n) shown.winner shown.counted)

      kept : (turns : ℕ) → cells < turns → once (visits turns (decode code pattern places) line p (threads current number) (fresh steps)).carried ≡ threads list' count
      kept turns h = (made.shows line along turns (omega (arith, q.long))).carried

      -- a winner's rows are the answer
      pub position_won : done ≡ true → (rows : Rows) → rows ≡ rows_in list' count → Runs code pattern line places start cells steps' (Some rows)
      position_won won rows e turns h =
          let s = visits turns (decode code pattern places) line p (threads current number) (fresh steps) in
          settled turns h
          ∙ ap₂ (λ (d : Bool) (r : Rows). settle (run (length line - p) turns (decode code pattern places) line (suc p)) (cond d (maybe.some r) maybe.none) s.carried steps') won (sym e)

      -- with nothing carried there is none
      pub position_stopped : done ≡ false → count ≡ 0 → Runs code pattern line places start cells steps' None
      position_stopped lost none turns h =
          let s = visits turns (decode code pattern places) line p (threads current number) (fresh steps) in
          let next = run (length line - p) turns (decode code pattern places) line (suc p) in
          settled turns h
          ∙ (ap (λ (d : Bool). settle next (cond d (maybe.some (rows_in list' count)) maybe.none) s.carried steps') lost
          ∙ settle_none next s.carried steps' (kept turns h ∙ ap (threads list') none))

      -- it holds again at the next position, with the lists exchanged
      pub position_next : done ≡ false → 0 < count → length seen' ≡ length seen → (pending' : List ℕ) → length pending' ≡ length pending
          → Position code pattern line places start cells seen' taken' list' current pending' (p + 1) count steps'
      position_next lost some same_long pending' same-pending = record {
        wired = q.wired;
        small = q.small;
        line_long = q.line_long;
        long = same_long ∙ q.long;
        taken_long = made.carried.taken_long;
        current_long = made.carried.list_long;
        next_long = q.current_long;
        pending_long = omega (arith, q.pending_long);
        seen_under = made.under;
        taken_under = made.carried.under;
        after = omega (arith, q.after);
        few = omega (arith, made.carried.fits);
        some = some;
        inside = made.carried.inside;
        bounded = omega (arith, made.bounded, q.bounded, q.after, q.long, q.small);
        ran = λ turns h.
            let code = decode code pattern places in
            let s = visits turns code line p (threads current number) (fresh steps) in
            let next = run (length line - p) turns code line (suc p) in
            let left : length line - p ≡ length line + 1 - (p + 1) = omega arith in
            settled turns h
            ∙ (ap (λ (d : Bool). settle next (cond d (maybe.some (rows_in list' count)) maybe.none) s.carried steps') lost
            ∙ (settle_some next s.carried steps' list' count some (kept turns h)
            ∙ (sym (run_once (length line - p) turns code line (suc p) s.carried steps')
            ∙ (ap₂ (λ (q : ℕ) (us : List Thread). run (length line - p) turns code line q us steps') (sym (add-one p)) (kept turns h)
            ∙ ap (λ (n : ℕ). run n turns code line (p + 1) (threads list' count) steps') left))));
      }
