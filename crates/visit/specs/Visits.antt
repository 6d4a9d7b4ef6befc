-- What a visit asks, and what it promises: the definition's visit, on the state that the lent tables show.
use Rattle.std.specs.Prelude.{ℕ, ◌+◌, ◌*◌, ◌≤◌, ◌<◌, ◌^◌, ◌≡◌, Bool, false, List, length, Option}
use Rattle.paper.specs.Limits.{absent}
use Rattle.paper.specs.Rows.{Rows}
use Rattle.paper.specs.Machine.{State, visit, at}
use Rattle.paper.specs.Tables.{decode}
use Rattle.threads.specs.Threads.{branch_numbers, lacking, Under}
use Rattle.threads.specs.Memory.{SameMemory}
use Rattle.moves.specs.Shows.{AheadIn, Shows, Carried}
use Rattle.visit.specs.declared.State as declared
use Rattle.visit.specs.Wired.{Wired}

-- what a visit asks: tables that are safe, a place inside them, room for two branches that wait for each place, and room to count
pub record Arrives (code pattern : List ℕ) (places p place : ℕ) (seen taken list pending : List ℕ) (count steps : ℕ) : Type 0 where
  pub wired : Wired code pattern places (length seen)
  pub inside : place < places
  pub early : p < absent
  pub cells : length seen < 2 ^ 16
  pub under : Under (p + 1) seen
  pub carried : Carried places (p + 1) taken list count
  pub pending_long : branch_numbers * (2 * places) ≤ length pending
  pub countable : steps + lacking (p + 1) seen < 2 ^ 32

-- the same lent tables, as long as they were
abbrev pub SameTables : declared.State → declared.State → Type 0
SameTables s s' = (s'.seen.ghost_name ≡ s.seen.ghost_name) × (length s'.seen.now ≡ length s.seen.now) × SameMemory s.carried s'.carried

-- what a visit of a thread on level 0 promises. Of every state that the tables show at entry, without a winner, they show at exit the state after the definition's visit,
-- in every line that has this byte ahead, if its bound is above the number of pairs not seen. Each step is one such pair
pub record Visits (code pattern : List ℕ) (ahead : Option ℕ) (places p place : ℕ) (rows : Rows) (seen taken list : List ℕ) (count steps : ℕ)
    (seen' taken' list' : List ℕ) (count' steps' : ℕ) (done : Bool) : Type 0 where
  pub under : Under (p + 1) seen'
  pub carried : Carried places (p + 1) taken' list' count'
  pub each : steps' + lacking (p + 1) seen' ≡ steps + lacking (p + 1) seen
  pub fewer : lacking (p + 1) seen' ≤ lacking (p + 1) seen
  pub shows : (line : List ℕ) → AheadIn line p ahead → (k : ℕ) (s : State) → Shows places (p + 1) seen taken list count steps false s → lacking (p + 1) seen < k
      → Shows places (p + 1) seen' taken' list' count' steps' done (visit k (decode code pattern places) line p (at place 0 rows) s)
