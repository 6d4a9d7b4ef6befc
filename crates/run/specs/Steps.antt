-- What a position asks and promises, and what a run does: the definition's, for the places that the table stands for.
use Rattle.std.specs.Prelude.{ℕ, suc, ◌+◌, ◌-◌, ◌*◌, ◌≤◌, ◌<◌, ◌^◌, ◌≡◌, Bool, List, [], ◌∷◌, length, Option, Some, None}
use Rattle.paper.specs.Limits.{line_bytes, absent}
use Rattle.paper.specs.Rows.{Rows, no_rows}
use Rattle.paper.specs.Machine.{at, fresh, visits, run, Stopped}
use Rattle.paper.specs.Tables.{decode}
use Rattle.threads.specs.Threads.{thread_numbers, branch_numbers, place_in, threads, Under}
use Rattle.moves.specs.Shows.{AheadIn, Shows, Carried}
use Rattle.visit.specs.Wired.{Wired}

-- what a position asks: safe tables without its stamp, threads inside, room for those that they carry and for the branches that wait, and room to count
pub record Stepping (code pattern : List ℕ) (places p : ℕ) (seen taken threads : List ℕ) (number : ℕ) (list pending : List ℕ) (steps : ℕ) : Type 0 where
  pub wired : Wired code pattern places (length seen)
  pub cells : length seen < 2 ^ 16
  pub early : p < absent
  pub seen_under : Under p seen
  pub taken_under : Under p taken
  pub taken_long : length taken ≡ places
  pub some : 0 < number
  pub long : thread_numbers * number ≤ length threads
  pub inside : (i : ℕ) → i < number → place_in threads i < places
  pub list_long : thread_numbers * (places + 1) ≤ length list
  pub pending_long : branch_numbers * (2 * places) ≤ length pending
  pub countable : steps + length seen < 2 ^ 32

-- what it promises: the tables show the state after the definition's visits of the threads, in every line that has this byte ahead, if its bound is above the number of pairs
pub record Steps (code pattern : List ℕ) (ahead : Option ℕ) (places p : ℕ) (seen from : List ℕ) (number steps : ℕ)
    (seen' taken' list' : List ℕ) (count steps' : ℕ) (done : Bool) : Type 0 where
  pub under : Under (p + 1) seen'
  pub carried : Carried places (p + 1) taken' list' count
  pub bounded : steps' ≤ steps + length seen
  pub shows : (line : List ℕ) → AheadIn line p ahead → (k : ℕ) → length seen < k
      → Shows places (p + 1) seen' taken' list' count steps' done (visits k (decode code pattern places) line p (threads from number) (fresh steps))

-- what a run asks: safe tables of the sizes that the limits allow, two lists of threads, and room for the branches that wait
pub record Running (code pattern line : List ℕ) (places start : ℕ) (seen taken lists pending : List ℕ) : Type 0 where
  pub wired : Wired code pattern places (length seen)
  pub some : 0 < places
  pub cells : length seen < 2 ^ 16
  pub taken_long : length taken ≡ places
  pub lists_long : 2 * (thread_numbers * (places + 1)) ≤ length lists
  pub pending_long : branch_numbers * (2 * places) ≤ length pending
  pub line_long : length line ≤ line_bytes
  pub starts : start ≤ length line

-- how a run's answer reads as the definition's
abbrev pub stopped_as : ℕ → Option Rows → Stopped
stopped_as steps (Some rows) = Stopped.matched steps rows
stopped_as steps None = Stopped.unmatched steps

-- what a run promises: its answer is that of the definition's run from one thread at the first place, if the definition's bound is above the number of pairs
abbrev pub Runs : (code pattern line : List ℕ) (places start cells steps : ℕ) (rows : Option Rows) → Type 0
Runs code pattern line places start cells steps rows =
    (turns : ℕ) → cells < turns
    → run (suc (length line - start)) turns (decode code pattern places) line start (at 0 0 no_rows ∷ []) 0 ≡ stopped_as steps rows
