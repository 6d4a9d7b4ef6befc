-- The scratch that a machine runs in: four lent memories, and when they are long enough.
use Rattle.std.specs.Prelude.{ℕ, ◌+◌, ◌*◌, ◌≤◌, ◌≡◌, Bool, false, cond, List, leb, ltb, length}
use Rattle.paper.specs.Limits.{line_bytes}
use Rattle.threads.specs.Threads.{thread_numbers, branch_numbers}
use Rattle.machine.specs.declared.scratch.Scratch.{Scratch}

-- how many numbers the two lists of threads have, each with an entry more for the winner, and the branches that wait
abbrev pub lists_numbers : ℕ → ℕ
lists_numbers places = 2 * (thread_numbers * (places + 1))

abbrev pub pending_numbers : ℕ → ℕ
pending_numbers places = branch_numbers * (2 * places)

-- the scratch is long enough for a machine of so many places and so deep
pub record Roomy (places deep : ℕ) (scratch : Scratch) : Type 0 where
  pub seen_long : places * (deep + 1) ≤ length scratch.seen.now
  pub taken_long : places ≤ length scratch.taken.now
  pub lists_long : lists_numbers places ≤ length scratch.lists.now
  pub pending_long : pending_numbers places ≤ length scratch.pending.now

-- the scratch is as long as it was
pub record Lasts (before after : Scratch) : Type 0 where
  pub seen_same : length after.seen.now ≡ length before.seen.now
  pub taken_same : length after.taken.now ≡ length before.taken.now
  pub lists_same : length after.lists.now ≡ length before.lists.now
  pub pending_same : length after.pending.now ≡ length before.pending.now

-- a machine of few places and levels, for which small scratch is enough
abbrev pub small_places : ℕ
small_places = 64

abbrev pub small_levels : ℕ
small_levels = 4

abbrev pub fits_small : ℕ → ℕ → Bool
fits_small places deep = cond (leb places small_places) (ltb deep small_levels) false

-- what a run from a position asks beside a machine: a line within the limit, and scratch
pub record Runnable (places deep : ℕ) (line : List ℕ) (from : ℕ) (scratch : Scratch) : Type 0 where
  pub short : length line ≤ line_bytes
  pub starts : from ≤ length line
  pub roomy : Roomy places deep scratch
