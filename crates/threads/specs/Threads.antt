-- How threads stand in a lent list: for each its place and then its rows. A thread in a list is on level 0. Before a branch that waits stands the first entry of its level.
use Rattle.std.specs.Prelude.{ℕ, zero, suc, ◌+◌, ◌*◌, ◌≤◌, ◌≡◌, cond, List, [], ◌∷◌, ◌++◌, eqb, get_or, take, drop, set, Option, Some, None}
use Rattle.std.proofs.Math.Seq.{paste}
use Rattle.paper.specs.Limits.{table_numbers}
use Rattle.paper.specs.Rows.{Rows}
use Rattle.paper.specs.Machine.{Thread, at}
use Rattle.threads.specs.declared.Thread as declared

-- how many numbers a thread has in a list
abbrev pub thread_numbers : ℕ
thread_numbers = 1 + table_numbers

-- how many numbers a branch that waits has: its place, the first entry of its level, and its rows
abbrev pub branch_numbers : ℕ
branch_numbers = 2 + table_numbers

abbrev pub place_in : List ℕ → ℕ → ℕ
place_in list i = get_or list (thread_numbers * i) 0

-- the rows behind a place that stands at an offset
abbrev pub rows_from : List ℕ → ℕ → Rows
rows_from list b = take table_numbers (drop (b + 1) list)

abbrev pub rows_in : List ℕ → ℕ → Rows
rows_in list i = rows_from list (thread_numbers * i)

abbrev pub thread_in : List ℕ → ℕ → Thread
thread_in list i = at (place_in list i) 0 (rows_in list i)

-- the first threads of a list
abbrev pub threads : List ℕ → ℕ → List Thread
threads list zero = []
threads list (suc n) = threads list n ++ (thread_in list n ∷ [])

-- a list after a thread was written at an offset
abbrev pub stored : List ℕ → ℕ → ℕ → Rows → List ℕ
stored list b place rows = paste (set list b place) (b + 1) rows table_numbers

-- branches that wait, after one more was written at an index
abbrev pub waited : List ℕ → ℕ → ℕ → ℕ → Rows → List ℕ
waited pending i floor place rows = stored (set pending (branch_numbers * i) floor) (branch_numbers * i + 1) place rows

-- how many entries of a table do not have this stamp
abbrev pub lacking : ℕ → List ℕ → ℕ
lacking stamp [] = 0
lacking stamp (x ∷ xs) = cond (eqb x stamp) (lacking stamp xs) (suc (lacking stamp xs))

-- no entry of a table has a later stamp
abbrev pub Under : ℕ → List ℕ → Type 0
Under stamp table = (i : ℕ) → get_or table i 0 ≤ stamp

-- a thread carried to a follower: marked, and stored behind the others if it had no mark
pub record Carries (taken list : List ℕ) (next stamp : ℕ) (rows : Rows) (count : ℕ) (taken' list' : List ℕ) (count' : ℕ) : Type 0 where
  pub marked : taken' ≡ set taken next stamp
  pub kept : list' ≡ cond (eqb (get_or taken next 0) stamp) list (stored list (thread_numbers * count) next rows)
  pub counted : count' ≡ cond (eqb (get_or taken next 0) stamp) count (count + 1)

-- the branch on top taken from a memory, if one waits
abbrev pub Pops : List ℕ → ℕ → ℕ → Option declared.Thread → Type 0
Pops pending count count' None = (count ≡ 0) × (count' ≡ count)
Pops pending count count' (Some t) =
    (count ≡ count' + 1)
    × (t.floor ≡ get_or pending (branch_numbers * count') 0)
    × (t.place ≡ get_or pending (branch_numbers * count' + 1) 0)
    × (t.rows ≡ rows_from pending (branch_numbers * count' + 1))
