-- What setting and clearing a row does to the list of rows, number by number and row by row.
use Prim.Native.Nat.{ℕ, zero, suc, ◌+◌, ◌*◌, ◌≤◌, ◌<◌}
use mathlib.Core.Path.{◌≡◌, refl, ◌∙◌}
use native.Mathlib.Omega.{arith}
use lib.ListN.{length, get_or, length-set}
use lib.Seq.{get_or-set_same, get_or-set_other, set_out, lt-length-set}
use Rattle.paper.specs.Limits.{absent}
use Rattle.paper.specs.Rows.{Rows, row_start, row_end, set_start, set_row, clear}

-- setting a row keeps how many numbers there are
pub length_set_row : (k start end : ℕ) (rows : Rows) → length (set_row k start end rows) ≡ length rows
length_set_row k start end rows = length-set (set_start k start rows) (2 * k + 1) end ∙ length-set rows (2 * k) start

-- and so does clearing some
pub length_clear : (n k : ℕ) (rows : Rows) → length (clear k n rows) ≡ length rows
length_clear zero k rows = refl
length_clear (suc n) k rows = length_clear n (suc k) (set_row k absent absent rows) ∙ length_set_row k absent absent rows

-- a number of another row is as before
pub number_other : (k start end : ℕ) (rows : Rows) (i : ℕ) → (i ≡ 2 * k → ⊥) → (i ≡ 2 * k + 1 → ⊥)
    → get_or (set_row k start end rows) i absent ≡ get_or rows i absent
number_other k start end rows i a b =
    get_or-set_other (set_start k start rows) (2 * k + 1) i end absent b ∙ get_or-set_other rows (2 * k) i start absent a

-- another row is as before
pub start_other : (k start end : ℕ) (rows : Rows) (j : ℕ) → (j ≡ k → ⊥) → row_start j (set_row k start end rows) ≡ row_start j rows
start_other k start end rows j differ = number_other k start end rows (2 * j) (omega arith) (omega arith)

pub end_other : (k start end : ℕ) (rows : Rows) (j : ℕ) → (j ≡ k → ⊥) → row_end j (set_row k start end rows) ≡ row_end j rows
end_other k start end rows j differ = number_other k start end rows (2 * j + 1) (omega arith) (omega arith)

-- the row itself is what was set, if the list has such a row
pub start_same : (k start end : ℕ) (rows : Rows) → 2 * k + 1 < length rows → row_start k (set_row k start end rows) ≡ start
start_same k start end rows h =
    get_or-set_other (set_start k start rows) (2 * k + 1) (2 * k) end absent (omega arith) ∙ get_or-set_same rows (2 * k) start absent (omega arith)

pub end_same : (k start end : ℕ) (rows : Rows) → 2 * k + 1 < length rows → row_end k (set_row k start end rows) ≡ end
end_same k start end rows h = get_or-set_same (set_start k start rows) (2 * k + 1) end absent (lt-length-set rows (2 * k) start h)

-- and if it has no such row, nothing changes
pub set_row_out : (k start end : ℕ) (rows : Rows) → length rows ≤ 2 * k → set_row k start end rows ≡ rows
set_row_out k start end rows h =
    set_out (set_start k start rows) (2 * k + 1) end (omega (arith, length-set rows (2 * k) start)) ∙ set_out rows (2 * k) start h
