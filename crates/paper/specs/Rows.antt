-- The rows: where the match and each group stand. A thread's groups, an outcome's groups and the lent span table are the same list of numbers.
use Rattle.std.specs.Prelude.{ℕ, zero, suc, ◌+◌, ◌*◌, ◌≤◌, ◌≡◌, List, length, get_or, set, replicate}
use Rattle.paper.specs.Limits.{table_numbers, absent}

-- Reading 5: start and end of row 0, then of row 1, and so on
abbrev pub Rows : Type 0
Rows = List ℕ

-- Reading 5: a row that is absent has 65,535 twice; here all are
abbrev pub no_rows : Rows
no_rows = replicate table_numbers absent

abbrev pub row_start : ℕ → Rows → ℕ
row_start k rows = get_or rows (2 * k) absent

abbrev pub row_end : ℕ → Rows → ℕ
row_end k rows = get_or rows (2 * k + 1) absent

abbrev pub set_start : ℕ → ℕ → Rows → Rows
set_start k p rows = set rows (2 * k) p

abbrev pub set_end : ℕ → ℕ → Rows → Rows
set_end k p rows = set rows (2 * k + 1) p

abbrev pub set_row : ℕ → ℕ → ℕ → Rows → Rows
set_row k start end rows = set_end k end (set_start k start rows)

-- Reading 2, repeat, second sentence: as many rows from the first on made absent
abbrev pub clear : ℕ → ℕ → Rows → Rows
clear first zero rows = rows
clear first (suc n) rows = clear (suc first) n (set_row first absent absent rows)

-- Rows that fit a line; no public promise cites this

-- a row of a line with n bytes: absent twice, or a span inside the line
pub data RowFits (n start end : ℕ) : Type 0 where
  away : start ≡ absent → end ≡ absent → RowFits n start end
  spans : start ≤ end → end ≤ n → RowFits n start end

-- the table's numbers, and every row of them fits
pub record RowsFit (n : ℕ) (rows : Rows) : Type 0 where
  pub numbers : length rows ≡ table_numbers
  pub fits : (k : ℕ) → RowFits n (row_start k rows) (row_end k rows)
