-- Rows cleared in two steps: some from the first on, and then those behind them.
use Prim.Native.Nat.{ℕ, zero, suc, ◌+◌}
use mathlib.Core.Path.{◌≡◌, sym}
use native.Mathlib.Nat.{zero-add, add-zero, suc-add, add-suc}
use Rattle.paper.specs.Limits.{absent}
use Rattle.paper.specs.Rows.{Rows, set_row, clear}

clear_split : (k m n : ℕ) (rows : Rows) → clear k (m + n) rows ≡ clear (k + m) n (clear k m rows)
clear_split k zero n rows = rw (zero-add, add-zero)
clear_split k (suc m) n rows = rw (suc-add m n, add-suc k m, ← suc-add k m) (clear_split (suc k) m n (set_row k absent absent rows))

-- the same of two calls
pub clear_then : (k m n count : ℕ) (rows : Rows) {halfway cleared : Rows} → halfway ≡ clear k m rows → cleared ≡ clear (k + m) n halfway
    → m + n ≡ count → cleared ≡ clear k count rows
clear_then k m n count rows first second both = rw (second, first, ← both) (sym (clear_split k m n rows))
