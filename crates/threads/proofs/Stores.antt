-- Threads in a lent list: what is copied in and out, what a store changes and what it leaves.
use Prim.Native.Nat.{ℕ, zero, suc, ◌+◌, ◌*◌, ◌≤◌, ◌<◌}
use mathlib.Core.Path.{◌≡◌, refl, sym, ap, ap₂, ◌∙◌}
use mathlib.Core.List.{List, [], ◌∷◌, ◌++◌}
use native.Mathlib.Omega.{arith}
use lib.ListN.{length, get_or, take, drop, set, length-take, length-drop, length-set, length-append, get_or-append}
use lib.Seq.{get_or-set_same, get_or-set_other, get_or-take, get_or-drop, ext_get_or, length-take-le, length-paste, drop-append-le, drop_at, take_at, take_all}
use Rattle.paper.specs.Rows.{Rows}
use Rattle.paper.specs.Machine.{Thread, at}
use Rattle.threads.specs.Threads.{stored, rows_from, threads}

-- what was copied number by number is that part of the list
pub copied : (rows list : List ℕ) (b : ℕ) → length rows ≡ 20 → b + 20 ≤ length list
    → ((i : ℕ) → i < 20 → get_or rows i 0 ≡ get_or list (b + i) 0) → rows ≡ take 20 (drop b list)
copied rows list b long inside same =
    let e : length rows ≡ length (take 20 (drop b list)) = omega (arith, length-take 20 (drop b list), length-drop b list) in
    ext_get_or 0 rows (take 20 (drop b list)) e
    (λ i h. let lt : i < 20 = omega arith in
    same i lt ∙ (sym (get_or-drop b list i 0) ∙ sym (get_or-take 20 (drop b list) i 0 lt)))

-- ---- a thread stored

module _ (list : List ℕ) (b place : ℕ) (rows : Rows) (long : length rows ≡ 20) (room : b + 21 ≤ length list) where
  placed_long : length (set list b place) ≡ length list
  placed_long = length-set list b place

  head_long : length (take (b + 1) (set list b place)) ≡ b + 1
  head_long = length-take-le (b + 1) (set list b place) (omega (arith, placed_long))

  -- the list stays as long as it was
  pub stored_long : length (stored list b place rows) ≡ length list
  stored_long = length-paste (set list b place) (b + 1) rows 20 (omega (arith, placed_long)) (omega arith) ∙ placed_long

  -- up to the place, the list is that with the place set
  stored_head : (j : ℕ) → j < b + 1 → get_or (stored list b place rows) j 0 ≡ get_or (set list b place) j 0
  stored_head j h =
      get_or-append (take (b + 1) (set list b place) ++ take 20 rows) (drop (b + 1 + 20) (set list b place)) 0 j
      (omega (arith, length-append (take (b + 1) (set list b place)) (take 20 rows), head_long))
      ∙ (get_or-append (take (b + 1) (set list b place)) (take 20 rows) 0 j (omega (arith, head_long))
      ∙ get_or-take (b + 1) (set list b place) j 0 h)

  -- what stands before the thread is left
  pub stored_before : (j : ℕ) → j < b → get_or (stored list b place rows) j 0 ≡ get_or list j 0
  stored_before j h = stored_head j (omega arith) ∙ get_or-set_other list b j place 0 (λ e. omega arith)

  -- its place is the one stored
  pub stored_place : get_or (stored list b place rows) b 0 ≡ place
  stored_place = stored_head b (omega arith) ∙ get_or-set_same list b place 0 (omega arith)

  -- its rows are those stored
  pub stored_rows : rows_from (stored list b place rows) b ≡ rows
  stored_rows =
      ap (take 20)
      (drop-append-le (b + 1) (take (b + 1) (set list b place) ++ take 20 rows) (drop (b + 1 + 20) (set list b place))
      (omega (arith, length-append (take (b + 1) (set list b place)) (take 20 rows), head_long))
      ∙ ap (λ (l : List ℕ). l ++ drop (b + 1 + 20) (set list b place))
      (drop_at (take (b + 1) (set list b place)) (take 20 rows) (b + 1) head_long))
      ∙ (take_at (take 20 rows) (drop (b + 1 + 20) (set list b place)) 20 (length-take-le 20 rows (omega arith))
      ∙ take_all 20 rows (omega arith))

-- lists that agree below an index have the same rows there
pub same_part : (l m : List ℕ) (b c : ℕ) → length l ≡ length m → ((j : ℕ) → j < b → get_or l j 0 ≡ get_or m j 0) → c + 20 ≤ b
    → take 20 (drop c l) ≡ take 20 (drop c m)
same_part l m b c long same h =
    ext_get_or 0 (take 20 (drop c l)) (take 20 (drop c m))
    (omega (arith, length-take 20 (drop c l), length-drop c l, length-take 20 (drop c m), length-drop c m))
    (λ j lt.
    let below : j < 20 = omega (arith, length-take 20 (drop c l)) in
    let inside : c + j < b = omega arith in
    get_or-take 20 (drop c l) j 0 below ∙ (get_or-drop c l j 0 ∙ (same (c + j) inside ∙ (sym (get_or-drop c m j 0) ∙ sym (get_or-take 20 (drop c m) j 0 below)))))

-- and the same threads
pub same_threads : (l m : List ℕ) (n : ℕ) → length l ≡ length m → ((j : ℕ) → j < 21 * n → get_or l j 0 ≡ get_or m j 0) → threads l n ≡ threads m n
same_threads l m zero long same = refl
same_threads l m (suc n) long same =
    let inside : 21 * n < 21 * suc n = omega arith in
    let fits : 21 * n + 1 + 20 ≤ 21 * suc n = omega arith in
    ap₂ (λ (x y : List Thread). x ++ y) (same_threads l m n long (λ j h. same j (omega arith)))
    (ap₂ (λ (x : ℕ) (r : Rows). at x 0 r ∷ []) (same (21 * n) inside) (same_part l m (21 * suc n) (21 * n + 1) long same fits))
