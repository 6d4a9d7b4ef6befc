-- Choice trees: all that a written-out pattern can do from a position, with nothing dropped. A tree is grown from the pattern and from what follows;
-- a star is unrolled as often as the line has bytes, which is as often as it can take one.
use Prim.Native.Nat.{ℕ, zero, suc, ◌+◌, ◌<◌, ◌≤◌}
use native.Mathlib.Omega.{arith}
use mathlib.Core.Path.{◌≡◌, refl, ap, ◌∙◌}
use mathlib.Core.Bool.{Bool, true, false, cond, ◌||◌}
use mathlib.Core.List.{List}
use mathlib.Core.Option.{Option, none, some}
use lib.Dec.{eqb}
use lib.ListN.{length}
use Rattle.paper.specs.Pattern.{Mode, greedy, lazy}
use Rattle.paper.specs.Rows.{Rows, set_start, set_end, clear}
use Rattle.paper.specs.Reading.{takes}
use Rattle.paper.specs.Machine.{Core, dead, skip, eats, captures, chain, either, must, maybe, star, is_won}
use Rattle.paper.proofs.reading.First.{before}

-- no way on, the line's end, a byte taken, two ways in order, a change of the rows
pub data Tree : Type 0 where
  no_way : Tree
  done : Tree
  byte : Tree → Tree
  choice : Tree → Tree → Tree
  act : (Rows → Rows) → Tree → Tree

-- the rows at the tree's first end
abbrev pub best : Tree → Rows → Option Rows
best no_way rows = none
best done rows = some rows
best (byte t) rows = best t rows
best (choice a b) rows = before (best a rows) (best b rows)
best (act change t) rows = best t (change rows)

-- whether a tree has an end
abbrev pub wins : Tree → Bool
wins no_way = false
wins done = true
wins (byte t) = wins t
wins (choice a b) = wins a || wins b
wins (act change t) = wins t

-- how many nodes a tree has, its ends not counted
abbrev pub height : Tree → ℕ
height no_way = 0
height done = 0
height (byte t) = suc (height t)
height (choice a b) = suc (height a + height b)
height (act change t) = suc (height t)

-- one of two is there if either is
pub won_before : (a b : Option Rows) → is_won (before a b) ≡ (is_won a || is_won b)
won_before none b = refl
won_before (some rows) b = refl

-- whether a tree gives rows does not hang on the rows
pub wins_best : (t : Tree) (rows : Rows) → is_won (best t rows) ≡ wins t
wins_best no_way rows = refl
wins_best done rows = refl
wins_best (byte t) rows = wins_best t rows
wins_best (choice a b) rows =
    won_before (best a rows) (best b rows)
    ∙ ap (λ (x : Bool). x || is_won (best b rows)) (wins_best a rows)
    ∙ ap (λ (x : Bool). wins a || x) (wins_best b rows)
wins_best (act change t) rows = wins_best t (change rows)

-- what follows a pattern, by the position and the level there
abbrev pub Rest : Type 0
Rest = ℕ → ℕ → Tree

-- greedy tries the pass before stopping, lazy stopping before the pass
abbrev pub ways : Mode → Tree → Tree → Tree
ways greedy pass out = choice pass out
ways lazy pass out = choice out pass

-- an optional pass ends only on level 0, that is after a byte
abbrev pub at_end : (ℕ → Tree) → Rest
at_end next p level = cond (eqb level 0) (act (λ rows. rows) (next p)) no_way

-- up to so many passes through what `inside` grows, then one that cannot take a byte
abbrev pub loops : ℕ → Mode → ℕ → ℕ → (ℕ → ℕ → Rest → Tree) → ℕ → ℕ → Rest → Tree
loops zero mode first n inside p level rest =
    ways mode (act (clear first n) (inside p (suc level) (λ q m. no_way))) (rest p level)
loops (suc k) mode first n inside p level rest =
    ways mode (act (clear first n) (inside p (suc level) (at_end (λ q. loops k mode first n inside q 0 rest)))) (rest p level)

-- the tree of a written-out pattern, entered at a position on a level, with what follows
abbrev pub grow : List ℕ → Core → ℕ → ℕ → Rest → Tree
grow line dead p level rest = no_way
grow line skip p level rest = rest p level
grow line (eats ranges) p level rest = cond (takes ranges line p) (byte (rest (suc p) 0)) no_way
grow line (captures k e) p level rest = act (set_start k p) (grow line e p level (λ q m. act (set_end k q) (rest q m)))
grow line (chain a b) p level rest = grow line a p level (λ q m. grow line b q m rest)
grow line (either a b) p level rest = choice (grow line a p level rest) (grow line b p level rest)
grow line (must first n e next) p level rest = act (clear first n) (grow line e p level (λ q m. grow line next q m rest))
grow line (maybe mode first n e next) p level rest =
    ways mode (act (clear first n) (grow line e p (suc level) (at_end (λ q. grow line next q 0 rest)))) (rest p level)
grow line (star mode first n e) p level rest = loops (length line) mode first n (grow line e) p level rest

-- where a pattern can be left: where and on the level that it was entered, or further on in the line on level 0
pub data After (n p level : ℕ) : ℕ → ℕ → Type 0 where
  stay : After n p level p level
  on : {q : ℕ} → p < q → q ≤ n → After n p level q 0

-- leaving one pattern and then the next is leaving both
pub after_after : {n p level q m r k : ℕ} → After n p level q m → After n q m r k → After n p level r k
after_after stay next = next
after_after (on h bound) stay = on h bound
after_after {p} (on h bound) (on {q} h' bound') = let further : p < q = omega arith in on further bound'
