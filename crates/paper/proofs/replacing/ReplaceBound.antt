-- The sum of replace-all's steps: a search that starts at p costs by the bytes from p on, and the next starts further on, so the sum is
-- at most that of a search at every position: 1 + 2 + … + (length + 1) times what a search costs a position.
use Prim.Native.Nat.{ℕ, zero, suc, ◌+◌, ◌-◌, ◌*◌, ◌/◌, ◌^◌, ◌≤◌, ◌<◌}
use mathlib.Core.Path.{◌≡◌, refl, sym, ap, ap₂, subst, ◌∙◌}
use mathlib.Core.Bool.{Bool, true, false}
use mathlib.Core.List.{List}
use mathlib.Core.Option.{Option, none, some}
use native.Mathlib.Omega.{arith}
use native.Mathlib.Nat.{le_trans, mul_comm, mul-add, mul_left_comm, mul-le-mul, mul-le-mul_left, mul-div_right, sub-zero}
use lib.Dec.{ltb, lit<}
use lib.ListN.{length, drop, length-drop}
use borrow.Author.Tests.{ltb-true}
use Rattle.paper.specs.Limits.{pattern_places, pattern_levels, line_bytes, wrap_places}
use Rattle.paper.specs.Layout.{Lawful}
use Rattle.paper.specs.Pattern.{Pattern}
use Rattle.paper.specs.Rows.{Rows, row_start, row_end}
use Rattle.paper.specs.Match.{search, search_steps}
use Rattle.paper.specs.Bounds.{search_places, search_depth, replace_bound}
use Rattle.paper.specs.Template.{Piece}
use Rattle.paper.specs.Replace.{moved, Scan, scan_on, after_search, scan, replace_all}
use Rattle.paper.proofs.machine.Sizes.{depth_levels}
use Rattle.paper.proofs.machine.Bound.{search_bound_law}
use Rattle.paper.proofs.reading.AnswerRows.{Answered}
use Rattle.paper.proofs.replacing.ScanTurns.{Ahead, match_ahead}
use Rattle.paper.proofs.replacing.Triangle.{triangle}

triangle_mono : (a b : ℕ) → a ≤ b → triangle a ≤ triangle b
triangle_mono zero zero h = omega arith
triangle_mono zero (suc b) h = omega (arith, triangle_mono zero b (omega arith))
triangle_mono (suc a) zero h = absurd (omega arith)
triangle_mono (suc a) (suc b) h = omega (arith, triangle_mono a b (omega arith))

-- twice the sum is (n + 1) * (n + 2)
pub triangle_twice : (n : ℕ) → (n + 1) * (n + 2) ≡ 2 * triangle n
triangle_twice zero = refl
triangle_twice (suc n) =
    let longer : (suc n + 1) * (suc n + 2) ≡ (n + 2) * (n + 1) + (n + 2) * 2 =
    ap₂ (λ (a b : ℕ). a * b) (omega arith) (omega arith) ∙ mul-add (n + 2) (n + 1) 2 in
    omega (arith, longer, mul_comm (n + 2) (n + 1), triangle_twice n)

-- so the sum is their half
pub triangle_half : (n : ℕ) → (n + 1) * (n + 2) / 2 ≡ triangle n
triangle_half n = ap (λ (m : ℕ). m / 2) (triangle_twice n) ∙ mul-div_right (triangle n) (lit< tt)

half_mono : (n m : ℕ) → n ≤ m → (n + 1) * (n + 2) / 2 ≤ (m + 1) * (m + 2) / 2
half_mono n m h = rw (triangle_half n, triangle_half m) (triangle_mono n m h)

-- what a search costs at most for each position of its line
abbrev pub per_position : Pattern → ℕ
per_position e = search_places e * (search_depth e + 1)

-- a scan costs at most b wherever it can go on from p
abbrev CostsPast : ℕ → ℕ → Scan → ℕ → Type 0
CostsPast n p s b = (q : ℕ) (last : Option ℕ) → p < q → q ≤ n → (s q last).steps ≤ b

scan_on_costs : (s : Scan) (line : List ℕ) (p start end : ℕ) (last : Option ℕ) (b : ℕ) → Ahead (length line) p start end → CostsPast (length line) p s b
    → (non_empty byte : Bool) → ltb start end ≡ non_empty → ltb start (length line) ≡ byte → (scan_on non_empty byte s line start end last).steps ≤ b
scan_on_costs s line p start end last b a costs true byte e f = costs end (some end) (omega (arith, ltb-true start end e)) a.within
scan_on_costs s line p start end last b a costs false true e f =
    omega (arith, costs (start + 1) last (omega arith) (omega (arith, ltb-true start (length line) f)))
scan_on_costs s line p start end last b a costs false false e f = omega arith

after_search_costs : (s : Scan) (template line : List ℕ) (pieces : List Piece) (p : ℕ) (last : Option ℕ) (steps b : ℕ) (o : Option Rows)
    → Answered (λ rows. Ahead (length line) p (row_start 0 (moved p rows)) (row_end 0 (moved p rows))) o → CostsPast (length line) p s b
    → (after_search s template line pieces p last steps o).steps ≤ steps + b
after_search_costs s template line pieces p last steps b none a costs = omega arith
after_search_costs s template line pieces p last steps b (some found) a costs =
    let start = row_start 0 (moved p found) in
    let end = row_end 0 (moved p found) in
    omega (arith, scan_on_costs s line p start end last b a costs (ltb start end) (ltb start (length line)) refl refl)

module _ (e : Pattern) (template line : List ℕ) (pieces : List Piece) (small : length line ≤ line_bytes) where
  -- a scan from p on costs at most as much as a search at every position from p on
  pub scan_costs : (searches p : ℕ) (last : Option ℕ) → p ≤ length line
      → (scan searches e template line pieces p last).steps ≤ per_position e * triangle (length line - p)
  scan_costs zero p last h = omega arith
  scan_costs (suc searches) p last h = look (length line - p) refl (scan_costs searches)
    where
      after : (b : ℕ) → CostsPast (length line) p (scan searches e template line pieces) b
          → (scan (suc searches) e template line pieces p last).steps ≤ search_steps e (drop p line) + b
      after b costs =
          after_search_costs (scan searches e template line pieces) template line pieces p last (search_steps e (drop p line)) b (search e (drop p line))
          (match_ahead e line p small h)
          costs

      cost : (r : ℕ) → length line - p ≡ r → search_steps e (drop p line) ≤ per_position e * (r + 1)
      cost r left =
          subst (λ (k : ℕ). search_steps e (drop p line) ≤ per_position e * (k + 1)) (length-drop p line ∙ left) (search_bound_law e (drop p line))

      look : (r : ℕ) → length line - p ≡ r
          → ((q : ℕ) (next : Option ℕ) → q ≤ length line
          → (scan searches e template line pieces q next).steps ≤ per_position e * triangle (length line - q))
          → (scan (suc searches) e template line pieces p last).steps ≤ per_position e * triangle r
      look zero left further = le_trans (after 0 (λ q next past within. absurd (omega arith))) (omega (arith, cost zero left))
      look (suc r) left further =
          let rest = after (per_position e * triangle r)
          (λ q next past within.
          le_trans (further q next within) (mul-le-mul_left (per_position e) (triangle_mono (length line - q) r (omega arith)))) in
          let sum : per_position e * (triangle r + (r + 2)) ≡ per_position e * triangle r + per_position e * (r + 2) =
          mul-add (per_position e) (triangle r) (r + 2) in
          let here : search_steps e (drop p line) ≤ per_position e * (r + 2) =
          subst (λ (k : ℕ). search_steps e (drop p line) ≤ per_position e * k) (omega arith) (cost (suc r) left) in
          omega (arith, rest, sum, here)

  replace_all_triangle : (replace_all e template pieces line).steps ≤ per_position e * triangle (length line)
  replace_all_triangle =
      subst (λ (k : ℕ). (replace_all e template pieces line).steps ≤ per_position e * triangle k) (sub-zero (length line))
      (scan_costs (suc (length line)) 0 none (omega arith))

  -- the sum of replace-all's steps
  pub replace_all_steps : (replace_all e template pieces line).steps ≤ replace_bound e (length line)
  replace_all_steps =
      subst (λ (k : ℕ). (replace_all e template pieces line).steps ≤ per_position e * k) (sym (triangle_half (length line))) replace_all_triangle

  -- the same without a division
  pub replace_all_steps_twice : 2 * (replace_all e template pieces line).steps ≤ per_position e * ((length line + 1) * (length line + 2))
  replace_all_steps_twice =
      let n = length line in
      subst (λ (k : ℕ). 2 * (replace_all e template pieces line).steps ≤ k)
      (mul_left_comm 2 (per_position e) (triangle n) ∙ ap (λ (m : ℕ). per_position e * m) (sym (triangle_twice n)))
      (mul-le-mul_left 2 replace_all_triangle)

-- the greatest sum of steps that a replace-all within the limits can have
abbrev pub most_sum : ℕ
most_sum = (pattern_places + wrap_places) * pattern_levels * ((line_bytes + 1) * (line_bytes + 2) / 2)

-- it is far below what 64 bits hold
pub most_sum_fits : most_sum < 2 ^ 64
most_sum_fits = lit< tt

-- the sum of steps of a replace-all within the limits
pub replace_all_most : (e : Pattern) (template line : List ℕ) (pieces : List Piece) → Lawful e → length line ≤ line_bytes
    → (replace_all e template pieces line).steps ≤ most_sum
replace_all_most e template line pieces lawful small =
    let few : search_places e ≤ pattern_places + wrap_places = omega (arith, lawful.few_places) in
    let low : search_depth e + 1 ≤ pattern_levels = omega (arith, depth_levels e, lawful.few_levels) in
    le_trans (replace_all_steps e template line pieces small) (mul-le-mul (mul-le-mul few low) (half_mono (length line) line_bytes small))
