-- A byte set's pairs. The loop keeps the least that the next low may be; what is left from there is as right as the whole.
use Prim.Native.Nat.{ℕ, suc, ◌+◌, ◌*◌, ◌/◌, ◌%◌, ◌≤◌}
use mathlib.Core.Path.{◌≡◌, refl, ap, sym, ◌∙◌}
use mathlib.Core.Bool.{Bool, true, ◌&&◌, and-true, and_assoc}
use mathlib.Core.List.{List, [], ◌∷◌, map}
use native.Mathlib.Omega.{arith}
use lib.Dec.{leb, leb-zero}
use lib.ListN.{length}
use borrow.Author.Tests.{le-leb, eq-eqb}
use Rattle.std.specs.Simd.{first_chunks}
use Rattle.paper.specs.Limits.{set_pairs}
use Rattle.paper.specs.Pattern.{Range}
use Rattle.paper.specs.Check.{ranges_of, apart, set_right}
use Rattle.pattern.specs.Walk.{range_of}

-- ---- pairs

-- pairs that stand in order and apart, the first low not below a floor
abbrev pub apart_from : ℕ → List Range → Bool
apart_from floor [] = true
apart_from floor (r ∷ rs) = leb floor r.low && (leb r.low r.high && apart_from (r.high + 2) rs)

-- from the second pair on the floor is 2 above the high before it
floor_first : (floor : ℕ) (r : Range) (rs : List Range) → apart_from floor (r ∷ rs) ≡ leb floor r.low && apart (r ∷ rs)
floor_first floor r [] = rw (and-true (leb r.low r.high))
floor_first floor r (s ∷ rs) =
    ap (λ (b : Bool). leb floor r.low && (leb r.low r.high && b)) (floor_first (r.high + 2) s rs)
    ∙ ap (λ (b : Bool). leb floor r.low && b) (sym (and_assoc (leb r.low r.high) (leb (r.high + 2) s.low) (apart (s ∷ rs))))

-- with no low before it any is far enough
pub apart_from_zero : (rs : List Range) → apart_from 0 rs ≡ apart rs
apart_from_zero [] = refl
apart_from_zero (r ∷ rs) = floor_first 0 r rs ∙ rw (leb-zero r.low)

-- a body's ranges are its pairs, two bytes at a time
pub ranges_law : (body : List ℕ) → map range_of (first_chunks 2 (length body / 2) body) ≡ ranges_of body
ranges_law [] = refl
ranges_law (low ∷ []) = refl
ranges_law (low ∷ high ∷ rest) =
    let n : length (low ∷ high ∷ rest) / 2 ≡ suc (length rest / 2) = omega arith in
    rw n (ap (λ (rs : List Range). record { low = low; high = high } ∷ rs) (ranges_law rest))

ranges_length : (body : List ℕ) → length (ranges_of body) ≡ length body / 2
ranges_length [] = refl
ranges_length (low ∷ []) = refl
ranges_length (low ∷ high ∷ rest) = omega (arith, ranges_length rest)

-- 1 to 32 whole pairs are right where they are apart
pub few_pairs : (body : List ℕ) → length body % 2 ≡ 0 → 1 ≤ length body / 2 → length body / 2 ≤ set_pairs
    → apart (map range_of (first_chunks 2 (length body / 2) body)) ≡ set_right body
few_pairs body even some few =
    ap apart (ranges_law body)
    ∙ rw (ranges_length body, eq-eqb (length body) (2 * (length body / 2)) (omega arith), le-leb 1 (length body / 2) some, le-leb (length body / 2) set_pairs few)
