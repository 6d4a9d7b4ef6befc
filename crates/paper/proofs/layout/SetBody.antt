-- The body of a byte set: its bytes and its pairs determine each other, and the test that the walk makes is what the table asks of the pairs.
use Prim.Native.Nat.{ℕ, zero, suc, ◌+◌, ◌-◌, ◌*◌, ◌<◌}
use native.Mathlib.Omega.{arith}
use mathlib.Core.Path.{◌≡◌, refl, ap}
use mathlib.Core.Bool.{true, ◌&&◌}
use mathlib.Core.List.{List, [], ◌∷◌}
use lib.Dec.{leb, eqb}
use lib.ListN.{length, take, drop}
use lib.Seq.{get_or-drop}
use borrow.Author.Tests.{leb-true, le-leb, eqb-true, eq-eqb}
use Rattle.paper.specs.Limits.{set_pairs}
use Rattle.paper.specs.Pattern.{Range}
use Rattle.paper.specs.Pattern.Pattern.{bytes}
use Rattle.paper.specs.Layout.{range_bytes, Apart, WellMade}
use Rattle.paper.specs.Check.{part, ranges_of, apart, set_right}
use Rattle.paper.proofs.layout.Accepted.{both_true, and_true}
use Rattle.paper.proofs.layout.Standing.{Bytes}

-- a pair is two bytes
pub length_range_bytes : (ranges : List Range) → length (range_bytes ranges) ≡ 2 * length ranges
length_range_bytes [] = refl
length_range_bytes (r ∷ rs) = omega (arith, length_range_bytes rs)

-- the pairs of the bytes of pairs are those pairs
pub ranges_of_bytes : (ranges : List Range) → ranges_of (range_bytes ranges) ≡ ranges
ranges_of_bytes [] = refl
ranges_of_bytes (r ∷ rs) = ap (λ (l : List Range). r ∷ l) (ranges_of_bytes rs)

-- the bytes of the pairs of a body of whole pairs are that body
pub bytes_of_ranges : (body : List ℕ) → length body ≡ 2 * length (ranges_of body) → range_bytes (ranges_of body) ≡ body
bytes_of_ranges [] e = refl
bytes_of_ranges (low ∷ []) e = absurd (omega arith)
bytes_of_ranges (low ∷ high ∷ rest) e = ap (λ (l : List ℕ). low ∷ high ∷ l) (bytes_of_ranges rest (omega arith))

-- a part of bytes is bytes
bytes_take : (n : ℕ) (bs : List ℕ) → Bytes bs → Bytes (take n bs)
bytes_take zero bs small i = omega arith
bytes_take (suc n) [] small i = omega arith
bytes_take (suc n) (b ∷ bs) small zero = small 0
bytes_take (suc n) (b ∷ bs) small (suc i) = bytes_take n bs (λ j. small (suc j)) i

pub bytes_part : (bs : List ℕ) (start end : ℕ) → Bytes bs → Bytes (part bs start end)
bytes_part bs start end small = bytes_take (end - start) (drop start bs) (λ i. rw get_or-drop (small (start + i)))

abbrev HighsSmall : List Range → Type 0
HighsSmall [] = Unit {0}
HighsSmall (r ∷ rs) = (r.high < 256) × HighsSmall rs

highs_small : (body : List ℕ) → Bytes body → HighsSmall (ranges_of body)
highs_small [] small = tt
highs_small (low ∷ []) small = tt
highs_small (low ∷ high ∷ rest) small = (small 1, highs_small rest (λ i. small (suc (suc i))))

-- the test on the pairs says that they stand apart
apart_true : (ranges : List Range) → HighsSmall ranges → apart ranges ≡ true → Apart ranges
apart_true [] small e = tt
apart_true (r ∷ []) small e = (leb-true r.low r.high e, small.0)
apart_true (r ∷ s ∷ rs) small e =
    let both = both_true (leb r.low r.high && leb (r.high + 2) s.low) (apart (s ∷ rs)) e in
    let ends = both_true (leb r.low r.high) (leb (r.high + 2) s.low) both.0 in
    (leb-true r.low r.high ends.0, leb-true (r.high + 2) s.low ends.1, apart_true (s ∷ rs) small.1 both.1)

true_apart : (ranges : List Range) → Apart ranges → apart ranges ≡ true
true_apart [] a = refl
true_apart (r ∷ []) a = le-leb r.low r.high a.0
true_apart (r ∷ s ∷ rs) a =
    and_true (and_true (le-leb r.low r.high a.0) (le-leb (r.high + 2) s.low a.1)) (true_apart (s ∷ rs) a.2)

-- a body that passes the test is whole pairs that keep the table
pub set_right_law : (body : List ℕ) → Bytes body → set_right body ≡ true → (length body ≡ 2 * length (ranges_of body)) × WellMade (bytes (ranges_of body))
set_right_law body small e =
    let pairs = ranges_of body in
    let n = length pairs in
    let whole = eqb (length body) (2 * n) in
    let last = both_true (whole && leb 1 n && leb n set_pairs) (apart pairs) e in
    let most = both_true (whole && leb 1 n) (leb n set_pairs) last.0 in
    let least = both_true whole (leb 1 n) most.0 in (
      eqb-true (length body) (2 * n) least.0,
      (leb-true 1 n least.1, leb-true n set_pairs most.1, apart_true pairs (highs_small body small) last.1),
    )

-- pairs that keep the table pass the test
pub right_set : (ranges : List Range) → WellMade (bytes ranges) → set_right (range_bytes ranges) ≡ true
right_set ranges made =
    rw ranges_of_bytes
    (and_true
    (and_true
    (and_true (eq-eqb (length (range_bytes ranges)) (2 * length ranges) (length_range_bytes ranges)) (le-leb 1 (length ranges) made.0))
    (le-leb (length ranges) set_pairs made.1))
    (true_apart ranges made.2))
