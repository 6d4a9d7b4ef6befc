-- Bytes that stand at an offset of a byte string, and the numbers and records that are read there.
-- Two bytes below 256 and the number that they make determine each other; a record is its two numbers and its body, one behind the other.
use Prim.Native.Nat.{ℕ, zero, suc, ◌+◌, ◌-◌, ◌*◌, ◌≤◌, ◌<◌}
use native.Mathlib.Omega.{arith}
use native.Mathlib.Numerals.{add-one}
use mathlib.Core.Path.{◌≡◌, refl, sym, ◌∙◌, ap, subst}
use mathlib.Core.List.{List, [], ◌∷◌, ◌++◌}
use lib.ListN.{length, get_or, take, drop, length-drop}
use lib.Seq.{drop-cons, length-take-le, take_all, take-length}
use Rattle.paper.specs.Layout.{two_bytes, record_bytes}
use Rattle.paper.specs.Check.{number_at, body_length, kind_at, body_start, part}

-- every element is a byte
abbrev pub Bytes : List ℕ → Type 0
Bytes bs = (i : ℕ) → get_or bs i 0 < 256

-- the first number that two bytes cannot hold
abbrev pub two_byte_end : ℕ
two_byte_end = 256 * 256

-- the bytes `xs` stand in `bs` from the offset `at` on
abbrev pub Stands : List ℕ → ℕ → List ℕ → Type 0
Stands bs at [] = Unit {0}
Stands bs at (x ∷ xs) = (get_or bs at 0 ≡ x) × Stands bs (at + 1) xs

-- two offsets that are equal have the same standing there
pub stands_at : (bs xs : List ℕ) {at from : ℕ} → at ≡ from → Stands bs at xs → Stands bs from xs
stands_at bs xs e s = subst (λ (n : ℕ). Stands bs n xs) e s

-- one byte string behind another stands where both stand
pub stands_append : (bs : List ℕ) (at : ℕ) (xs ys : List ℕ) → Stands bs at xs → Stands bs (at + length xs) ys → Stands bs at (xs ++ ys)
stands_append bs at [] ys s t = stands_at bs ys (omega arith) t
stands_append bs at (x ∷ xs) ys s t = (s.0, stands_append bs (at + 1) xs ys s.1 (stands_at bs ys (omega arith) t))

pub stands_first : (bs : List ℕ) (at : ℕ) (xs ys : List ℕ) → Stands bs at (xs ++ ys) → Stands bs at xs
stands_first bs at [] ys s = tt
stands_first bs at (x ∷ xs) ys s = (s.0, stands_first bs (at + 1) xs ys s.1)

pub stands_second : (bs : List ℕ) (at : ℕ) (xs ys : List ℕ) → Stands bs at (xs ++ ys) → Stands bs (at + length xs) ys
stands_second bs at [] ys s = stands_at bs ys (omega arith) s
stands_second bs at (x ∷ xs) ys s = stands_at bs ys (omega arith) (stands_second bs (at + 1) xs ys s.1)

-- the byte at an offset and what comes behind it
drop_at : (bs : List ℕ) (at : ℕ) → at < length bs → drop at bs ≡ get_or bs at 0 ∷ drop (at + 1) bs
drop_at bs at h = rw add-one (drop-cons bs at 0 h)

-- the bytes from an offset on stand there
stands_taken : (bs : List ℕ) (at n : ℕ) → at + n ≤ length bs → Stands bs at (take n (drop at bs))
stands_taken bs at zero fits = tt
stands_taken bs at (suc n) fits =
    subst (λ (l : List ℕ). Stands bs at (take (suc n) l)) (sym (drop_at bs at (omega arith))) (refl, stands_taken bs (at + 1) n (omega arith))

-- what stands at an offset are the bytes from there on
taken_standing : (bs : List ℕ) (at : ℕ) (xs : List ℕ) → at + length xs ≤ length bs → Stands bs at xs → take (length xs) (drop at bs) ≡ xs
taken_standing bs at [] fits s = refl
taken_standing bs at (x ∷ xs) fits s =
    ap (λ (l : List ℕ). take (suc (length xs)) l) (drop_at bs at (omega arith))
    ∙ ap (λ (b : ℕ). b ∷ take (length xs) (drop (at + 1) bs)) s.0
    ∙ ap (λ (l : List ℕ). x ∷ l) (taken_standing bs (at + 1) xs (omega arith) s.1)

-- the part between two offsets stands at the first
pub stands_part : (bs : List ℕ) (at end : ℕ) → at ≤ end → end ≤ length bs → Stands bs at (part bs at end)
stands_part bs at end rises fits = stands_taken bs at (end - at) (omega arith)

pub length_part : (bs : List ℕ) (at end : ℕ) → end ≤ length bs → length (part bs at end) ≡ end - at
length_part bs at end fits = length-take-le (end - at) (drop at bs) (omega (arith, length-drop at bs))

-- what stands at an offset and ends inside is the part between the two offsets
pub part_standing : (bs : List ℕ) (at end : ℕ) (xs : List ℕ) → at + length xs ≡ end → end ≤ length bs → Stands bs at xs → part bs at end ≡ xs
part_standing bs at end xs e fits s =
    let long : end - at ≡ length xs = omega arith in
    ap (λ (n : ℕ). take n (drop at bs)) long ∙ taken_standing bs at xs (omega arith) s

-- a byte string stands in itself at 0, and nothing else of its length does
pub stands_whole : (bs : List ℕ) → Stands bs 0 bs
stands_whole bs = subst (λ (l : List ℕ). Stands bs 0 l) (take-length bs) (stands_taken bs 0 (length bs) (omega arith))

pub whole_standing : (bs xs : List ℕ) → length xs ≡ length bs → Stands bs 0 xs → xs ≡ bs
whole_standing bs xs e s = sym (part_standing bs 0 (length bs) xs (omega arith) (omega arith) s) ∙ take_all (length bs - 0) bs (omega arith)

-- two bytes make a number below 65,536, whose two bytes they are
pub number_small : (bs : List ℕ) → Bytes bs → (at : ℕ) → number_at bs at < two_byte_end
number_small bs small at = omega (arith, small at, small (at + 1))

pub stands_number : (bs : List ℕ) → Bytes bs → (at n : ℕ) → number_at bs at ≡ n → Stands bs at (two_bytes n)
stands_number bs small at n e = (omega (arith, small at, small (at + 1)), (omega (arith, small at, small (at + 1)), tt))

-- a number below 65,536 is read where its two bytes stand
pub number_standing : (bs : List ℕ) (at n : ℕ) → n < two_byte_end → Stands bs at (two_bytes n) → number_at bs at ≡ n
number_standing bs at n small s = omega arith

-- a record stands where its two numbers are read and its body stands
pub stands_record : (bs : List ℕ) → Bytes bs → (at kind : ℕ) (body : List ℕ) → body_length bs at ≡ length body → kind_at bs at ≡ kind → Stands bs (body_start at) body
    → Stands bs at (record_bytes kind body)
stands_record bs small at kind body size named s =
    stands_append bs at (two_bytes (length body) ++ two_bytes kind) body
    (stands_append bs at (two_bytes (length body)) (two_bytes kind)
    (stands_number bs small at (length body) size)
    (stands_number bs small (at + 2) kind named))
    s

-- a record that stands at an offset has its two numbers and its body there
pub record Standing (bs : List ℕ) (at kind : ℕ) (body : List ℕ) : Type 0 where
  pub size : body_length bs at ≡ length body
  pub named : kind_at bs at ≡ kind
  pub inside : Stands bs (body_start at) body

pub record_standing : (bs : List ℕ) (at kind : ℕ) (body : List ℕ) → length body < two_byte_end → kind < two_byte_end → Stands bs at (record_bytes kind body) → Standing bs at kind body
record_standing bs at kind body small known s =
    let head = stands_first bs at (two_bytes (length body) ++ two_bytes kind) body s in
    record {
      size = number_standing bs at (length body) small (stands_first bs at (two_bytes (length body)) (two_bytes kind) head);
      named = number_standing bs (at + 2) kind known (stands_second bs at (two_bytes (length body)) (two_bytes kind) head);
      inside = stands_second bs at (two_bytes (length body) ++ two_bytes kind) body s;
    }
