-- Bytes copied one by one into a buffer are written behind what it held before them.
use Prim.Native.Nat.{ℕ, ◌+◌, ◌≤◌, ◌<◌}
use mathlib.Core.Path.{◌≡◌, refl, sym, ap, subst, ◌∙◌}
use mathlib.Core.List.{List, ◌++◌}
use native.Mathlib.Omega.{arith}
use native.Mathlib.Numerals.{add-one}
use lib.ListN.{length, take, set, get_or, length-set}
use lib.Seq.{paste, paste-zero, paste-suc, take-length, length-paste, take-paste, drop-paste}
use Rattle.turns.specs.Appended.{Appended}

-- bytes pasted into a buffer are written behind what it held before them
pub pasted : (buffer bytes : List ℕ) (at : ℕ) → at + length bytes ≤ length buffer → Appended buffer (paste buffer at bytes (length bytes)) at bytes (at + length bytes)
pasted buffer bytes at fits =
    record {
      ends = refl;
      long = length-paste buffer at bytes (length bytes) fits (omega arith);
      front = take-paste buffer at bytes (length bytes) (omega arith) (omega arith) ∙ ap (λ (l : List ℕ). take at buffer ++ l) (take-length bytes);
      behind = drop-paste buffer at bytes (length bytes) (omega arith) (omega arith);
    }

-- after so many turns the buffer is the one at entry with the first bytes pasted in
pub record Copying (bytes entry : List ℕ) (at : ℕ) (buffer : List ℕ) (i : ℕ) : Type 0 where
  pub same : buffer ≡ paste entry at bytes i
  pub long : length buffer ≡ length entry
  pub inside : i ≤ length bytes

module _ (bytes entry : List ℕ) (at : ℕ) (fits : at + length bytes ≤ length entry) where
  pub copy_start : Copying bytes entry at entry 0
  copy_start = record { same = paste-zero entry at bytes; long = refl; inside = omega arith }

  pub copy_more : (buffer : List ℕ) (i : ℕ) → Copying bytes entry at buffer i → i < length bytes
      → Copying bytes entry at (set buffer (at + i) (get_or bytes i 0)) (i + 1)
  copy_more buffer i kept left =
      record {
        same =
            ap (λ (l : List ℕ). set l (at + i) (get_or bytes i 0)) kept.same
            ∙ paste-suc entry at bytes i 0 (omega arith) left
            ∙ ap (paste entry at bytes) (sym (add-one i));
        long = length-set buffer (at + i) (get_or bytes i 0) ∙ kept.long;
        inside = omega arith;
      }

  pub copy_end : (buffer : List ℕ) (i : ℕ) → Copying bytes entry at buffer i → length bytes ≤ i → Appended entry buffer at bytes (at + length bytes)
  copy_end buffer i kept past =
      let all : i ≡ length bytes = omega (arith, kept.inside) in
      subst (λ (l : List ℕ). Appended entry l at bytes (at + length bytes)) (sym kept.same)
      (subst (λ (n : ℕ). Appended entry (paste entry at bytes n) at bytes (at + length bytes)) (sym all) (pasted entry bytes at fits))
