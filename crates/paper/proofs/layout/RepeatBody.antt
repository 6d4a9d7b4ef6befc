-- The three numbers of a repeat: the test that the walk makes is what is asked of the counts, and the numbers and the counts determine each other.
use Prim.Native.Nat.{ℕ, ◌≤◌, ◌<◌}
use native.Mathlib.Omega.{arith}
use mathlib.Core.Path.{◌≡◌, refl, sym, ap}
use mathlib.Core.Logic.{◌⊎◌, inl, inr}
use mathlib.Core.Bool.{Bool, true, false, cond, ◌&&◌, ◌||◌}
use lib.Dec.{leb, eqb}
use borrow.Author.Tests.{leb-true, le-leb, eqb-true, eqb-false, ne_eqb}
use Rattle.paper.specs.Limits.{repeat_count, no_upper_end}
use Rattle.paper.specs.Pattern.{Mode, greedy, lazy, Upper, up_to, no_end}
use Rattle.paper.specs.Layout.{upper_number, mode_number, CountsRight}
use Rattle.paper.specs.Check.{repeat_numbers_right, upper_of, mode_of}
use Rattle.paper.proofs.layout.Standing.{two_byte_end}
use Rattle.paper.proofs.layout.Accepted.{both_true, and_true, either_true, or_true_left}

-- the number of the upper end that a number stands for is that number, and so with the mode
pub upper_number_of : (most : ℕ) → upper_number (upper_of most) ≡ most
upper_number_of most = look (eqb most no_upper_end) refl
  where
    look : (b : Bool) → eqb most no_upper_end ≡ b → upper_number (cond b no_end (up_to most)) ≡ most
    look true e = sym (eqb-true most no_upper_end e)
    look false e = refl

pub mode_number_of : (mode : ℕ) → mode ≤ 1 → mode_number (mode_of mode) ≡ mode
mode_number_of mode h = look (eqb mode 0) refl
  where
    look : (b : Bool) → eqb mode 0 ≡ b → mode_number (cond b greedy lazy) ≡ mode
    look true e = sym (eqb-true mode 0 e)
    look false e = omega (arith, eqb-false mode 0 e)

-- the counts that three right numbers give keep the rule
counts_right : (least most : ℕ) → least ≤ repeat_count → (leb most repeat_count ≡ true) ⊎ (eqb most no_upper_end ≡ true) → least ≤ most → CountsRight least (upper_of most)
counts_right least most small either order = look (eqb most no_upper_end) refl
  where
    within : (leb most repeat_count ≡ true) ⊎ (eqb most no_upper_end ≡ true) → eqb most no_upper_end ≡ false → most ≤ repeat_count
    within (inl t) e = leb-true most repeat_count t
    within (inr t) e = absurd (eqb-false most no_upper_end e (eqb-true most no_upper_end t))

    look : (b : Bool) → eqb most no_upper_end ≡ b → CountsRight least (cond b no_end (up_to most))
    look true e = small
    look false e = (order, within either e)

-- three numbers that pass the test are those of counts and a mode that keep the rule
pub numbers_right : (least most mode : ℕ) → repeat_numbers_right least most mode ≡ true → CountsRight least (upper_of most) × (mode_number (mode_of mode) ≡ mode)
numbers_right least most mode e =
    let ends = leb most repeat_count || eqb most no_upper_end in
    let last = both_true (leb least repeat_count && ends && leb least most) (leb mode 1) e in
    let order = both_true (leb least repeat_count && ends) (leb least most) last.0 in
    let first = both_true (leb least repeat_count) ends order.0 in (
      counts_right least most (leb-true least repeat_count first.0) (either_true (leb most repeat_count) (eqb most no_upper_end) first.1) (leb-true least most order.1),
      mode_number_of mode (leb-true mode 1 last.1),
    )

-- counts that keep the rule are read back from their numbers
pub upper_of_number : (least : ℕ) (upper : Upper) → CountsRight least upper → upper_of (upper_number upper) ≡ upper
upper_of_number least (up_to most) right = ap (λ (b : Bool). cond b no_end (up_to most)) (ne_eqb most no_upper_end (λ e. omega arith))
upper_of_number least no_end right = refl

pub mode_of_number : (mode : Mode) → mode_of (mode_number mode) ≡ mode
mode_of_number greedy = refl
mode_of_number lazy = refl

-- counts that keep the rule are in order, and two bytes hold their numbers
pub counts_small : (least : ℕ) (upper : Upper) → CountsRight least upper → (least ≤ repeat_count) × (least ≤ upper_number upper) × (upper_number upper < two_byte_end)
counts_small least (up_to most) right = omega arith
counts_small least no_end right = omega arith

pub mode_small : (mode : Mode) → mode_number mode ≤ 1
mode_small greedy = omega arith
mode_small lazy = omega arith

upper_right : (least : ℕ) (upper : Upper) → CountsRight least upper → leb (upper_number upper) repeat_count || eqb (upper_number upper) no_upper_end ≡ true
upper_right least (up_to most) right = or_true_left (eqb most no_upper_end) (le-leb most repeat_count right.1)
upper_right least no_end right = refl

-- the numbers of counts that keep the rule pass the test
pub right_numbers : (least : ℕ) (upper : Upper) (mode : Mode) → CountsRight least upper → repeat_numbers_right least (upper_number upper) (mode_number mode) ≡ true
right_numbers least upper mode right =
    let small = counts_small least upper right in
    and_true
    (and_true (and_true (le-leb least repeat_count small.0) (upper_right least upper right)) (le-leb least (upper_number upper) small.1))
    (le-leb (mode_number mode) 1 (mode_small mode))
