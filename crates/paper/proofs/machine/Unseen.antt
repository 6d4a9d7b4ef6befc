-- The pairs not yet seen at a position, counted: all of them at first, and one fewer with each pair that is marked.
use Prim.Native.Nat.{ℕ, zero, suc, ◌+◌, ◌*◌, ◌<◌, ◌≤◌}
use native.Mathlib.Omega.{arith}
use native.Mathlib.Nat.{suc-mul, zero-mul, mul_comm, mul-one}
use mathlib.Core.Path.{◌≡◌, refl, sym, ap, ap₂, ◌∙◌}
use mathlib.Core.Logic.{◌≢◌}
use mathlib.Core.Bool.{Bool, true, false, cond, and-false}
use mathlib.Core.List.{List, [], ◌∷◌}
use lib.Dec.{eqb}
use borrow.Author.Tests.{eqb-true, eqb-false, eq-eqb, ne_eqb}
use Rattle.paper.specs.Machine.{Pair, is_seen}

-- the sum of a function over the numbers below n
abbrev pub total : ℕ → (ℕ → ℕ) → ℕ
total zero f = 0
total (suc n) f = f n + total n f

total_same : (n : ℕ) (f g : ℕ → ℕ) → ((j : ℕ) → j < n → f j ≡ g j) → total n f ≡ total n g
total_same zero f g same = refl
total_same (suc n) f g same = ap₂ ◌+◌ (same n (omega arith)) (total_same n f g (λ j h. same j (omega arith)))

-- a constant summed up
pub total_constant : (n c : ℕ) → total n (λ j. c) ≡ n * c
total_constant zero c = sym (zero-mul c)
total_constant (suc n) c = omega (arith, total_constant n c, suc-mul n c)

-- one less at one number is one less in all
pub total_less : (n i : ℕ) (f g : ℕ → ℕ) → i < n → f i ≡ suc (g i) → ((j : ℕ) → j ≢ i → f j ≡ g j) → total n f ≡ suc (total n g)
total_less zero i f g h less other = absurd (omega arith)
total_less (suc n) i f g h less other = look (eqb n i) refl (total_less n i f g)
  where
    look : (b : Bool) → eqb n i ≡ b
        → (i < n → f i ≡ suc (g i) → ((j : ℕ) → j ≢ i → f j ≡ g j) → total n f ≡ suc (total n g))
        → f n + total n f ≡ suc (g n + total n g)
    look true e before =
        let here : n ≡ i = eqb-true n i e in
        let less' : f n ≡ suc (g n) = rw here less in
        omega (arith, total_same n f g (λ j h. other j (omega arith)))
    look false e before =
        let below : i < n = omega (arith, eqb-false n i e) in
        omega (arith, before below less other, other n (eqb-false n i e))

-- one for a pair not seen
abbrev pub unseen_at : List Pair → ℕ → ℕ → ℕ
unseen_at seen level place = cond (is_seen place level seen) 0 1

-- the pairs not seen, of so many places on the levels up to the deepest
pub unseen : ℕ → ℕ → List Pair → ℕ
unseen places deepest seen = total (suc deepest) (λ level. total places (unseen_at seen level))

-- at first all of them
pub unseen_all : (places deepest : ℕ) → unseen places deepest [] ≡ places * (deepest + 1)
unfolding unseen
unseen_all places deepest =
    total_same (suc deepest) (λ level. total places (unseen_at [] level)) (λ level. places)
    (λ level h. total_constant places 1 ∙ mul-one places)
    ∙ total_constant (suc deepest) places
    ∙ mul_comm (suc deepest) places
    ∙ ap (λ (x : ℕ). places * x) (omega arith)

-- marking a pair that was not seen leaves one fewer
pub unseen_mark : (places deepest place level : ℕ) (seen : List Pair) → place < places → level ≤ deepest → is_seen place level seen ≡ false
    → unseen places deepest seen ≡ suc (unseen places deepest (record { place = place; level = level } ∷ seen))
unfolding unseen
unseen_mark places deepest place level seen inside low new =
    total_less (suc deepest) level (λ m. total places (unseen_at seen m)) (λ m. total places (unseen_at marked m)) (omega arith)
    (total_less places place (unseen_at seen level) (unseen_at marked level) inside here
    (λ x other. rw (ne_eqb place x (λ e. other (sym e)))))
    (λ m other.
    total_same places (unseen_at seen m) (unseen_at marked m)
    (λ x h. rw (ne_eqb level m (λ e. other (sym e)), and-false (eqb place x))))
  where
    marked : List Pair
    marked = record { place = place; level = level } ∷ seen

    here : unseen_at seen level place ≡ suc (unseen_at marked level place)
    here = rw (eq-eqb place place refl, eq-eqb level level refl, new)
