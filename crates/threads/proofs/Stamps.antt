-- Tables of stamps: how many entries lack a stamp, and that setting one leaves the others.
use Prim.Native.Nat.{ℕ, zero, suc, ◌≤◌, ◌<◌}
use mathlib.Core.Path.{◌≡◌, refl, sym, ap, ◌∙◌, subst}
use mathlib.Core.Bool.{Bool, true, false, cond}
use mathlib.Core.List.{List, [], ◌∷◌}
use native.Mathlib.Omega.{arith}
use native.Mathlib.Decide.{ℕ_discrete}
use native.Mathlib.Nat.{le_refl}
use borrow.Author.Tests.{eq-eqb, eqb-true}
use lib.Dec.{eqb}
use lib.ListN.{length, get_or, set}
use lib.Seq.{get_or-set_same, get_or-set_other, set-get_or, set_out}
use Rattle.threads.specs.Threads.{lacking, Under}

-- an entry that gets the stamp is one less without it
pub lacking_mark : (stamp : ℕ) (table : List ℕ) (i : ℕ) → i < length table → eqb (get_or table i 0) stamp ≡ false
    → suc (lacking stamp (set table i stamp)) ≡ lacking stamp table
lacking_mark stamp [] i h e = absurd (omega arith)
lacking_mark stamp (x ∷ xs) zero h e =
    ap (λ (b : Bool). suc (cond b (lacking stamp xs) (suc (lacking stamp xs)))) (eq-eqb stamp stamp refl)
    ∙ sym (ap (λ (b : Bool). cond b (lacking stamp xs) (suc (lacking stamp xs))) e)
lacking_mark stamp (x ∷ xs) (suc i) h e = look (eqb x stamp) (lacking_mark stamp xs i (omega arith) e)
  where
    look : (b : Bool) → suc (lacking stamp (set xs i stamp)) ≡ lacking stamp xs
        → suc (cond b (lacking stamp (set xs i stamp)) (suc (lacking stamp (set xs i stamp)))) ≡ cond b (lacking stamp xs) (suc (lacking stamp xs))
    look true h = h
    look false h = ap suc h

-- an entry that has the stamp already is left as it is
pub mark_same : (stamp : ℕ) (table : List ℕ) (i : ℕ) → eqb (get_or table i 0) stamp ≡ true → set table i stamp ≡ table
mark_same stamp table i e = ap (λ (v : ℕ). set table i v) (sym (eqb-true (get_or table i 0) stamp e)) ∙ set-get_or table i 0

-- no more than all entries lack a stamp
pub lacking_all : (stamp : ℕ) (table : List ℕ) → lacking stamp table ≤ length table
lacking_all stamp [] = omega arith
lacking_all stamp (x ∷ xs) = look (eqb x stamp) (lacking_all stamp xs)
  where
    look : (b : Bool) → lacking stamp xs ≤ length xs → cond b (lacking stamp xs) (suc (lacking stamp xs)) ≤ suc (length xs)
    look true h = omega arith
    look false h = omega arith

-- setting an entry to the stamp leaves none above it
pub under_mark : (stamp : ℕ) (table : List ℕ) (i : ℕ) → Under stamp table → Under stamp (set table i stamp)
under_mark stamp table i under j = look (ℕ_discrete j i)
  where
    inside : Dec (i < length table) → get_or (set table i stamp) i 0 ≤ stamp
    inside (yes h) = subst (λ (v : ℕ). v ≤ stamp) (sym (get_or-set_same table i stamp 0 h)) (le_refl stamp)
    inside (no h) = subst (λ (l : List ℕ). get_or l i 0 ≤ stamp) (sym (set_out table i stamp (omega arith))) (under i)

    look : Dec (j ≡ i) → get_or (set table i stamp) j 0 ≤ stamp
    look (yes e) = subst (λ (k : ℕ). get_or (set table i stamp) k 0 ≤ stamp) (sym e) (inside (native.Mathlib.Decide.dec_lt i (length table)))
    look (no ne) = subst (λ (v : ℕ). v ≤ stamp) (sym (get_or-set_other table i j stamp 0 ne)) (under j)
