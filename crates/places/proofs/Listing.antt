-- A table that lays a written-out pattern lists its places: the first so many of the table are paper's list, and whoever reads one stays in range.
use Prim.Native.Nat.{ℕ, zero, suc, ◌+◌, ◌≤◌, ◌<◌}
use mathlib.Core.Path.{◌≡◌, refl, sym, ap, subst, ◌∙◌}
use mathlib.Core.Bool.{Bool, true, false}
use mathlib.Core.List.{List, [], ◌∷◌, ◌++◌}
use native.Mathlib.Nat.{suc-add}
use native.Mathlib.Numerals.{add-one}
use native.Mathlib.Omega.{arith}
use borrow.Author.Tests.{ltb-true, ltb-false}
use lib.Dec.{ltb}
use Rattle.paper.specs.Machine.{Core, dead, skip, eats, captures, chain, either, must, maybe, star, Place, size, lay, entry, pass_fork, begin_optional, ending}
use Rattle.paper.specs.Tables.{place_at, decode}
use Rattle.laying.specs.Laid.{Readable, Holds, Lays}

-- so many places of a table from an index on
abbrev pub listed : List ℕ → List ℕ → ℕ → ℕ → List Place
listed t p base zero = []
listed t p base (suc n) = place_at t p base ∷ listed t p (base + 1) n

listed_append : (t p : List ℕ) (base m n : ℕ) → listed t p base (m + n) ≡ listed t p base m ++ listed t p (base + m) n
listed_append t p base zero n = ap (listed t p base) (none n) ∙ ap (λ (b : ℕ). listed t p b n) (here base)
  where
    none : (n : ℕ) → 0 + n ≡ n
    none n = omega arith

    here : (b : ℕ) → b ≡ b + 0
    here b = omega arith
listed_append t p base (suc m) n =
    ap (listed t p base) (suc-add m n)
    ∙ ap (λ (l : List Place). place_at t p base ∷ l)
    (listed_append t p (base + 1) m n ∙ ap (λ (b : ℕ). listed t p (base + 1) m ++ listed t p b n) (next base))
  where
    next : (b : ℕ) → b + 1 + m ≡ b + suc m
    next b = omega arith

-- the table has these places from an index on, and each can be read
pub record Lists (t p : List ℕ) (base n : ℕ) (places : List Place) : Type 0 where
  pub are : listed t p base n ≡ places
  pub readable : (x : ℕ) → base ≤ x → x < base + n → Readable t p x

lists_none : (t p : List ℕ) (base : ℕ) → Lists t p base 0 []
lists_none t p base = record { are = refl; readable = λ x low high. absurd (omega arith) }

lists_more : {t p : List ℕ} {base n : ℕ} {q : Place} {qs : List Place} → Holds t p base q → Lists t p (base + 1) n qs → Lists t p base (suc n) (q ∷ qs)
lists_more {t} {p} {base} {n} {q} {qs} h l =
    record {
      are = ap (λ (x : Place). x ∷ listed t p (base + 1) n) h.decoded ∙ ap (λ (xs : List Place). q ∷ xs) l.are;
      readable = λ x low high. look x (ltb base x) refl low high;
    }
  where
    look : (x : ℕ) (b : Bool) → ltb base x ≡ b → base ≤ x → x < base + suc n → Readable t p x
    look x true e low high = l.readable x (omega (arith, ltb-true base x e)) (omega arith)
    look x false e low high = let same : base ≡ x = omega (arith, ltb-false base x e) in subst (Readable t p) same h.readable

-- one place
pub lists_one : {t p : List ℕ} {base : ℕ} {q : Place} → Holds t p base q → Lists t p base 1 (q ∷ [])
lists_one {t} {p} {base} h = lists_more h (lists_none t p (base + 1))

-- places, then others
pub lists_both : {t p : List ℕ} {base m n : ℕ} {ps qs : List Place} → Lists t p base m ps → Lists t p (base + m) n qs → Lists t p base (m + n) (ps ++ qs)
lists_both {t} {p} {base} {m} {n} {ps} {qs} k l =
    record {
      are = listed_append t p base m n ∙ ap (λ (xs : List Place). xs ++ listed t p (base + m) n) k.are ∙ ap (λ (xs : List Place). ps ++ xs) l.are;
      readable = λ x low high. look x (ltb x (base + m)) refl low high;
    }
  where
    look : (x : ℕ) (b : Bool) → ltb x (base + m) ≡ b → base ≤ x → x < base + (m + n) → Readable t p x
    look x true e low high = k.readable x low (ltb-true x (base + m) e)
    look x false e low high = l.readable x (ltb-false x (base + m) e) (omega arith)

-- what is laid is listed
pub lays_lists : (c : Core) (t p : List ℕ) (base next : ℕ) → Lays t p c base next → Lists t p base (size c) (lay c base next)
lays_lists dead t p base next h = lists_one h
lays_lists skip t p base next h = lists_none t p base
lays_lists (eats ranges) t p base next h = lists_one h
lays_lists (captures k e) t p base next h = lists_more h.0 (lists_both (lays_lists e t p _ _ h.1) (lists_one h.2))
lays_lists (chain a b) t p base next h = lists_both (lays_lists a t p _ _ h.0) (lays_lists b t p _ _ h.1)
lays_lists (either a b) t p base next h = lists_more h.0 (lists_both (lays_lists a t p _ _ h.1) (lays_lists b t p _ _ h.2))
lays_lists (must first n e then) t p base next h =
    lists_more h.0 (lists_both (lays_lists e t p _ _ h.1) (lays_lists then t p _ _ h.2))
lays_lists (maybe mode first n e then) t p base next h =
    subst
    (λ (b : ℕ). Lists t p base (size (maybe mode first n e then))
    (pass_fork mode (base + 1) next ∷ begin_optional first n (entry e b (b + size e))
    ∷ (lay e b (b + size e) ++ (ending (entry then (b + size e + 1) next) ∷ lay then (b + size e + 1) next))))
    (two base)
    (lists_more h.0
    (lists_more h.1 (lists_both (lays_lists e t p _ _ h.2) (lists_more h.3 (lays_lists then t p _ _ h.4)))))
  where
    two : (b : ℕ) → b + 1 + 1 ≡ b + 2
    two b = omega arith
lays_lists (star mode first n e) t p base next h =
    subst
    (λ (b : ℕ). Lists t p base (size (star mode first n e))
    (pass_fork mode (base + 1) next ∷ begin_optional first n (entry e b (b + size e)) ∷ (lay e b (b + size e) ++ (ending base ∷ []))))
    (two base)
    (lists_more h.0 (lists_more h.1 (lists_both (lays_lists e t p _ _ h.2) (lists_one h.3))))
  where
    two : (b : ℕ) → b + 1 + 1 ≡ b + 2
    two b = omega arith

-- the first places of a table, as paper tells them
pub decode_listed : (t p : List ℕ) (n : ℕ) → decode t p n ≡ listed t p 0 n
decode_listed t p zero = refl
decode_listed t p (suc n) =
    ap (λ (l : List Place). l ++ (place_at t p n ∷ [])) (decode_listed t p n)
    ∙ ap (λ (b : ℕ). listed t p 0 n ++ listed t p b 1) (here n)
    ∙ sym (listed_append t p 0 n 1)
    ∙ ap (listed t p 0) (add-one n)
  where
    here : (n : ℕ) → n ≡ 0 + n
    here n = omega arith
