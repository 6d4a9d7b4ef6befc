-- What a table holds after stores: a place that is written stands, and what stands outside a changed part goes on to stand.
use Prim.Native.Nat.{ℕ, ◌+◌, ◌*◌, ◌≤◌, ◌<◌}
use mathlib.Core.Path.{◌≡◌, refl, sym, ap, ◌∙◌}
use mathlib.Core.List.{List}
use native.Mathlib.Omega.{arith}
use lib.ListN.{length, get_or}
use Rattle.paper.specs.Machine.{Core, dead, skip, eats, captures, chain, either, must, maybe, star, Place, size}
use Rattle.paper.specs.Tables.{place_of}
use Rattle.laying.specs.Laid.{Holds, Kept, Lays}
use Rattle.laying.specs.Single.{Put}

-- numbers that agree stand for the same place
pub agree : (p : List ℕ) {k k' v v' a a' n n' : ℕ} → k ≡ k' → v ≡ v' → a ≡ a' → n ≡ n' → place_of p k v a n ≡ place_of p k' v' a' n'
agree p {k} {k'} {v} {v'} {a} {a'} {n} {n'} ek ev ea en =
    ap (λ (y : ℕ). place_of p y v a n) ek ∙ ap (λ (y : ℕ). place_of p k' y a n) ev ∙ ap (λ (y : ℕ). place_of p k' v' y n) ea
    ∙ ap (λ (y : ℕ). place_of p k' v' a' y) en

-- a place that was written stands
pub put_holds : {t t' : List ℕ} {x k v a n : ℕ} (p : List ℕ) → Put t x k v a n t' → k ≤ 9
    → (k ≡ 6 → (a + 2 * n ≤ length p) × (n ≤ 32)) → Holds t' p x (place_of p k v a n)
put_holds p w known ranges =
    record {
      decoded = agree p w.kind_is w.next_is w.a_is w.n_is;
      readable = record {
        known = omega arith;
        pairs_end = λ e. omega (arith, ranges (sym w.kind_is ∙ e));
        few_pairs = λ e. omega (arith, ranges (sym w.kind_is ∙ e));
      };
    }

-- a place of a kind below the set's reads no bytes of the pattern
pub plain_holds : {t t' : List ℕ} {x k v a n : ℕ} (p : List ℕ) → Put t x k v a n t' → k < 6 → Holds t' p x (place_of p k v a n)
plain_holds p w low = put_holds p w (omega arith) (λ e. absurd (omega arith))

-- the numbers of the places from `low` up to `high` are the same in two tables
record Same (low high : ℕ) (t t' : List ℕ) : Type 0 where
  numbers : (i : ℕ) → 4 * low ≤ i → i < 4 * high → get_or t' i 0 ≡ get_or t i 0

-- a place whose numbers are the same goes on to stand
holds_same : {low high x : ℕ} {t t' p : List ℕ} {q : Place} → Same low high t t' → low ≤ x → x < high → Holds t p x q → Holds t' p x q
holds_same {x = x} {t = t} {t' = t'} {p = p} s le lt h =
    let k0 = s.numbers (4 * x) (omega arith) (omega arith) in
    let k1 = s.numbers (4 * x + 1) (omega arith) (omega arith) in
    let k2 = s.numbers (4 * x + 2) (omega arith) (omega arith) in
    let k3 = s.numbers (4 * x + 3) (omega arith) (omega arith) in
    record {
      decoded = agree p k0 k1 k2 k3 ∙ h.decoded;
      readable = record {
        known = omega (arith, h.readable.known);
        pairs_end = λ e. omega (arith, h.readable.pairs_end (sym k0 ∙ e));
        few_pairs = λ e. omega (arith, h.readable.few_pairs (sym k0 ∙ e));
      };
    }

-- so do all the places of a written-out pattern
lays_same : (c : Core) (p : List ℕ) (base next : ℕ) {low high : ℕ} {t t' : List ℕ} → Same low high t t' → low ≤ base → base + size c ≤ high
    → Lays t p c base next → Lays t' p c base next
lays_same dead p base next s lo hi h = holds_same s (omega arith) (omega arith) h
lays_same skip p base next s lo hi h = tt
lays_same (eats ranges) p base next s lo hi h = holds_same s (omega arith) (omega arith) h
lays_same (captures g e) p base next s lo hi h =
    (holds_same s (omega arith) (omega arith) h.0, lays_same e p _ _ s (omega arith) (omega arith) h.1, holds_same s (omega arith) (omega arith) h.2)
lays_same (chain a b) p base next s lo hi h = (lays_same a p _ _ s (omega arith) (omega arith) h.0, lays_same b p _ _ s (omega arith) (omega arith) h.1)
lays_same (either a b) p base next s lo hi h =
    (holds_same s (omega arith) (omega arith) h.0, lays_same a p _ _ s (omega arith) (omega arith) h.1, lays_same b p _ _ s (omega arith) (omega arith) h.2)
lays_same (must first n e then) p base next s lo hi h =
    (holds_same s (omega arith) (omega arith) h.0, lays_same e p _ _ s (omega arith) (omega arith) h.1, lays_same then p _ _ s (omega arith) (omega arith) h.2)
lays_same (maybe mode first n e then) p base next s lo hi h = (
  holds_same s (omega arith) (omega arith) h.0,
  holds_same s (omega arith) (omega arith) h.1,
  lays_same e p _ _ s (omega arith) (omega arith) h.2,
  holds_same s (omega arith) (omega arith) h.3,
  lays_same then p _ _ s (omega arith) (omega arith) h.4,
)
lays_same (star mode first n e) p base next s lo hi h = (
  holds_same s (omega arith) (omega arith) h.0,
  holds_same s (omega arith) (omega arith) h.1,
  lays_same e p _ _ s (omega arith) (omega arith) h.2,
  holds_same s (omega arith) (omega arith) h.3,
)

-- a place below the changed part goes on to stand
pub holds_kept : {low high x : ℕ} {t t' p : List ℕ} {q : Place} → Kept low high t t' → x < low → Holds t p x q → Holds t' p x q
holds_kept {low} {x = x} k lt h = holds_same {low = 0} {high = low} (record { numbers = λ i le less. k.below i less }) (omega arith) lt h

-- so do all the places of a written-out pattern
pub lays_kept : (c : Core) (p : List ℕ) (base next : ℕ) {low high : ℕ} {t t' : List ℕ} → Kept low high t t' → base + size c ≤ low → Lays t p c base next → Lays t' p c base next
lays_kept c p base next {low} k le h = lays_same c p base next {low = 0} {high = low} (record { numbers = λ i more less. k.below i less }) (omega arith) le h

-- and those behind it
pub lays_behind : (c : Core) (p : List ℕ) (base next : ℕ) {low high : ℕ} {t t' : List ℕ} → Kept low high t t' → high ≤ base → Lays t p c base next → Lays t' p c base next
lays_behind c p base next k le h =
    lays_same c p base next {low = base} {high = base + size c} (record { numbers = λ i more less. k.behind i (omega arith) }) (omega arith) (omega arith) h

-- what has no places is laid by any table
pub lays_none : (c : Core) (t p : List ℕ) (base next : ℕ) → size c ≡ 0 → Lays t p c base next
lays_none dead t p base next none = absurd (omega arith)
lays_none skip t p base next none = tt
lays_none (eats ranges) t p base next none = absurd (omega arith)
lays_none (captures g e) t p base next none = absurd (omega arith)
lays_none (chain a b) t p base next none = (lays_none a t p _ _ (omega arith), lays_none b t p _ _ (omega arith))
lays_none (either a b) t p base next none = absurd (omega arith)
lays_none (must first n e then) t p base next none = absurd (omega arith)
lays_none (maybe mode first n e then) t p base next none = absurd (omega arith)
lays_none (star mode first n e) t p base next none = absurd (omega arith)

-- nothing has changed
pub kept_none : (low high : ℕ) (t : List ℕ) → Kept low high t t
kept_none low high t = record { same_length = refl; below = λ i lt. refl; behind = λ i le. refl }

-- two changes, each inside a part, are one change inside it
pub kept_both : {a b c d : ℕ} {t t1 t2 : List ℕ} (low high : ℕ) → Kept a b t t1 → Kept c d t1 t2 → low ≤ a → b ≤ high → low ≤ c → d ≤ high → Kept low high t t2
kept_both low high k l la bh lc dh =
    record {
      same_length = l.same_length ∙ k.same_length;
      below = λ i lt. l.below i (omega arith) ∙ k.below i (omega arith);
      behind = λ i le. l.behind i (omega arith) ∙ k.behind i (omega arith);
    }
