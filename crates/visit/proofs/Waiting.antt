-- The branches that wait: what stands in their memory, and why two for each place are the most. A branch that waits on level 0 belongs to a pair on level 0
-- that is seen; above level 0 the places only go forward from one branch to the next.
use Prim.Native.Nat.{ℕ, zero, suc, ◌+◌, ◌*◌, ◌≤◌, ◌<◌}
use mathlib.Core.Path.{◌≡◌, refl, ap, ◌∙◌}
use mathlib.Core.Bool.{false, cond}
use mathlib.Core.List.{List, [], ◌∷◌}
use native.Mathlib.Omega.{arith}
use lib.Dec.{eqb}
use lib.ListN.{length, get_or, set, take, length-set, length-take}
use lib.Seq.{get_or-set_same, get_or-set_other, take-set-lt, take-set-le, get_or-take}
use Rattle.paper.specs.Rows.{Rows}
use Rattle.paper.specs.Machine.{Thread, at}
use Rattle.threads.specs.Threads.{lacking, rows_from, waited}
use Rattle.threads.proofs.Stamps.{lacking_all, lacking_mark}
use Rattle.threads.proofs.Stores.{stored_long, stored_before, stored_place, stored_rows, same_part}

-- ---- the pairs on level 0 that are not seen

-- how many of the first entries of a table do not have this stamp
abbrev pub lacking_low : ℕ → ℕ → List ℕ → ℕ
lacking_low n stamp table = lacking stamp (take n table)

pub low_most : (n stamp : ℕ) (xs : List ℕ) → lacking_low n stamp xs ≤ n
low_most n stamp xs = omega (arith, lacking_all stamp (take n xs), length-take n xs)

-- one of them that gets the stamp is one less
pub low_mark : (n stamp : ℕ) (xs : List ℕ) (i : ℕ) → i < n → i < length xs → eqb (get_or xs i 0) stamp ≡ false
    → suc (lacking_low n stamp (set xs i stamp)) ≡ lacking_low n stamp xs
low_mark n stamp xs i low h e =
    ap (λ (l : List ℕ). suc (lacking stamp l)) (take-set-lt n xs i stamp low)
    ∙ lacking_mark stamp (take n xs) i (omega (arith, length-take n xs)) (ap (λ (x : ℕ). eqb x stamp) (get_or-take n xs i 0 low) ∙ e)

-- an entry behind them changes nothing
pub low_other : (n stamp : ℕ) (xs : List ℕ) (i : ℕ) → n ≤ i → lacking_low n stamp (set xs i stamp) ≡ lacking_low n stamp xs
low_other n stamp xs i h = ap (lacking stamp) (take-set-le n xs i stamp h)

-- ---- the branches in their memory

-- how far a branch on a level has come: above level 0 its place counts
abbrev pub reach : ℕ → ℕ → ℕ
reach level place = cond (eqb level 0) 0 place

-- the branch at an index is this thread
pub record Waiter (places : ℕ) (deep : ℕ → ℕ) (pending : List ℕ) (unseen i : ℕ) (t : Thread) : Type 0 where
  pub floor_is : get_or pending (22 * i) 0 ≡ t.level * places
  pub place_is : get_or pending (22 * i + 1) 0 ≡ t.place
  pub rows_are : rows_from pending (22 * i + 1) ≡ t.rows
  pub inside : t.place < places
  pub low : t.level ≤ deep t.place
  pub bounded : i + unseen ≤ places + reach t.level t.place

-- the first branches are these threads, the last first
abbrev pub Waits : ℕ → (ℕ → ℕ) → List ℕ → ℕ → ℕ → List Thread → Type 0
Waits places deep pending unseen zero [] = Unit {0}
Waits places deep pending unseen zero (t ∷ ts) = ⊥
Waits places deep pending unseen (suc n) [] = ⊥
Waits places deep pending unseen (suc n) (t ∷ ts) = Waiter places deep pending unseen n t × Waits places deep pending unseen n ts

module _ (places : ℕ) (deep : ℕ → ℕ) (pending pending' : List ℕ) (unseen unseen' : ℕ) (long : length pending' ≡ length pending) (fewer : unseen' ≤ unseen) where
  -- a memory that agrees with another below an index has the same branches there
  waits_kept : (n : ℕ) (ts : List Thread) → ((j : ℕ) → j < 22 * n → get_or pending' j 0 ≡ get_or pending j 0)
      → Waits places deep pending unseen n ts → Waits places deep pending' unseen' n ts
  waits_kept zero [] same w = tt
  waits_kept zero (t ∷ ts) same w = w
  waits_kept (suc n) [] same w = w
  waits_kept (suc n) (t ∷ ts) same w =
      let first : 22 * n < 22 * suc n = omega arith in
      let second : 22 * n + 1 < 22 * suc n = omega arith in
      let fits : 22 * n + 1 + 1 + 20 ≤ 22 * suc n = omega arith in (
        record {
          floor_is = same (22 * n) first ∙ w.0.floor_is;
          place_is = same (22 * n + 1) second ∙ w.0.place_is;
          rows_are = same_part pending' pending (22 * suc n) (22 * n + 1 + 1) long same fits ∙ w.0.rows_are;
          inside = w.0.inside;
          low = w.0.low;
          bounded = omega (arith, w.0.bounded);
        },
        waits_kept n ts (λ j h. same j (omega arith)) w.1,
      )

-- the same memory with no more pairs to be seen
pub waits_fewer : (places : ℕ) (deep : ℕ → ℕ) (pending : List ℕ) (unseen unseen' n : ℕ) (ts : List Thread) → unseen' ≤ unseen
    → Waits places deep pending unseen n ts → Waits places deep pending unseen' n ts
waits_fewer places deep pending unseen unseen' n ts fewer w = waits_kept places deep pending pending unseen unseen' refl fewer n ts (λ j h. refl) w

-- ---- one branch more

module _ (pending : List ℕ) (n floor place : ℕ) (rows : Rows) (rows_long : length rows ≡ 20) (room : 22 * n + 22 ≤ length pending) where
  abbrev floored : List ℕ
  floored = set pending (22 * n) floor

  floored_room : 22 * n + 1 + 21 ≤ length floored
  floored_room = omega (arith, length-set pending (22 * n) floor)

  pub waited_long : length (waited pending n floor place rows) ≡ length pending
  waited_long = stored_long floored (22 * n + 1) place rows rows_long floored_room ∙ length-set pending (22 * n) floor

  waited_before : (j : ℕ) → j < 22 * n → get_or (waited pending n floor place rows) j 0 ≡ get_or pending j 0
  waited_before j h =
      stored_before floored (22 * n + 1) place rows rows_long floored_room j (omega arith) ∙ get_or-set_other pending (22 * n) j floor 0 (λ e. omega arith)

  pub waits_more : (places : ℕ) (deep : ℕ → ℕ) (unseen unseen' level : ℕ) (ts : List Thread) → unseen' ≤ unseen → floor ≡ level * places → place < places
      → level ≤ deep place → n + unseen' ≤ places + reach level place → Waits places deep pending unseen n ts
      → Waits places deep (waited pending n floor place rows) unseen' (suc n) (at place level rows ∷ ts)
  waits_more places deep unseen unseen' level ts fewer floor_is inside low bounded w = (
    record {
      floor_is =
          stored_before floored (22 * n + 1) place rows rows_long floored_room (22 * n) (omega arith)
          ∙ (get_or-set_same pending (22 * n) floor 0 (omega arith) ∙ floor_is);
      place_is = stored_place floored (22 * n + 1) place rows rows_long floored_room;
      rows_are = stored_rows floored (22 * n + 1) place rows rows_long floored_room;
      inside = inside;
      low = low;
      bounded = bounded;
    },
    waits_kept places deep pending (waited pending n floor place rows) unseen unseen' waited_long fewer n ts waited_before w,
  )

-- ---- the last branch

-- what is known when the last branch is taken
pub record Taken (places : ℕ) (deep : ℕ → ℕ) (pending : List ℕ) (unseen n : ℕ) (ts : List Thread) : Type 0 where
  pub thread : Thread
  pub others : List Thread
  pub all_are : ts ≡ thread ∷ others
  pub waiter : Waiter places deep pending unseen n thread
  pub waits : Waits places deep pending unseen n others

pub waits_less : (places : ℕ) (deep : ℕ → ℕ) (pending : List ℕ) (unseen n : ℕ) (ts : List Thread) → Waits places deep pending unseen (suc n) ts
    → Taken places deep pending unseen n ts
waits_less places deep pending unseen n [] w = absurd w
waits_less places deep pending unseen n (t ∷ ts) w = record { thread = t; others = ts; all_are = refl; waiter = w.0; waits = w.1 }

-- none is left
pub waits_none : (places : ℕ) (deep : ℕ → ℕ) (pending : List ℕ) (unseen n : ℕ) (ts : List Thread) → n ≡ 0 → Waits places deep pending unseen n ts → ts ≡ []
waits_none places deep pending unseen zero [] e w = refl
waits_none places deep pending unseen zero (t ∷ ts) e w = absurd w
waits_none places deep pending unseen (suc n) ts e w = absurd (omega arith)
