-- Where expressions are entered, and how the places of a run of passes are laid from those of one pass and the rest.
use Prim.Native.Nat.{ℕ, zero, suc, ◌+◌, ◌-◌, ◌*◌, ◌≤◌}
use mathlib.Core.Path.{◌≡◌, refl, sym, ap, subst, ◌∙◌}
use mathlib.Core.Bool.{Bool, true, false, cond}
use mathlib.Core.List.{List}
use native.Mathlib.Nat.{suc-mul, zero-mul, mul-le-mul_left}
use native.Mathlib.Omega.{arith}
use borrow.Author.Tests.{eq-eqb, ne_eqb}
use lib.Dec.{eqb}
use lib.ListN.{length}
use Rattle.paper.specs.Pattern.{Mode}
use Rattle.paper.specs.Machine.{Core, skip, must, maybe, star, size, pass_fork, begin, begin_optional, ending}
use Rattle.pattern.specs.Walk.{pass_places}
use Rattle.pattern.proofs.Counting.{no_pass}
use Rattle.laying.specs.Laid.{Holds, entry_of, Lays}
use Rattle.laying.specs.Room.{most_places}
use Rattle.laying.specs.Single.{Fitting, Head}
use Rattle.laying.specs.Repeats.{optional_core, pass_core, inner_start}

-- what has no places is entered at what follows it
pub entry_none : (n base next : ℕ) → n ≡ 0 → entry_of n base next ≡ next
entry_none n base next none = ap (λ (b : Bool). cond b next base) (eq-eqb n 0 none)

-- what has places is entered at its first
pub entry_some : (n base next : ℕ) → (n ≡ 0 → ⊥) → entry_of n base next ≡ base
entry_some n base next some = ap (λ (b : Bool). cond b next base) (ne_eqb n 0 some)

-- an entry is one of two places
pub entry_small : (n base next : ℕ) {most : ℕ} → base ≤ most → next ≤ most → entry_of n base next ≤ most
entry_small n base next {most} lb ln = pick (eqb n 0)
  where
    pick : (b : Bool) → cond b next base ≤ most
    pick true = ln
    pick false = lb

-- only whether there are places matters
pub entry_same : (m n base next : ℕ) → (m ≡ 0 → n ≡ 0) → (n ≡ 0 → m ≡ 0) → entry_of m base next ≡ entry_of n base next
entry_same zero n base next f g = entry_none 0 base next refl ∙ sym (entry_none n base next (f refl))
entry_same (suc m) n base next f g =
    entry_some (suc m) base next (λ e. omega arith) ∙ sym (entry_some n base next (λ e. omega (arith, g e)))

-- a run of passes has places where it has passes
pub passes_some : (least may p : ℕ) → pass_places least may p ≡ 0 → least + may ≡ 0
passes_some zero zero p e = omega arith
passes_some zero (suc may) p e = absurd (omega (arith, suc-mul may (3 + p), zero-mul (1 + p)))
passes_some (suc least) may p e = absurd (omega (arith, suc-mul least (1 + p)))

-- without passes there are no places
pub passes_none : (least may p : ℕ) → least + may ≡ 0 → pass_places least may p ≡ 0
passes_none least may p e = no_pass least may p (omega arith)

-- the first pass of a run, and the rest
pub places_must : (least may p : ℕ) → (least ≡ 0 → ⊥) → pass_places least may p ≡ 1 + p + pass_places (least - 1) may p
places_must zero may p some = absurd (some refl)
places_must (suc least) may p some = omega (arith, suc-mul least (1 + p), ap (λ (k : ℕ). k * (1 + p)) (less least))
  where
    less : (k : ℕ) → suc k - 1 ≡ k
    less k = omega arith

-- the first optional pass of a run, and the rest
pub places_may : (least may p : ℕ) → least ≡ 0 → (may ≡ 0 → ⊥) → pass_places least may p ≡ 3 + p + pass_places 0 (may - 1) p
places_may least zero p none some = absurd (some refl)
places_may least (suc may) p none some =
    omega (arith, suc-mul may (3 + p), ap (λ (k : ℕ). k * (3 + p)) (less may), ap (λ (k : ℕ). k * (1 + p)) none, zero-mul (1 + p))
  where
    less : (k : ℕ) → suc k - 1 ≡ k
    less k = omega arith

-- where the inner part of a pass that must be made stands
pub inner_must : (least base : ℕ) → (least ≡ 0 → ⊥) → inner_start least base ≡ base + 1
inner_must least base some = ap (λ (b : Bool). cond b (base + 2) (base + 1)) (ne_eqb least 0 some)

-- and that of an optional one
pub inner_may : (least base : ℕ) → least ≡ 0 → inner_start least base ≡ base + 2
inner_may least base none = ap (λ (b : Bool). cond b (base + 2) (base + 1)) (eq-eqb least 0 none)

-- the inner part of the first pass stands among the places of the passes
pub first_inner : (least may base p : ℕ) → (least + may ≡ 0 → ⊥) → (base ≤ inner_start least base) × (inner_start least base + p ≤ base + pass_places least may p)
first_inner zero zero base p some = absurd (some (omega arith))
first_inner zero (suc may) base p some = (omega arith, omega (arith, inner_may 0 base refl, places_may 0 (suc may) p refl (λ z. omega arith)))
first_inner (suc least) may base p some = let e = inner_must (suc least) base (λ z. omega arith) in (omega arith, omega (arith, places_must (suc least) may p (λ z. omega arith)))

module _ (mode : Mode) (first n : ℕ) (e : Core) where
  -- a run that begins with a pass that must be made
  pub core_must : (least : ℕ) (endless : Bool) (may : ℕ) → (least ≡ 0 → ⊥)
      → pass_core least endless may mode first n e ≡ must first n e (pass_core (least - 1) endless may mode first n e)
  core_must zero endless may some = absurd (some refl)
  core_must (suc least) endless may some = ap (λ (k : ℕ). must first n e (pass_core k endless may mode first n e)) (less least)
    where
      less : (k : ℕ) → k ≡ suc k - 1
      less k = omega arith

  -- a run without passes
  pub core_none : (least : ℕ) (endless : Bool) (may : ℕ) → least ≡ 0 → may ≡ 0 → pass_core least endless may mode first n e ≡ skip
  core_none least true may none nones =
      ap (λ (k : ℕ). pass_core k true may mode first n e) none ∙ ap (λ (k : ℕ). optional_core true k mode first n e) nones
  core_none least false may none nones =
      ap (λ (k : ℕ). pass_core k false may mode first n e) none ∙ ap (λ (k : ℕ). optional_core false k mode first n e) nones

  -- a run that is one pass without an upper end
  pub core_star : (least may : ℕ) → least ≡ 0 → (may ≡ 0 → ⊥) → pass_core least true may mode first n e ≡ star mode first n e
  core_star least zero none some = absurd (some refl)
  core_star least (suc may) none some = ap (λ (k : ℕ). pass_core k true (suc may) mode first n e) none

  -- a run that begins with an optional pass
  pub core_maybe : (least may : ℕ) → least ≡ 0 → (may ≡ 0 → ⊥)
      → pass_core least false may mode first n e ≡ maybe mode first n e (pass_core 0 false (may - 1) mode first n e)
  core_maybe least zero none some = absurd (some refl)
  core_maybe least (suc may) none some =
      ap (λ (k : ℕ). pass_core k false (suc may) mode first n e) none
      ∙ ap (λ (k : ℕ). maybe mode first n e (optional_core false k mode first n e)) (less may)
    where
      less : (k : ℕ) → k ≡ suc k - 1
      less k = omega arith

-- a pass that must be made, and what comes then
pub must_lays : (t bs : List ℕ) (first n : ℕ) (e then : Core) (base next p out : ℕ) → p ≡ size e → out ≡ entry_of (size then) (base + 1 + p) next
    → Holds t bs base (begin first n (entry_of p (base + 1) out)) → Lays t bs e (base + 1) out → Lays t bs then (base + 1 + p) next
    → Lays t bs (must first n e then) base next
must_lays t bs first n e then base next p out ep eo =
    subst
    (λ (p : ℕ). (out : ℕ) → out ≡ entry_of (size then) (base + 1 + p) next → Holds t bs base (begin first n (entry_of p (base + 1) out))
    → Lays t bs e (base + 1) out → Lays t bs then (base + 1 + p) next → Lays t bs (must first n e then) base next)
    (sym ep)
    (λ out eo.
    subst
    (λ (out : ℕ). Holds t bs base (begin first n (entry_of (size e) (base + 1) out)) → Lays t bs e (base + 1) out
    → Lays t bs then (base + 1 + size e) next → Lays t bs (must first n e then) base next)
    (sym eo)
    (λ a b c. (a, b, c)))
    out
    eo

-- an optional pass, and what comes then
pub maybe_lays : (t bs : List ℕ) (mode : Mode) (first n : ℕ) (e then : Core) (base next p out : ℕ) → p ≡ size e
    → out ≡ entry_of (size then) (base + 1 + 1 + p + 1) next
    → Holds t bs base (pass_fork mode (base + 1) next) → Holds t bs (base + 1) (begin_optional first n (entry_of p (base + 1 + 1) (base + 1 + 1 + p)))
    → Lays t bs e (base + 1 + 1) (base + 1 + 1 + p) → Holds t bs (base + 1 + 1 + p) (ending out) → Lays t bs then (base + 1 + 1 + p + 1) next
    → Lays t bs (maybe mode first n e then) base next
maybe_lays t bs mode first n e then base next p out ep eo =
    subst
    (λ (p : ℕ). (out : ℕ) → out ≡ entry_of (size then) (base + 1 + 1 + p + 1) next → Holds t bs base (pass_fork mode (base + 1) next)
    → Holds t bs (base + 1) (begin_optional first n (entry_of p (base + 1 + 1) (base + 1 + 1 + p)))
    → Lays t bs e (base + 1 + 1) (base + 1 + 1 + p) → Holds t bs (base + 1 + 1 + p) (ending out) → Lays t bs then (base + 1 + 1 + p + 1) next
    → Lays t bs (maybe mode first n e then) base next)
    (sym ep)
    (λ out eo a b c d f. (a, b, c, subst (λ (out : ℕ). Holds t bs (base + 1 + 1 + size e) (ending out)) eo d, f))
    out
    eo

-- a pass whose end leads back
pub star_lays : (t bs : List ℕ) (mode : Mode) (first n : ℕ) (e : Core) (base next p : ℕ) → p ≡ size e
    → Holds t bs base (pass_fork mode (base + 1) next) → Holds t bs (base + 1) (begin_optional first n (entry_of p (base + 1 + 1) (base + 1 + 1 + p)))
    → Lays t bs e (base + 1 + 1) (base + 1 + 1 + p) → Holds t bs (base + 1 + 1 + p) (ending base) → Lays t bs (star mode first n e) base next
star_lays t bs mode first n e base next p ep =
    subst
    (λ (p : ℕ). Holds t bs base (pass_fork mode (base + 1) next)
    → Holds t bs (base + 1) (begin_optional first n (entry_of p (base + 1 + 1) (base + 1 + 1 + p)))
    → Lays t bs e (base + 1 + 1) (base + 1 + 1 + p) → Holds t bs (base + 1 + 1 + p) (ending base) → Lays t bs (star mode first n e) base next)
    (sym ep)
    (λ a b c d. (a, b, c, d))

-- the numbers of a head, the place before so many others, fit
pub entering_fits : (p base next : ℕ) {t : List ℕ} {kind a n v : ℕ} → base + 1 + p ≤ most_places → next ≤ most_places → Head kind a n
    → 2040 ≤ length t → v ≡ entry_of p (base + 1) next → Fitting t base v a n
entering_fits p base next inside follows head room ev =
    record {
      room = omega (arith, inside);
      next_fits = omega (arith, ev, entry_small p (base + 1) next {most = 65535} (omega (arith, inside)) (omega (arith, follows)));
      a_fits = omega (arith, head.a_small);
      n_fits = omega (arith, head.n_small);
    }

-- a run of passes has at least a place a pass
pub passes_count : (least may p : ℕ) → least + may ≤ pass_places least may p
passes_count least may p =
    omega (arith, mul-le-mul_left {m = 1} {n = 1 + p} least (omega arith), mul-le-mul_left {m = 1} {n = 3 + p} may (omega arith))

-- where the end of an optional pass leads is a place
pub end_small : (endless : Bool) (n base after next : ℕ) {most : ℕ} → base ≤ most → after ≤ most → next ≤ most
    → cond endless base (entry_of n after next) ≤ most
end_small true n base after next lb la ln = lb
end_small false n base after next lb la ln = entry_small n after next la ln

-- what is not 0 is at least 1
pub at_least_one : {n : ℕ} → (n ≡ 0 → ⊥) → 1 ≤ n
at_least_one {n = zero} some = absurd (some refl)
at_least_one {n = suc n} some = omega arith
