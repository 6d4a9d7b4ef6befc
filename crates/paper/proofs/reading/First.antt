-- The first success in a list of outcomes. Trying what follows on each outcome in order commutes with appending and with following up,
-- because each tries the same things in the same order.
use Prim.Native.Nat.{ℕ}
use mathlib.Core.Path.{◌≡◌, refl, sym, ap, ◌∙◌}
use mathlib.Core.Bool.{Bool, true, false, cond}
use mathlib.Core.List.{List, [], ◌∷◌, ◌++◌}
use mathlib.Core.Option.{Option, none, some}
use lib.Dec.{eqb}
use Rattle.paper.specs.Rows.{Rows}
use Rattle.paper.specs.Reading.{Outcome, Reading, bind}
use Rattle.paper.specs.Match.{first_ending_at}

-- what is tried at the end of an outcome: an answer of some kind, or none
abbrev pub TrialFor : Type 0 → Type 0
TrialFor A = ℕ → Rows → Option A

-- the trial that the machine makes: rows, or none
abbrev pub Trial : Type 0
Trial = TrialFor Rows

module _ {A : Type 0} where
  -- the first of two, if it is there, else the second
  abbrev pub before : Option A → Option A → Option A
  before none o = o
  before (some a) o = some a

  -- the first outcome on which a trial gives an answer, and that
  abbrev pub first_of : List Outcome → TrialFor A → Option A
  first_of [] trial = none
  first_of (o ∷ os) trial = before (trial o.end o.rows) (first_of os trial)

  -- a missing second changes nothing
  pub before_none : (o : Option A) → before o none ≡ o
  before_none none = refl
  before_none (some a) = refl

  -- three in turn, however bracketed
  pub before_assoc : (a b c : Option A) → before (before a b) c ≡ before a (before b c)
  before_assoc none b c = refl
  before_assoc (some a) b c = refl

  -- over two lists, the first list's success comes first
  pub first_append : (a b : List Outcome) (trial : TrialFor A) → first_of (a ++ b) trial ≡ before (first_of a trial) (first_of b trial)
  first_append [] b trial = refl
  first_append (o ∷ os) b trial =
      ap (before (trial o.end o.rows)) (first_append os b trial)
      ∙ sym (before_assoc (trial o.end o.rows) (first_of os trial) (first_of b trial))

  -- following up each outcome and then trying is trying what follows on each outcome
  pub first_bind : (os : List Outcome) (next : Reading) (trial : TrialFor A)
      → first_of (bind os next) trial ≡ first_of os (λ p rows. first_of (next p rows) trial)
  first_bind [] next trial = refl
  first_bind (o ∷ os) next trial =
      first_append (next o.end o.rows) (bind os next) trial
      ∙ ap (before (first_of (next o.end o.rows) trial)) (first_bind os next trial)

  -- a trial that never gives an answer
  pub first_never : (os : List Outcome) → first_of os (λ p rows. none) ≡ none
  first_never [] = refl
  first_never (o ∷ os) = first_never os

-- the trial "here is the line's end" picks what a whole match picks
abbrev pub ends_at : ℕ → Trial
ends_at n p rows = cond (eqb p n) (some rows) none

-- with that trial the first success is the whole match
pub first_end : (n : ℕ) (os : List Outcome) → first_of os (ends_at n) ≡ first_ending_at n os
first_end n [] = refl
first_end n (o ∷ os) = look (eqb o.end n) (first_end n os)
  where
    look : (b : Bool) → first_of os (ends_at n) ≡ first_ending_at n os
        → before (cond b (some o.rows) none) (first_of os (ends_at n)) ≡ cond b (some o.rows) (first_ending_at n os)
    look true same = refl
    look false same = same
