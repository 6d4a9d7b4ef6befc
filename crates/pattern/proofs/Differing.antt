-- Two answers are told apart by what they are read as: a refusal by its number, and an answer by its refusal or by what was answered.
use Prim.Native.Nat.{ℕ}
use mathlib.Core.Path.{◌≡◌, sym, refl, ap, ◌∙◌}
use mathlib.Core.Bool.{cond}
use lib.Dec.{eqb}
use Rattle.std.proofs.Common.{Result, Ok, Err}
use Rattle.pattern.specs.declared.Refusal.{Refusal}
use Rattle.pattern.specs.declared.Refusal.TheVariants.{PatternTooLong, BrokenRecord, UnknownKind, SetWrong, RepeatWrong, TooDeep, TooManyGroups, TooManyPlaces, TemplateWrong, ReferenceTooHigh, LineTooLong, TableTooShort, OutputTooLong, TooManySteps, RowWrong, NoSuchPiece}
use Rattle.pattern.specs.declared.Refused.{Refused}
use Rattle.pattern.specs.Refusals.{number_of, checked_of}

-- the refusal that has a number
abbrev refusal_of : ℕ → Refusal
refusal_of n =
    cond (eqb n 1) PatternTooLong (
    cond (eqb n 2) BrokenRecord (
    cond (eqb n 3) UnknownKind (
    cond (eqb n 4) SetWrong (
    cond (eqb n 5) RepeatWrong (
    cond (eqb n 6) TooDeep (
    cond (eqb n 7) TooManyGroups (
    cond (eqb n 8) TooManyPlaces (
    cond (eqb n 9) TemplateWrong (
    cond (eqb n 10) ReferenceTooHigh (
    cond (eqb n 11) LineTooLong (
    cond (eqb n 12) TableTooShort (
    cond (eqb n 13) OutputTooLong (
    cond (eqb n 14) TooManySteps (
    cond (eqb n 15) RowWrong NoSuchPiece))))))))))))))

back : (r : Refusal) → refusal_of (number_of r) ≡ r
back PatternTooLong = refl
back BrokenRecord = refl
back UnknownKind = refl
back SetWrong = refl
back RepeatWrong = refl
back TooDeep = refl
back TooManyGroups = refl
back TooManyPlaces = refl
back TemplateWrong = refl
back ReferenceTooHigh = refl
back LineTooLong = refl
back TableTooShort = refl
back OutputTooLong = refl
back TooManySteps = refl
back RowWrong = refl
back NoSuchPiece = refl

-- no two refusals have one number
pub refusals_differ : (a b : Refusal) → number_of a ≡ number_of b → a ≡ b
refusals_differ a b is = sym (back a) ∙ ap refusal_of is ∙ back b

-- no two answers are read alike, where no two things that were answered are
pub checked_differ : {A B : Type 0} (in_words : A → B) → ((a b : A) → in_words a ≡ in_words b → a ≡ b)
    → (a b : Result A Refused) → checked_of in_words a ≡ checked_of in_words b → a ≡ b
checked_differ in_words differ (Ok a) (Ok b) is =
    let same : in_words a ≡ in_words b = cc in
    ap Ok (differ a b same)
checked_differ in_words differ (Ok a) (Err b) is = cc
checked_differ in_words differ (Err a) (Ok b) is = cc
checked_differ in_words differ (Err a) (Err b) is =
    let number : number_of a.refusal ≡ number_of b.refusal = cc in
    let place : a.place ≡ b.place = cc in
    let refusal = refusals_differ a.refusal b.refusal number in
    λ i. Err (record { refusal = refusal i; place = place i })
