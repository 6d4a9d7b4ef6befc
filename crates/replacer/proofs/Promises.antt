-- What the promise of replace-all allows and shuts out: one answer and one buffer for each call, and on 01's case 14 no answer that replaces
-- the first match only, refuses, or replaces nothing.
use Prim.Native.Nat.{ℕ}
use mathlib.Core.Path.{◌≡◌, sym, ap, ◌∙◌}
use mathlib.Core.List.{List, [], ◌∷◌}
use native.Mathlib.Omega.{arith}
use lib.ListN.{replicate, get_or}
use Rattle.paper.specs.Refusal.{Checked, refused, accepted}
use Rattle.paper.specs.Replace as paper
use Rattle.std.proofs.Common.{Result, Ok, Err}
use Rattle.pattern.specs.declared.Refused.{Refused}
use Rattle.pattern.proofs.Differing.{checked_differ}
use Rattle.replacer.specs.declared.Replaced.{Replaced}
use Rattle.replacer.specs.Answer.{replaced_of, answer_of}
use Rattle.replacer.specs.Promise.{Replaces}

-- ---- one answer

-- the replacements of an answer
abbrev replaced_in : Checked paper.Replaced → ℕ
replaced_in (refused number place) = 0
replaced_in (accepted r) = r.replaced

-- no two replacings are read alike
replaced_differ : (a b : Replaced) → replaced_of a ≡ replaced_of b → a ≡ b
replaced_differ a b is =
    λ i. record {
      length = ap (λ (r : paper.Replaced). r.output_length) is i;
      replacements = ap (λ (r : paper.Replaced). r.replaced) is i;
      steps = ap (λ (r : paper.Replaced). r.steps) is i;
    }

-- no two answers are read alike
pub answers_differ : (a b : Result Replaced Refused) → answer_of a ≡ answer_of b → a ≡ b
answers_differ a b is = checked_differ replaced_of replaced_differ a b is

-- the promise allows one answer and one buffer
pub one_replaced : (pattern template line lent : List ℕ) (a b : Result Replaced Refused) (after after' : List ℕ) → Replaces pattern template line lent a after
    → Replaces pattern template line lent b after' → (a ≡ b) × (after ≡ after')
one_replaced pattern template line lent a b after after' first second =
    (answers_differ a b (first.answer ∙ sym second.answer), first.buffer ∙ sym second.buffer)

-- ---- 01's case 14: ([A-Za-z]+) ([A-Za-z]+) by "$2, $1" in "Don Knuth; Alan Turing", into a buffer of 24 bytes

abbrev words : List ℕ
words =
    50 ∷ 0 ∷ 4 ∷ 0 ∷ 18 ∷ 0 ∷ 3 ∷ 0 ∷ 14 ∷ 0 ∷ 6 ∷ 0 ∷ 1 ∷ 0 ∷ 255 ∷ 255 ∷ 0 ∷ 0 ∷ 4 ∷ 0 ∷ 2 ∷ 0 ∷ 65 ∷ 90 ∷ 97 ∷ 122 ∷ 2 ∷ 0 ∷ 2 ∷ 0 ∷ 32 ∷ 32 ∷ 18 ∷ 0 ∷ 3 ∷ 0 ∷ 14
    ∷ 0 ∷ 6 ∷ 0 ∷ 1 ∷ 0 ∷ 255 ∷ 255 ∷ 0 ∷ 0 ∷ 4 ∷ 0 ∷ 2 ∷ 0 ∷ 65 ∷ 90 ∷ 97 ∷ 122 ∷ []

abbrev turned : List ℕ
turned = 2 ∷ 0 ∷ 33 ∷ 0 ∷ 2 ∷ 0 ∷ 2 ∷ 0 ∷ 32 ∷ 0 ∷ 44 ∷ 32 ∷ 2 ∷ 0 ∷ 33 ∷ 0 ∷ 1 ∷ 0 ∷ []

abbrev names : List ℕ
names = 68 ∷ 111 ∷ 110 ∷ 32 ∷ 75 ∷ 110 ∷ 117 ∷ 116 ∷ 104 ∷ 59 ∷ 32 ∷ 65 ∷ 108 ∷ 97 ∷ 110 ∷ 32 ∷ 84 ∷ 117 ∷ 114 ∷ 105 ∷ 110 ∷ 103 ∷ []

-- "Knuth, Don; Turing, Alan"
abbrev both_turned : List ℕ
both_turned =
    75 ∷ 110 ∷ 117 ∷ 116 ∷ 104 ∷ 44 ∷ 32 ∷ 68 ∷ 111 ∷ 110 ∷ 59 ∷ 32 ∷ 84 ∷ 117 ∷ 114 ∷ 105 ∷ 110 ∷ 103 ∷ 44 ∷ 32 ∷ 65 ∷ 108 ∷ 97 ∷ 110 ∷ []

-- "Knuth, Don; Alan Turing", and the byte that stood behind
abbrev first_turned : List ℕ
first_turned =
    75 ∷ 110 ∷ 117 ∷ 116 ∷ 104 ∷ 44 ∷ 32 ∷ 68 ∷ 111 ∷ 110 ∷ 59 ∷ 32 ∷ 65 ∷ 108 ∷ 97 ∷ 110 ∷ 32 ∷ 84 ∷ 117 ∷ 114 ∷ 105 ∷ 110 ∷ 103 ∷ 7 ∷ []

-- the promise there: both matches are replaced
pub both_replaced : (r : Result Replaced Refused) (after : List ℕ) → Replaces words turned names (replicate 24 7) r after
    → (r ≡ Ok (record { length = 24; replacements = 2; steps = 654 })) × (after ≡ both_turned)
both_replaced r after promise = (answers_differ r (Ok (record { length = 24; replacements = 2; steps = 654 })) promise.answer, promise.buffer)

-- so one that replaces the first match and copies the rest breaks it, by its count and by its output
pub first_only_counted : (long steps : ℕ) (after : List ℕ) → Replaces words turned names (replicate 24 7) (Ok (record { length = long; replacements = 1; steps = steps })) after → ⊥
first_only_counted long steps after promise =
    let wrong : ◌≡◌ {A = ℕ} 1 2 = ap replaced_in promise.answer in
    omega arith

pub first_only_written : (r : Result Replaced Refused) → Replaces words turned names (replicate 24 7) r first_turned → ⊥
first_only_written r promise =
    let wrong : ◌≡◌ {A = ℕ} 65 84 = ap (λ (l : List ℕ). get_or l 12 0) promise.buffer in
    omega arith

-- and so do one that refuses everything, and one that replaces nothing
pub refuses_all : (r : Refused) (after : List ℕ) → Replaces words turned names (replicate 24 7) (Err r) after → ⊥
refuses_all r after promise =
    let wrong : ◌≡◌ {A = ℕ} 0 2 = ap replaced_in promise.answer in
    omega arith

pub replaces_none : (long steps : ℕ) (after : List ℕ) → Replaces words turned names (replicate 24 7) (Ok (record { length = long; replacements = 0; steps = steps })) after → ⊥
replaces_none long steps after promise =
    let wrong : ◌≡◌ {A = ℕ} 0 2 = ap replaced_in promise.answer in
    omega arith
