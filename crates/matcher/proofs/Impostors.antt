-- What the promises shut out: answers that look safe and say nothing. Each is false of a named input, because the definitions' answer there is computed.
use Prim.Native.Nat.{ℕ}
use native.Mathlib.Omega.{arith}
use mathlib.Core.Path.{◌≡◌, refl, sym, ap}
use mathlib.Core.Bool.{Bool, true, false, true≢false}
use mathlib.Core.List.{List, [], ◌∷◌}
use lib.ListN.{length, get_or}
use Rattle.paper.specs.Refusal.{Checked, refused, accepted, ◌>>=◌}
use Rattle.paper.specs.Bounds.{match_bound}
use Rattle.paper.specs.Check.{pattern_of}
use Rattle.paper.specs.Match.{Told}
use Rattle.paper.proofs.known.Known.{lent}
use Rattle.std.specs.Prelude.{Result, Ok, Err}
use Rattle.pattern.specs.declared.Refused.{Refused}
use Rattle.matcher.specs.declared.Found.{Found}
use Rattle.matcher.specs.Promise.{Matches, Searches}

-- case 4: the pattern a and the line "a"
abbrev a : List ℕ
a = 2 ∷ 0 ∷ 2 ∷ 0 ∷ 97 ∷ 97 ∷ []

abbrev line_a : List ℕ
line_a = 97 ∷ []

-- case 5: the pattern a* and the empty line
abbrev many_a : List ℕ
many_a = 12 ∷ 0 ∷ 6 ∷ 0 ∷ 0 ∷ 0 ∷ 255 ∷ 255 ∷ 0 ∷ 0 ∷ 2 ∷ 0 ∷ 2 ∷ 0 ∷ 97 ∷ 97 ∷ []

-- whether an answer tells of a match, and its steps
abbrev tells_match : Checked Told → Bool
tells_match (refused number place) = false
tells_match (accepted t) = t.matched

abbrev tells_steps : Checked Told → ℕ
tells_steps (refused number place) = 0
tells_steps (accepted t) = t.steps

-- One that refuses everything

pub refuses_all : (e : Refused) (after : List ℕ) → Matches a line_a lent (Err e) after → ⊥
refuses_all e after p = true≢false (sym (ap tells_match p.answer))

pub refuses_all_searches : (e : Refused) (after : List ℕ) → Searches a line_a lent (Err e) after → ⊥
refuses_all_searches e after p = true≢false (sym (ap tells_match p.answer))

-- One that says "no match" to all

pub none_to_all : (steps : ℕ) (after : List ℕ) → Matches a line_a lent (Ok (record { matched = false; steps = steps })) after → ⊥
none_to_all steps after p = true≢false (sym (ap tells_match p.answer))

pub none_to_all_searches : (steps : ℕ) (after : List ℕ) → Searches a line_a lent (Ok (record { matched = false; steps = steps })) after → ⊥
none_to_all_searches steps after p = true≢false (sym (ap tells_match p.answer))

-- One that leaves the table untouched: its first number was 1, and row 0 starts at 0

one_not_zero : ◌≡◌ {A = ℕ} 1 0 → ⊥
one_not_zero e = omega arith

pub table_untouched : (r : Result Found Refused) → Matches a line_a lent r lent → ⊥
table_untouched r p = one_not_zero (ap (λ (l : List ℕ). get_or l 0 0) p.table)

pub table_untouched_searches : (r : Result Found Refused) → Searches a line_a lent r lent → ⊥
table_untouched_searches r p = one_not_zero (ap (λ (l : List ℕ). get_or l 0 0) p.table)

-- One that reports the bound as its count: on case 5 the bound is 10, and there are 4 steps

pub bound_is_ten : (pattern_of many_a >>= λ e. accepted (match_bound e (length {A = ℕ} []))) ≡ accepted 10
bound_is_ten = refl

ten_not_four : ◌≡◌ {A = ℕ} 10 4 → ⊥
ten_not_four e = omega arith

pub bound_as_count : (after : List ℕ) → Matches many_a [] lent (Ok (record { matched = true; steps = 10 })) after → ⊥
bound_as_count after p = ten_not_four (ap tells_steps p.answer)
