-- How an answer is told to C: a status, and numbers at the front of a lent `out`.
use Rattle.std.specs.Prelude.{ℕ, ◌≤◌, ◌≡◌, Bool, true, false, List, [], ◌∷◌, ◌++◌, length, drop, Result}
use Rattle.paper.specs.Refusal.{Checked, refused, accepted, ◌>>=◌}
use Rattle.paper.specs.Check.{Numbers}
use Rattle.paper.specs.Match.{Told}
use Rattle.paper.specs.Replace.{Replaced}
use Rattle.paper.specs.PieceCalls.{Source, from_template, from_line, Span}
use Rattle.pattern.specs.declared.Numbers as declared
use Rattle.pattern.specs.declared.Refused.{Refused}
use Rattle.pattern.specs.Answer.{answer_of}

-- the status of a call that was not refused
abbrev pub answered : ℕ
answered = 0

-- a refusal's number is one of the sixteen, so that a status says which answer it is of
abbrev pub Numbered : {A : Type 0} → Checked A → Type 0
Numbered (refused number place) = (1 ≤ number) × (number ≤ 16)
Numbered (accepted a) = Unit {0}

-- the status of an answer
abbrev pub status_of : Checked (List ℕ) → ℕ
status_of (refused number place) = number
status_of (accepted numbers) = answered

-- numbers at the front of a list; those after them stay
abbrev pub at_front : List ℕ → List ℕ → List ℕ
at_front numbers out = numbers ++ drop (length numbers) out

-- `out` after an answer: its numbers, or a refusal's place
abbrev pub out_after : Checked (List ℕ) → List ℕ → List ℕ
out_after (refused number place) out = at_front (place ∷ []) out
out_after (accepted numbers) out = at_front numbers out

-- an answer is told
pub record Tells (answer : Checked (List ℕ)) (out : List ℕ) (status : ℕ) (after : List ℕ) : Type 0 where
  pub numbered : Numbered answer
  pub status_is : status ≡ status_of answer
  pub out_is : after ≡ out_after answer out

-- the numbers of each answer, in their order: places, depth, groups
abbrev pub check_numbers : Checked Numbers → Checked (List ℕ)
check_numbers answer = answer >>= λ n. accepted (n.places ∷ n.depth ∷ n.groups ∷ [])

-- 1 for yes, 0 for no
abbrev pub flag : Bool → ℕ
flag true = 1
flag false = 0

-- whether there is a match, and the steps
abbrev pub found_numbers : Checked Told → Checked (List ℕ)
found_numbers answer = answer >>= λ t. accepted (flag t.matched ∷ t.steps ∷ [])

-- where the part stands, its start and its end
abbrev pub source_number : Source → ℕ
source_number from_template = 0
source_number from_line = 1

abbrev pub span_numbers : Checked Span → Checked (List ℕ)
span_numbers answer = answer >>= λ s. accepted (source_number s.source ∷ s.start ∷ s.end ∷ [])

-- the output's length, the replacements and the steps
abbrev pub replaced_numbers : Checked Replaced → Checked (List ℕ)
replaced_numbers answer = answer >>= λ s. accepted (s.output_length ∷ s.replaced ∷ s.steps ∷ [])

-- a built machine's places and depth, and the pattern's groups
abbrev pub built_numbers : Result declared.Numbers Refused → Checked (List ℕ)
built_numbers answer = check_numbers (answer_of answer)
