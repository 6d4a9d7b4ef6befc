-- What a whole match and a search find, read as `paper`'s.
use Rattle.std.specs.Prelude.{ℕ, ◌≤◌, ◌≡◌, Bool, leb, Result, Ok, Err}
use Rattle.paper.specs.Refusal.{Checked, accepted, ◌>>◌, holds, too_many_steps}
use Rattle.paper.specs.Limits.{step_limit}
use Rattle.paper.specs.Match.{Told}
use Rattle.paper.specs.Bounds.{most_steps}
use Rattle.pattern.specs.declared.Refused.{Refused}
use Rattle.pattern.specs.Refusals.{checked_of}
use Rattle.matcher.specs.declared.Found.{Found}

abbrev pub in_words : Found → Told
in_words found = record { matched = found.matched; steps = found.steps }

-- the number and the place of a refusal, or whether there is a match, and the steps
abbrev pub answer_of : Result Found Refused → Checked Told
answer_of = checked_of in_words

-- the steps that an answer tells
abbrev pub steps_told : Result Found Refused → ℕ
steps_told (Err refused) = 0
steps_told (Ok found) = found.steps

-- the answer that tells the steps of a match or of none: refused by 14 where they are too many to tell, and never within the limits
pub record TellsSteps (matched : Bool) (steps : ℕ) (r : Result Found Refused) : Type 0 where
  pub answer : answer_of r ≡ (holds (leb steps step_limit) too_many_steps 0 >> accepted (record { matched = matched; steps = steps }))
  pub never : steps ≤ most_steps → answer_of r ≡ accepted (record { matched = matched; steps = steps })
