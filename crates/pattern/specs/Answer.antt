-- The answer of checking a pattern, read as `paper`'s, and the promise that cites it.
use Rattle.std.specs.Prelude.{ℕ, ◌≡◌, List, ◌↔◌, Result}
use Rattle.paper.specs.Refusal.{Checked, accepted}
use Rattle.paper.specs.Pattern.{Pattern}
use Rattle.paper.specs.Layout.{record_of, Lawful}
use Rattle.paper.specs.Check.{Numbers, numbers_of, check}
use Rattle.pattern.specs.declared.Numbers as declared
use Rattle.pattern.specs.declared.Refused.{Refused}
use Rattle.pattern.specs.Refusals.{checked_of}

abbrev pub in_words : declared.Numbers → Numbers
in_words n = record { places = n.places; depth = n.depth; groups = n.groups }

-- the number and the place of a refusal, or the three numbers
abbrev pub answer_of : Result declared.Numbers Refused → Checked Numbers
answer_of = checked_of in_words

-- the promise of `check`: the answer is `paper`'s; and numbers are answered exactly where the bytes are the record of a lawful tree, whose numbers they are
pub record Checks (bs : List ℕ) (r : Result declared.Numbers Refused) : Type 0 where
  pub answer : answer_of r ≡ check bs
  pub lawful : (numbers : Numbers) → (answer_of r ≡ accepted numbers) ↔ ((e : Pattern) × Lawful e × (record_of e ≡ bs) × (numbers_of e ≡ numbers))
