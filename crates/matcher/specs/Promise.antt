-- The promises of the two public calls: the answer, the lent table afterwards, and the bound on the steps told.
use Rattle.std.specs.Prelude.{ℕ, ◌≤◌, ◌≡◌, Bool, true, false, List, length, Result}
use Rattle.paper.specs.Refusal.{accepted}
use Rattle.paper.specs.Pattern.{Pattern}
use Rattle.paper.specs.Check.{pattern_of}
use Rattle.paper.specs.Match.{match_call, search_call, table_after, told}
use Rattle.paper.specs.Bounds.{match_bound, search_bound}
use Rattle.pattern.specs.declared.Refused.{Refused}
use Rattle.matcher.specs.declared.Found.{Found}
use Rattle.matcher.specs.Answer.{answer_of, steps_told}

-- the promise of a whole match: its refusals, else the rows of the ordered reading in the table and the steps of the list machine
pub record Matches (pattern line lent : List ℕ) (r : Result Found Refused) (after : List ℕ) : Type 0 where
  pub answer : answer_of r ≡ told (match_call pattern line lent)
  pub table : after ≡ table_after (match_call pattern line lent) lent
  pub bound : (e : Pattern) → pattern_of pattern ≡ accepted e → steps_told r ≤ match_bound e (length line)

-- the promise of a search: the same of the pattern with the wrap around it
pub record Searches (pattern line lent : List ℕ) (r : Result Found Refused) (after : List ℕ) : Type 0 where
  pub answer : answer_of r ≡ told (search_call pattern line lent)
  pub table : after ≡ table_after (search_call pattern line lent) lent
  pub bound : (e : Pattern) → pattern_of pattern ≡ accepted e → steps_told r ≤ search_bound e (length line)

-- the promise of the one or of the other
abbrev pub Answers : Bool → List ℕ → List ℕ → List ℕ → Result Found Refused → List ℕ → Type 0
Answers false pattern line lent r after = Matches pattern line lent r after
Answers true pattern line lent r after = Searches pattern line lent r after
