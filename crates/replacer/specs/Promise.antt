-- The promise of replace-all: the answer, the lent buffer afterwards, and the bound on the sum of the steps.
use Rattle.std.specs.Prelude.{ℕ, ◌≤◌, ◌≡◌, Result, List, length}
use Rattle.paper.specs.Refusal.{accepted}
use Rattle.paper.specs.Pattern.{Pattern}
use Rattle.paper.specs.Check.{pattern_of}
use Rattle.paper.specs.Bounds.{replace_bound}
use Rattle.paper.specs.Replace.{replace_call, replace_answer, buffer_after}
use Rattle.pattern.specs.declared.Refused.{Refused}
use Rattle.replacer.specs.declared.Replaced.{Replaced}
use Rattle.replacer.specs.Answer.{answer_of, steps_told}

-- the refusals in their order, else length, replacements and steps of the scan; its output stands at the buffer's front, and what stood behind
-- stays; a refusal leaves the buffer as it was; the steps are at most a search's bound summed over the line's positions
pub record Replaces (pattern template line lent : List ℕ) (r : Result Replaced Refused) (after : List ℕ) : Type 0 where
  pub answer : answer_of r ≡ replace_answer (replace_call pattern template line lent)
  pub buffer : after ≡ buffer_after (replace_call pattern template line lent) lent
  pub bound : (e : Pattern) → pattern_of pattern ≡ accepted e
      → steps_told r ≤ replace_bound e (length line)
