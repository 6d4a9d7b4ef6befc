-- What a search of the scan and the scan of the whole line promise.
use Rattle.std.specs.Prelude.{ℕ, ◌≡◌, Option, List, drop}
use Rattle.paper.specs.Match.{search_steps}
use Rattle.paper.specs.ScanTurn.{turn_at}
use Rattle.turns.specs.declared.Turn.{Turn}
use Rattle.turns.specs.Turn.{option_of, as_turn}
use Rattle.replacer.specs.declared.scans.Scanned.{Scanned}
use Rattle.replacer.specs.Given.{tree_of, whole_of}

-- the turn of the search from a position, after a non-empty match that ended there or elsewhere
pub record Turns (pattern line : List ℕ) (from : ℕ) (last : Option ℕ) (r : Turn) : Type 0 where
  pub same : as_turn r ≡ turn_at (tree_of pattern) line from (option_of last)
  pub counted : r.steps ≡ search_steps (tree_of pattern) (drop from line)

-- the replacements and the sum of the steps
pub record Counts (pattern template line : List ℕ) (r : Scanned) : Type 0 where
  pub replaced : r.replacements ≡ (whole_of pattern template line).replaced
  pub stepped : r.steps ≡ (whole_of pattern template line).steps
