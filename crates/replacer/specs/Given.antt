-- What the inner functions are given: a pattern and a template that were accepted.
use Rattle.std.specs.Prelude.{ℕ, ◌≡◌, List}
use Rattle.paper.specs.Refusal.{accepted}
use Rattle.paper.specs.Pattern.{Pattern, groups}
use Rattle.paper.specs.Check.{pattern_of}
use Rattle.paper.specs.Template.{within}
use Rattle.paper.specs.Replace.{Scanned, replace_all}
use Rattle.turns.specs.Accepted.{accepted_or, pieces_of}

-- a pattern's tree
abbrev pub tree_of : List ℕ → Pattern
tree_of pattern = accepted_or Pattern.empty (pattern_of pattern)

-- a template's references are within the pattern's groups
abbrev pub Low : List ℕ → List ℕ → Type 0
Low pattern template = within (pieces_of template) (groups (tree_of pattern)) ≡ accepted tt

-- what replace-all gives for an accepted pattern and template
abbrev pub whole_of : List ℕ → List ℕ → List ℕ → Scanned
whole_of pattern template line = replace_all (tree_of pattern) template (pieces_of template) line
