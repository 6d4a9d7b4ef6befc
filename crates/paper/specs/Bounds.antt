-- The bounds on the steps: of a whole match, of a search, and of all searches of a replace-all together.
use Rattle.std.specs.Prelude.{ℕ, ◌+◌, ◌*◌, ◌/◌, max}
use Rattle.paper.specs.Limits.{pattern_levels, pattern_places, line_bytes, wrap_places}
use Rattle.paper.specs.Pattern.{Pattern, all_places, depth}

-- Reading 4: a search has ten places more, and a depth of at least 1
abbrev pub search_places : Pattern → ℕ
search_places e = all_places e + wrap_places

abbrev pub search_depth : Pattern → ℕ
search_depth e = max 1 (depth e)

-- Demand 3: places × (depth + 1) × (line length + 1), for a line of n bytes
abbrev pub match_bound : Pattern → ℕ → ℕ
match_bound e n = all_places e * (depth e + 1) * (n + 1)

abbrev pub search_bound : Pattern → ℕ → ℕ
search_bound e n = search_places e * (search_depth e + 1) * (n + 1)

-- Replace 2: the same with (n + 1) × (n + 2) / 2, a search's bound summed over the positions from which it can start
abbrev pub replace_bound : Pattern → ℕ → ℕ
replace_bound e n = search_places e * (search_depth e + 1) * ((n + 1) * (n + 2) / 2)

-- the most steps of a match or a search that the limits allow, so that refusal 14 is never given
abbrev pub most_steps : ℕ
most_steps = (pattern_places + wrap_places) * pattern_levels * (line_bytes + 1)
