-- How many places a table has room for, and what its numbers can be.
use Rattle.std.specs.Prelude.{ℕ, ◌+◌, ◌*◌}
use Rattle.paper.specs.Limits.{pattern_places, wrap_places}
use Rattle.paper.specs.Tables.{place_numbers}

-- the places of the largest pattern with a search's wrap around it
abbrev pub most_places : ℕ
most_places = pattern_places + wrap_places

-- the table has room for them
abbrev pub table_room : ℕ
table_room = place_numbers * most_places

-- what a number of a place can be
abbrev pub most_number : ℕ
most_number = 65535
