-- The limits, each named once. "Patterns 4" below means 01, section "Pattern records", paragraph 4 (a table or a list counts as one), and so on for the other sections; docs/MAP.md tells them all.
use Rattle.std.specs.Prelude.{ℕ, ◌+◌, ◌*◌}

-- Patterns 4: the longest pattern, in bytes
abbrev pub pattern_bytes : ℕ
pattern_bytes = 4096

-- Patterns 4: how many records may stand inside one another, the outermost counted
abbrev pub pattern_levels : ℕ
pattern_levels = 16

-- Patterns 4: the most groups
abbrev pub pattern_groups : ℕ
pattern_groups = 9

-- Patterns 4: the most places, the accepting one counted
abbrev pub pattern_places : ℕ
pattern_places = 500

-- Patterns 4: the longest template, in bytes
abbrev pub template_bytes : ℕ
template_bytes = 1024

-- Patterns 4: the longest line, in bytes
abbrev pub line_bytes : ℕ
line_bytes = 65534

-- Patterns 2, table, kind 2: the most pairs of a byte set
abbrev pub set_pairs : ℕ
set_pairs = 32

-- Patterns 3: the greatest count that a repeat can name
abbrev pub repeat_count : ℕ
repeat_count = 255

-- Patterns 3: the number that stands for no upper end
abbrev pub no_upper_end : ℕ
no_upper_end = 65535

-- Reading 4: the places that a search has more than its pattern
abbrev pub wrap_places : ℕ
wrap_places = 10

-- Reading 5: a row for the match and one for each group
abbrev pub row_count : ℕ
row_count = pattern_groups + 1

-- Reading 5: the span table's numbers, a start and an end for each row
abbrev pub table_numbers : ℕ
table_numbers = 2 * row_count

-- Reading 5: the number that both ends of an absent row hold
abbrev pub absent : ℕ
absent = 65535

-- Refusals 1, table, 14: the greatest step count that can be told
abbrev pub step_limit : ℕ
step_limit = 4294967295
