-- The bytes of a pattern, and which patterns keep 01's table and limits.
use Rattle.std.specs.Prelude.{ℕ, ◌+◌, ◌/◌, ◌%◌, ◌≤◌, ◌<◌, List, [], ◌∷◌, ◌++◌, length}
use Rattle.paper.specs.Limits.{pattern_bytes, pattern_levels, pattern_groups, pattern_places, set_pairs, repeat_count, no_upper_end}
use Rattle.paper.specs.Pattern.{Mode, greedy, lazy, Upper, up_to, no_end, Range, Pattern, Members, all_places, groups, levels}
use Rattle.paper.specs.Pattern.Pattern.{nothing, empty, bytes, group, sequence, alternation, repeat}
use Rattle.paper.specs.Pattern.Members.{two, more}

-- Patterns 1: a number as two bytes, the lower one first
abbrev pub two_bytes : ℕ → List ℕ
two_bytes n = n % 256 ∷ n / 256 % 256 ∷ []

-- Patterns 1: a record is its body's length, its kind and its body
abbrev pub record_bytes : ℕ → List ℕ → List ℕ
record_bytes kind body = two_bytes (length body) ++ two_bytes kind ++ body

-- Patterns 2, table, first column: the kinds that a pattern's record can be of
pub data Kind : Type 0 where
  nothing_kind empty_kind bytes_kind group_kind sequence_kind alternation_kind repeat_kind : Kind

abbrev pub kind_number : Kind → ℕ
kind_number nothing_kind = 0
kind_number empty_kind = 1
kind_number bytes_kind = 2
kind_number group_kind = 3
kind_number sequence_kind = 4
kind_number alternation_kind = 5
kind_number repeat_kind = 6

abbrev pub kinds : List Kind
kinds = nothing_kind ∷ empty_kind ∷ bytes_kind ∷ group_kind ∷ sequence_kind ∷ alternation_kind ∷ repeat_kind ∷ []

-- Patterns 3: the numbers that a repeat's body begins with
abbrev pub upper_number : Upper → ℕ
upper_number (up_to most) = most
upper_number no_end = no_upper_end

abbrev pub mode_number : Mode → ℕ
mode_number greedy = 0
mode_number lazy = 1

abbrev pub repeat_bytes : ℕ → Upper → Mode → List ℕ
repeat_bytes least upper mode = two_bytes least ++ two_bytes (upper_number upper) ++ two_bytes (mode_number mode)

-- Patterns 2, table, kind 2: a byte set's body
abbrev pub range_bytes : List Range → List ℕ
range_bytes [] = []
range_bytes (r ∷ rs) = r.low ∷ r.high ∷ range_bytes rs

-- Patterns 2, table, third column: the record of a pattern
abbrev mutual
  pub record_of : Pattern → List ℕ
  record_of nothing = record_bytes (kind_number nothing_kind) []
  record_of empty = record_bytes (kind_number empty_kind) []
  record_of (bytes ranges) = record_bytes (kind_number bytes_kind) (range_bytes ranges)
  record_of (group e) = record_bytes (kind_number group_kind) (record_of e)
  record_of (sequence ms) = record_bytes (kind_number sequence_kind) (records_of ms)
  record_of (alternation ms) = record_bytes (kind_number alternation_kind) (records_of ms)
  record_of (repeat least upper mode e) = record_bytes (kind_number repeat_kind) (repeat_bytes least upper mode ++ record_of e)

  pub records_of : Members → List ℕ
  records_of (two a b) = record_of a ++ record_of b
  records_of (more a ms) = record_of a ++ records_of ms

-- Patterns 2, table, kind 2: each low at most its high, both bytes, and at least 2 above the high before it
abbrev pub Apart : List Range → Type 0
Apart [] = Unit {0}
Apart (r ∷ []) = (r.low ≤ r.high) × (r.high < 256)
Apart (r ∷ s ∷ rs) = (r.low ≤ r.high) × (r.high + 2 ≤ s.low) × Apart (s ∷ rs)

-- Patterns 3: the least at most 255, the most at most 255 or without end, the least at most the most
abbrev pub CountsRight : ℕ → Upper → Type 0
CountsRight least (up_to most) = (least ≤ most) × (most ≤ repeat_count)
CountsRight least no_end = least ≤ repeat_count

-- Patterns 2 and 3: every byte set and every repeat in the tree is as the table and the paragraph below it say
abbrev mutual
  pub WellMade : Pattern → Type 0
  WellMade nothing = Unit {0}
  WellMade empty = Unit {0}
  WellMade (bytes ranges) = (1 ≤ length ranges) × (length ranges ≤ set_pairs) × Apart ranges
  WellMade (group e) = WellMade e
  WellMade (sequence ms) = AllWellMade ms
  WellMade (alternation ms) = AllWellMade ms
  WellMade (repeat least upper mode e) = CountsRight least upper × WellMade e

  pub AllWellMade : Members → Type 0
  AllWellMade (two a b) = WellMade a × WellMade b
  AllWellMade (more a ms) = WellMade a × AllWellMade ms

-- Patterns 2 to 4: the patterns that 01 takes
pub record Lawful (e : Pattern) : Type 0 where
  pub well_made : WellMade e
  pub few_levels : levels e ≤ pattern_levels
  pub few_groups : groups e ≤ pattern_groups
  pub few_places : all_places e ≤ pattern_places
  pub few_bytes : length (record_of e) ≤ pattern_bytes
