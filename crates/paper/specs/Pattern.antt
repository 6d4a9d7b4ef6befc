-- A pattern as a tree, and the numbers that 01 gives it: places, depth, groups.
-- No group is numbered in the tree. A function that needs numbers takes the number of the first group inside.
use Rattle.std.specs.Prelude.{ℕ, suc, ◌+◌, ◌-◌, ◌*◌, max, Bool, true, cond, List, ltb}

-- Patterns 3: mode 0 and mode 1
pub data Mode : Type 0 where
  greedy lazy : Mode

-- Patterns 3: the most passes of a repeat, or no upper end
pub data Upper : Type 0 where
  up_to : ℕ → Upper
  no_end : Upper

-- Patterns 2, table, kind 2: a range of bytes, both ends in it
pub record Range : Type 0 where
  pub low : ℕ
  pub high : ℕ

-- Patterns 2, table: the seven kinds of record. Kinds 4 and 5 hold two or more records, so their members are two, or one before more
mutual
  pub data Pattern : Type 0 where
    nothing : Pattern
    empty : Pattern
    bytes : List Range → Pattern
    group : Pattern → Pattern
    sequence : Members → Pattern
    alternation : Members → Pattern
    repeat : ℕ → Upper → Mode → Pattern → Pattern

  pub data Members : Type 0 where
    two : Pattern → Pattern → Members
    more : Pattern → Members → Members

-- Patterns 2, table, kind 5: k, the number of members
abbrev pub count : Members → ℕ
count (two a b) = 2
count (more a ms) = suc (count ms)

-- Patterns 3: the places of a repeat of something that has e places
abbrev pub repeat_places : ℕ → Upper → ℕ → ℕ
repeat_places least (up_to most) e = least * (1 + e) + (most - least) * (3 + e)
repeat_places least no_end e = least * (1 + e) + (3 + e)

-- Patterns 2, table, last column: the expanded places of a record, without the accepting place
abbrev mutual
  pub places : Pattern → ℕ
  places nothing = 1
  places empty = 0
  places (bytes ranges) = 1
  places (group e) = 2 + places e
  places (sequence ms) = places_of_all ms
  places (alternation ms) = places_of_all ms + (count ms - 1)
  places (repeat least upper mode e) = repeat_places least upper (places e)

  pub places_of_all : Members → ℕ
  places_of_all (two a b) = places a + places b
  places_of_all (more a ms) = places a + places_of_all ms

-- Patterns 3: the places of the pattern, those of its record and one to accept
abbrev pub all_places : Pattern → ℕ
all_places e = places e + 1

-- Patterns 3: a repeat counts for the depth where its least is below its most
abbrev pub has_optional : ℕ → Upper → Bool
has_optional least (up_to most) = ltb least most
has_optional least no_end = true

-- Patterns 3: the most such repeats that stand inside one another
abbrev mutual
  pub depth : Pattern → ℕ
  depth nothing = 0
  depth empty = 0
  depth (bytes ranges) = 0
  depth (group e) = depth e
  depth (sequence ms) = depth_of_all ms
  depth (alternation ms) = depth_of_all ms
  depth (repeat least upper mode e) = cond (has_optional least upper) (suc (depth e)) (depth e)

  pub depth_of_all : Members → ℕ
  depth_of_all (two a b) = max (depth a) (depth b)
  depth_of_all (more a ms) = max (depth a) (depth_of_all ms)

-- Patterns 3: how many groups stand in a record, those inside a repeat of 0 to 0 too
abbrev mutual
  pub groups : Pattern → ℕ
  groups nothing = 0
  groups empty = 0
  groups (bytes ranges) = 0
  groups (group e) = suc (groups e)
  groups (sequence ms) = groups_of_all ms
  groups (alternation ms) = groups_of_all ms
  groups (repeat least upper mode e) = groups e

  pub groups_of_all : Members → ℕ
  groups_of_all (two a b) = groups a + groups b
  groups_of_all (more a ms) = groups a + groups_of_all ms

-- Patterns 4: the levels of a record, itself as the first
abbrev mutual
  pub levels : Pattern → ℕ
  levels nothing = 1
  levels empty = 1
  levels (bytes ranges) = 1
  levels (group e) = suc (levels e)
  levels (sequence ms) = suc (levels_of_all ms)
  levels (alternation ms) = suc (levels_of_all ms)
  levels (repeat least upper mode e) = suc (levels e)

  pub levels_of_all : Members → ℕ
  levels_of_all (two a b) = max (levels a) (levels b)
  levels_of_all (more a ms) = max (levels a) (levels_of_all ms)
