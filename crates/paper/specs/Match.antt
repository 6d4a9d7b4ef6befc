-- Whole match and search: which rows they give, their steps, their refusals, and the span table afterwards.
use Rattle.std.specs.Prelude.{ℕ, Bool, true, false, cond, List, [], ◌∷◌, ◌++◌, leb, eqb, length, drop}
use Rattle.std.proofs.Math.Option.{Option, none, some}
use Rattle.paper.specs.Limits.{line_bytes, table_numbers, step_limit}
use Rattle.paper.specs.Refusal.{Checked, refused, accepted, ◌>>=◌, ◌>>◌, holds, line_too_long, table_too_short, too_many_steps}
use Rattle.paper.specs.Pattern.{greedy, lazy, no_end, Pattern}
use Rattle.paper.specs.Pattern.Pattern.{bytes, group, sequence, repeat}
use Rattle.paper.specs.Pattern.Members.{two, more}
use Rattle.paper.specs.Check.{pattern_of}
use Rattle.paper.specs.Rows.{Rows, no_rows, set_row}
use Rattle.paper.specs.Reading.{Outcome, every_byte, read}
use Rattle.paper.specs.Machine.{machine, steps_of}

-- Reading 3: the first outcome that ends at the line's end
abbrev pub first_ending_at : ℕ → List Outcome → Option Rows
first_ending_at n [] = none
first_ending_at n (o ∷ os) = cond (eqb o.end n) (some o.rows) (first_ending_at n os)

-- Reading 3: the rows of the first outcome that reads the whole line, or no match
abbrev pub extract : Pattern → ℕ → List ℕ → Option Rows
extract e first line = first_ending_at (length line) (read e line first 0 no_rows)

abbrev pub with_row0 : ℕ → Option Rows → Option Rows
with_row0 n none = none
with_row0 n (some rows) = some (set_row 0 0 n rows)

-- Reading 3: a whole match: groups from number 1, row 0 the whole line
abbrev pub whole_match : Pattern → List ℕ → Option Rows
whole_match e line = with_row0 (length line) (extract e 1 line)

abbrev pub any_byte : Pattern
any_byte = bytes every_byte

-- Reading 4: lazy any-byte star, a group that holds the pattern, greedy any-byte star
abbrev pub wrap : Pattern → Pattern
wrap e = sequence (more (repeat 0 no_end lazy any_byte) (two (group e) (repeat 0 no_end greedy any_byte)))

-- Reading 4: a search: the added group is number 0, so row 0 is what it holds and the pattern's groups keep their numbers
abbrev pub search : Pattern → List ℕ → Option Rows
search e line = extract (wrap e) 0 line

-- Machine 2, last sentence: the steps that the list machine makes
abbrev pub match_steps : Pattern → List ℕ → ℕ
match_steps e line = steps_of (machine e 1 line)

abbrev pub search_steps : Pattern → List ℕ → ℕ
search_steps e line = steps_of (machine (wrap e) 0 line)

-- what a match or a search finds: rows or no match, and the steps
pub record Found : Type 0 where
  pub rows : Option Rows
  pub steps : ℕ

-- Refusals 3: match and search refuse by 1 to 8, 11, 12, 14, in this order
abbrev pub line_and_table : List ℕ → List ℕ → Checked (Unit {0})
line_and_table line table =
    holds (leb (length line) line_bytes) line_too_long 0 >> holds (leb table_numbers (length table)) table_too_short 0

abbrev pub counted : Option Rows → ℕ → Checked Found
counted rows steps = holds (leb steps step_limit) too_many_steps 0 >> accepted (record { rows = rows; steps = steps })

abbrev pub match_call : List ℕ → List ℕ → List ℕ → Checked Found
match_call pattern line table =
    pattern_of pattern >>= λ e. line_and_table line table >> counted (whole_match e line) (match_steps e line)

abbrev pub search_call : List ℕ → List ℕ → List ℕ → Checked Found
search_call pattern line table =
    pattern_of pattern >>= λ e. line_and_table line table >> counted (search e line) (search_steps e line)

-- Reading 5 and Refusals 3: no match fills the table's numbers with 65,535
abbrev pub rows_or_none : Option Rows → Rows
rows_or_none none = no_rows
rows_or_none (some rows) = rows

-- Reading 5 and Refusals 3: the table afterwards: the rows, then the numbers that stood behind; a refusal changes nothing
abbrev pub table_after : Checked Found → List ℕ → List ℕ
table_after (refused number place) table = table
table_after (accepted found) table = rows_or_none found.rows ++ drop table_numbers table

-- what the answer itself tells: a match or none, and the steps; the rows stand in the table
pub record Told : Type 0 where
  pub matched : Bool
  pub steps : ℕ

abbrev pub is_match : Option Rows → Bool
is_match none = false
is_match (some rows) = true

abbrev pub told : Checked Found → Checked Told
told answer = answer >>= λ found. accepted (record { matched = is_match found.rows; steps = found.steps })
