-- The ordered reading: each expression, from a position, with the rows set so far, has a list of outcomes, best first.
use Rattle.std.specs.Prelude.{ℕ, zero, suc, ◌+◌, ◌-◌, Bool, false, cond, ◌&&◌, ◌||◌, List, [], ◌∷◌, ◌++◌, leb, ltb, eqb, length, get_or}
use Rattle.paper.specs.Pattern.{Mode, greedy, lazy, Upper, up_to, no_end, Range, Pattern, Members, groups}
use Rattle.paper.specs.Pattern.Pattern.{nothing, empty, bytes, group, sequence, alternation, repeat}
use Rattle.paper.specs.Pattern.Members.{two, more}
use Rattle.paper.specs.Rows.{Rows, set_row, clear}

-- Reading 1: where a reading ends, and the groups as it leaves them
pub record Outcome : Type 0 where
  pub end : ℕ
  pub rows : Rows

-- Reading 1: from a position and the groups set so far to the outcomes in order
abbrev pub Reading : Type 0
Reading = ℕ → Rows → List Outcome

-- Reading 2, nothing: no outcome
abbrev pub nowhere : Reading
nowhere p rows = []

-- Reading 2, empty: one outcome, here
abbrev pub here : Reading
here p rows = record { end = p; rows = rows } ∷ []

-- Reading 2, sequence: for each outcome in order, those of what follows
abbrev pub bind : List Outcome → Reading → List Outcome
bind [] next = []
bind (o ∷ os) next = next o.end o.rows ++ bind os next

-- Reading 2, sequence: the outcomes of the first in order, each followed by those of the second
abbrev pub in_turn : Reading → Reading → Reading
in_turn first second p rows = bind (first p rows) second

-- Reading 2, alternation: the outcomes of the first, then those of the second
abbrev pub or_else : Reading → Reading → Reading
or_else first second p rows = first p rows ++ second p rows

-- Reading 2, set: whether a set's ranges, left to right, hold a byte
abbrev pub in_set : List Range → ℕ → Bool
in_set [] b = false
in_set (r ∷ rs) b = (leb r.low b && leb b r.high) || in_set rs b

-- Reading 4: the set that holds every byte
abbrev pub every_byte : List Range
every_byte = record { low = 0; high = 255 } ∷ []

-- Reading 2, set: whether there is a byte at a position, and the set holds it
abbrev pub takes : List Range → List ℕ → ℕ → Bool
takes ranges line p = ltb p (length line) && in_set ranges (get_or line p 0)

-- Reading 2, set: one outcome, a byte on, if the byte is in the set
abbrev pub one_byte : List Range → List ℕ → Reading
one_byte ranges line p rows = cond (takes ranges line p) (here (suc p) rows) []

-- Reading 2, group k: row k set from where the group began to where the outcome ends
abbrev pub spanning : ℕ → ℕ → Reading
spanning k start p rows = here p (set_row k start p rows)

abbrev pub grouped : ℕ → Reading → Reading
grouped k inside p rows = bind (inside p rows) (spanning k p)

-- Reading 2, repeat, second sentence: a pass first makes every group inside absent
abbrev pub pass_of : ℕ → ℕ → Reading → Reading
pass_of first n inside p rows = inside p (clear first n rows)

-- Reading 2, repeat, first and third sentences: passes that must be made, which may consume nothing, and then what comes next
abbrev pub must_passes : ℕ → Reading → Reading → Reading
must_passes zero pass next = next
must_passes (suc n) pass next = in_turn pass (must_passes n pass next)

-- Reading 2, repeat, fourth sentence: an outcome that ends where its pass began is dropped
abbrev pub unless_at : ℕ → Reading
unless_at start p rows = cond (eqb p start) [] (here p rows)

abbrev pub consuming : Reading → Reading
consuming pass p rows = bind (pass p rows) (unless_at p)

-- Reading 2, repeat, last sentence: greedy puts another pass before stopping, lazy stopping before another pass
abbrev pub prefer : Mode → Reading → Reading → Reading
prefer greedy again stopping = or_else again stopping
prefer lazy again stopping = or_else stopping again

-- Reading 2, repeat: up to so many optional passes
abbrev pub optional_passes : ℕ → Mode → Reading → Reading
optional_passes zero mode pass = here
optional_passes (suc n) mode pass = prefer mode (in_turn (consuming pass) (optional_passes n mode pass)) here

-- Reading 2, repeat: how many optional passes there can be. Each takes a byte, so without an upper end the line's length is enough
abbrev pub optional_count : ℕ → Upper → List ℕ → ℕ
optional_count least (up_to most) line = most - least
optional_count least no_end line = length line

-- Reading 2, repeat: first the passes that must be made, then the optional ones
abbrev pub repeated : ℕ → ℕ → Mode → Reading → Reading
repeated least optional mode pass = must_passes least pass (optional_passes optional mode pass)

-- Reading 2: the outcomes of an expression whose first group, if it has one, is number `first`
abbrev mutual
  pub read : Pattern → List ℕ → ℕ → Reading
  read nothing line first = nowhere
  read empty line first = here
  read (bytes ranges) line first = one_byte ranges line
  read (group e) line first = grouped first (read e line (suc first))
  read (sequence ms) line first = read_sequence ms line first
  read (alternation ms) line first = read_alternation ms line first
  read (repeat least upper mode e) line first =
      repeated least (optional_count least upper line) mode (pass_of first (groups e) (read e line first))

  pub read_sequence : Members → List ℕ → ℕ → Reading
  read_sequence (two a b) line first = in_turn (read a line first) (read b line (first + groups a))
  read_sequence (more a ms) line first = in_turn (read a line first) (read_sequence ms line (first + groups a))

  pub read_alternation : Members → List ℕ → ℕ → Reading
  read_alternation (two a b) line first = or_else (read a line first) (read b line (first + groups a))
  read_alternation (more a ms) line first = or_else (read a line first) (read_alternation ms line (first + groups a))
