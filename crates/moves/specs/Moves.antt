-- What the small functions of a visit promise: each is the definition's move at a place of some kind, whatever the visit that goes on from there.
use Rattle.std.specs.Prelude.{ℕ, ◌+◌, ◌*◌, ◌≤◌, ◌<◌, ◌^◌, ◌≡◌, Bool, true, false, cond, List, eqb, length, Option, is_some, IsSome, IfSome}
use Rattle.paper.specs.Limits.{row_count, absent}
use Rattle.paper.specs.Rows.{Rows}
use Rattle.paper.specs.Reading.{takes}
use Rattle.paper.specs.Machine.{Place, Thread, at, State, follow, move_at}
use Rattle.paper.specs.Tables.{open_place, close_place, begin_place, begin_optional_place, end_place, set_place, stop_place, place_of}
use Rattle.moves.specs.Shows.{AheadIn, Shows, Carried}

-- the rows that a place of this kind touches exist
pub record Slots (kind a n : ℕ) : Type 0 where
  pub opens : kind ≡ open_place → a < row_count
  pub closes : kind ≡ close_place → a < row_count
  pub begins : kind ≡ begin_place → a + n ≤ row_count
  pub begins_optional : kind ≡ begin_optional_place → a + n ≤ row_count

-- the level after a place of this kind: begin optional raises it, end leaves 0
abbrev pub level_after : ℕ → ℕ → ℕ
level_after kind level = cond (eqb kind end_place) 0 (cond (eqb kind begin_optional_place) (level + 1) level)

-- whether a place takes the byte at a position
abbrev pub takes_at : Place → List ℕ → ℕ → Bool
takes_at (Place.one_of ranges next) line p = takes ranges line p
takes_at Place.stop line p = false
takes_at (Place.fork a b) line p = false
takes_at (Place.opening k next) line p = false
takes_at (Place.closing k next) line p = false
takes_at (Place.begin first n next) line p = false
takes_at (Place.begin_optional first n next) line p = false
takes_at (Place.ending next) line p = false
takes_at Place.accept line p = false

-- whether four numbers take the byte ahead: as the place that they stand for does in every line that has it there
pub record Eats (pattern : List ℕ) (ahead : Option ℕ) (kind a n : ℕ) (r : Bool) : Type 0 where
  pub leads : r ≡ true → kind < stop_place
  pub takes_it : (line : List ℕ) (p next : ℕ) → AheadIn line p ahead → r ≡ takes_at (place_of pattern kind next a n) line p

-- a place that leads on at once: on which level and with which rows, or that it does not. A level is given by its first entry, its floor
pub record Leads (kind a n p places floor : ℕ) (rows : Rows) (led : Option ℕ) (rows' : Rows) : Type 0 where
  pub same_long : length rows' ≡ length rows
  pub ends : kind ≡ end_place → IsSome led → floor ≡ 0
  pub raises : (level : ℕ) → floor ≡ level * places → IfSome led (λ f. f ≡ level_after kind level * places)
  pub follows : (level : ℕ) → floor ≡ level * places → (pattern line : List ℕ) (next place : ℕ) (visit : Thread → State → State) (s : State)
      → follow visit (at place level rows) (move_at (place_of pattern kind next a n) line p level rows) s ≡ cond (is_some led) (visit (at next (level_after kind level) rows') s) s

-- what a place that leads nowhere at once asks
pub record Settling (pattern : List ℕ) (p kind next a n : ℕ) (taken list : List ℕ) (count : ℕ) : Type 0 where
  pub last : set_place ≤ kind
  pub early : p < absent
  pub few : length taken < 2 ^ 16
  pub inside : kind < stop_place → next < length taken
  pub ranges : kind ≡ set_place → a + 2 * n ≤ length pattern
  pub carried : Carried (length taken) (p + 1) taken list count

-- what it leaves: the state after its move, whatever is seen, in every line that has this byte ahead
pub record Settles (pattern : List ℕ) (ahead : Option ℕ) (p kind next a n : ℕ) (rows : Rows) (taken list : List ℕ) (count : ℕ) (taken' list' : List ℕ) (count' : ℕ) (done : Bool)
    : Type 0 where
  pub carried : Carried (length taken) (p + 1) taken' list' count'
  pub shows : (line : List ℕ) → AheadIn line p ahead → (places : ℕ) (seen : List ℕ) (steps place level : ℕ) (visit : Thread → State → State) (s : State)
      → Shows places (p + 1) seen taken list count steps false s
      → Shows places (p + 1) seen taken' list' count' steps done
      (follow visit (at place level rows) (move_at (place_of pattern kind next a n) line p level rows) s)
