-- What laying a single place asks and leaves behind: any place, a fork, a set, a head, and the four places of an any-byte star.
use Rattle.std.specs.Prelude.{ℕ, ◌+◌, ◌*◌, ◌≤◌, ◌<◌, ◌≡◌, List, length}
use Rattle.paper.specs.Limits.{pattern_bytes, row_count, set_pairs}
use Rattle.paper.specs.Check.{part, ranges_of, mode_of}
use Rattle.paper.specs.Reading.{every_byte}
use Rattle.paper.specs.Machine.{eats, one_of, star, pass_fork}
use Rattle.paper.specs.Tables.{place_numbers, set_place, place_kind_at, place_next_at, place_first_at, place_many_at}
use Rattle.laying.specs.Laid.{Holds, Kept, Lays}
use Rattle.laying.specs.Room.{most_places, table_room, most_number}

-- `put`: the numbers fit
pub record Fitting (table : List ℕ) (x next a n : ℕ) : Type 0 where
  pub room : place_numbers * x + place_numbers ≤ length table
  pub next_fits : next ≤ most_number
  pub a_fits : a ≤ most_number
  pub n_fits : n ≤ most_number

-- `put`: the four numbers stand at the place, and nothing else has changed
pub record Put (before : List ℕ) (x kind next a n : ℕ) (after : List ℕ) : Type 0 where
  pub kind_is : place_kind_at after x ≡ kind
  pub next_is : place_next_at after x ≡ next
  pub a_is : place_first_at after x ≡ a
  pub n_is : place_many_at after x ≡ n
  pub kept : Kept x (x + 1) before after

-- `pass_fork`: the fork of an optional pass
pub record Forked (before : List ℕ) (x mode pass out : ℕ) (after : List ℕ) : Type 0 where
  pub held : (p : List ℕ) → Holds after p x (pass_fork (mode_of mode) pass out)
  pub kept : Kept x (x + 1) before after

-- `set_place`: the pairs of a set, and room for its place
pub record Ranged (bs : List ℕ) (start stop base next : ℕ) : Type 0 where
  pub pairs : ℕ
  pub whole : stop ≡ start + 2 * pairs
  pub few : pairs ≤ set_pairs
  pub ends : stop ≤ length bs
  pub short : length bs ≤ pattern_bytes
  pub room : base + 1 ≤ most_places
  pub follows : next ≤ most_places

pub record RangedLaid (bs : List ℕ) (start stop base next : ℕ) (before after : List ℕ) : Type 0 where
  pub kept : Kept base (base + 1) before after
  pub held : Holds after bs base (one_of (ranges_of (part bs start stop)) next)

-- a head, the place before an expression: an open, or a begin of a pass
pub record Head (kind a n : ℕ) : Type 0 where
  pub no_set : kind < set_place
  pub a_small : a ≤ row_count
  pub n_small : n ≤ row_count

-- `any_star`: room for its four places
pub record Star (table : List ℕ) (base next first : ℕ) : Type 0 where
  pub room : base + 4 ≤ most_places
  pub follows : next ≤ most_places
  pub first_small : first ≤ most_places
  pub long : table_room ≤ length table

pub record StarLaid (base mode next first : ℕ) (before after : List ℕ) : Type 0 where
  pub kept : Kept base (base + 4) before after
  pub laid : (p : List ℕ) → Lays after p (star (mode_of mode) first 0 (eats every_byte)) base next
