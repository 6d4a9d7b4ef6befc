-- What a table of places must be for a run to stay inside its memory: followers in range, rows that exist, ranges inside the pattern,
-- and a depth for each place that bounds the levels on which it is reached.
use Rattle.std.specs.Prelude.{ℕ, ◌+◌, ◌*◌, ◌≤◌, ◌<◌, ◌^◌, ◌≡◌, List, length}
use Rattle.moves.specs.Moves.{Slots}
use Rattle.paper.specs.Tables.{fork_place, begin_optional_place, end_place, set_place, stop_place, place_numbers, place_kind_at, place_next_at, place_first_at, place_many_at}

-- a table of `places` places, for a pattern, that is safe to run with `cells` entries for the pairs. Only an end can lead back.
-- An end has no rule for the depth: it leads on only from level 0, back to where a pass began
pub record Wired (code pattern : List ℕ) (places cells : ℕ) : Type 0 where
  pub deep : ℕ → ℕ
  pub few : places < 2 ^ 16
  pub long : place_numbers * places ≤ length code
  pub room : (x : ℕ) → x < places → deep x * places + x < cells
  pub follows : (x : ℕ) → x < places → place_kind_at code x < stop_place → place_next_at code x < places
  pub forks : (x : ℕ) → x < places → place_kind_at code x ≡ fork_place → place_first_at code x < places
  pub deeper : (x : ℕ) → x < places → place_kind_at code x < begin_optional_place → deep x ≤ deep (place_next_at code x)
  pub deeper_other : (x : ℕ) → x < places → place_kind_at code x ≡ fork_place → deep x ≤ deep (place_first_at code x)
  pub raised : (x : ℕ) → x < places → place_kind_at code x ≡ begin_optional_place → deep x + 1 ≤ deep (place_next_at code x)
  pub ahead : (x : ℕ) → x < places → place_kind_at code x < end_place → x < place_next_at code x
  pub ahead_other : (x : ℕ) → x < places → place_kind_at code x ≡ fork_place → x < place_first_at code x
  pub slots : (x : ℕ) → x < places → Slots (place_kind_at code x) (place_first_at code x) (place_many_at code x)
  pub ranges : (x : ℕ) → x < places → place_kind_at code x ≡ set_place → place_first_at code x + 2 * place_many_at code x ≤ length pattern
