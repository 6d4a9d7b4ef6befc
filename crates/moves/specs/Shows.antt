-- How the lent tables show a state of the machine at a position: an entry has this position's stamp where a pair is seen or a follower is carried.
-- The list holds the first thread carried to each follower, in order, and behind them the winner.
use Rattle.std.specs.Prelude.{ℕ, ◌+◌, ◌*◌, ◌≤◌, ◌<◌, ◌≡◌, Bool, cond, List, eqb, length, get_or, Option, slice_get}
use Rattle.std.proofs.Math.Option.{none, some}
use Rattle.paper.specs.Machine.{State, is_seen}
use Rattle.paper.specs.Once.{once, pairs_of}
use Rattle.threads.specs.Threads.{thread_numbers, rows_in, place_in, threads, lacking, Under}

-- what stands in a line at a position inside it or at its end: the byte there, if there is one
pub record AheadIn (line : List ℕ) (p : ℕ) (ahead : Option ℕ) : Type 0 where
  pub within : p ≤ length line
  pub is_ahead : ahead ≡ slice_get line p

-- the state that the tables show
pub record Shows (places stamp : ℕ) (seen taken list : List ℕ) (count steps : ℕ) (done : Bool) (s : State) : Type 0 where
  pub pairs : (x l : ℕ) → x < places → is_seen x l s.seen ≡ eqb (get_or seen (l * places + x) 0) stamp
  pub marks : (x : ℕ) → is_seen x 0 (pairs_of s.carried) ≡ eqb (get_or taken x 0) stamp
  pub carried : once s.carried ≡ threads list count
  pub winner : s.won ≡ cond done (some (rows_in list count)) none
  pub counted : s.steps ≡ steps

-- what always holds of the carried threads: there is room for one at each follower that has none yet, and for a winner
pub record Carried (places stamp : ℕ) (taken list : List ℕ) (count : ℕ) : Type 0 where
  pub taken_long : length taken ≡ places
  pub list_long : thread_numbers * (places + 1) ≤ length list
  pub under : Under stamp taken
  pub fits : count + lacking stamp taken ≤ places
  pub inside : (i : ℕ) → i < count → place_in list i < places
