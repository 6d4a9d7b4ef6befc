-- The promise of building: the table holds exactly the places that paper lists for an accepted pattern, and whoever reads them stays in range.
use Rattle.std.specs.Prelude.{ℕ, ◌*◌, ◌≤◌, ◌<◌, ◌≡◌, List, length, get_or}
use Rattle.paper.specs.Refusal.{accepted}
use Rattle.paper.specs.Pattern.{Pattern, places, all_places, groups}
use Rattle.paper.specs.Check.{pattern_of}
use Rattle.paper.specs.Machine.{Place, places_of}
use Rattle.paper.specs.Match.{wrap}
use Rattle.paper.specs.Bounds.{search_places}
use Rattle.paper.specs.Tables.{place_numbers, decode}
use Rattle.laying.specs.Laid.{Readable}

-- checking takes the pattern, and this is its tree, which has so many places without the accepting one, and so many groups
pub record Accepted (pattern : List ℕ) (p g : ℕ) : Type 0 where
  pub tree : Pattern
  pub found : pattern_of pattern ≡ accepted tree
  pub places_are : p ≡ places tree
  pub groups_are : g ≡ groups tree

-- a table that holds a list of places: they are its first `count`, each in range, and behind them nothing has changed
pub record Built (list : List Place) (count : ℕ) (pattern before after : List ℕ) : Type 0 where
  pub decoded : decode after pattern count ≡ list
  pub readable : (x : ℕ) → x < count → Readable after pattern x
  pub same_length : length after ≡ length before
  pub untouched : (i : ℕ) → place_numbers * count ≤ i → get_or after i 0 ≡ get_or before i 0

-- building for a whole match answers how many places the pattern has, and lists them
pub record BuiltMatch (pattern before after : List ℕ) (answer : ℕ) : Type 0 where
  pub count_is : (e : Pattern) → pattern_of pattern ≡ accepted e → answer ≡ all_places e
  pub built : (e : Pattern) → pattern_of pattern ≡ accepted e → Built (places_of e 1) (all_places e) pattern before after

-- building for a search does the same of the pattern with the wrap around it
pub record BuiltSearch (pattern before after : List ℕ) (answer : ℕ) : Type 0 where
  pub count_is : (e : Pattern) → pattern_of pattern ≡ accepted e → answer ≡ search_places e
  pub built : (e : Pattern) → pattern_of pattern ≡ accepted e → Built (places_of (wrap e) 0) (search_places e) pattern before after
