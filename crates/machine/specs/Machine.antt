-- A machine built once and run on many lines: what the tables hold, what a run of it asks and gives. Inner promises cite this file, and those of `toj_build` and `toj_run`, which lend a machine.
use Rattle.std.specs.Prelude.{ℕ, ◌*◌, ◌≤◌, ◌<◌, ◌≡◌, Bool, true, false, List, length, drop, Result, Ok, Err}
use Rattle.std.specs.Prelude as rust
use Rattle.std.proofs.Math.Option.{Option, none, some, map}
use Rattle.paper.specs.Refusal.{refused, accepted}
use Rattle.paper.specs.Pattern.{Pattern, all_places, depth, groups}
use Rattle.paper.specs.Layout.{Lawful}
use Rattle.paper.specs.Check.{pattern_of}
use Rattle.paper.specs.Rows.{Rows}
use Rattle.paper.specs.Machine.{places_of, machine}
use Rattle.paper.specs.Match.{wrap, whole_match, search, match_steps, search_steps}
use Rattle.paper.specs.Tables.{place_numbers, decode}
use Rattle.paper.specs.Replace.{moved, moved_stopped}
use Rattle.pattern.specs.declared.Numbers.{Numbers}
use Rattle.pattern.specs.declared.Refused.{Refused}
use Rattle.pattern.specs.Refusals.{number_of}
use Rattle.run.specs.Steps.{stopped_as}
use Rattle.run.specs.declared.Ran.{Ran}
use Rattle.laying.specs.Laid.{Readable}

-- the pattern whose places are built, and the number of its first group: a search has the wrap around the pattern
abbrev pub wrapped : Bool → Pattern → Pattern
wrapped false e = e
wrapped true e = wrap e

abbrev pub first_group : Bool → ℕ
first_group false = 1
first_group true = 0

-- the table holds the places of an accepted pattern, for a whole match or for a search
pub record Ready (pattern code : List ℕ) (searches : Bool) (places deep : ℕ) : Type 0 where
  pub tree : Pattern
  pub found : pattern_of pattern ≡ accepted tree
  pub lawful : Lawful tree
  pub places_are : places ≡ all_places (wrapped searches tree)
  pub deep_is : deep ≡ depth (wrapped searches tree)
  pub long : place_numbers * places ≤ length code
  pub decoded : decode code pattern places ≡ places_of (wrapped searches tree) (first_group searches)
  pub readable : (x : ℕ) → x < places → Readable code pattern x

-- what building promises: the refusals of checking, which leave the table as it was, or the machine's numbers and its table, behind whose places nothing has changed
abbrev pub Builds : List ℕ → Bool → List ℕ → List ℕ → Result Numbers Refused → Type 0
Builds pattern searches before after (Err r) = (pattern_of pattern ≡ refused (number_of r.refusal) r.place) × (after ≡ before)
Builds pattern searches before after (Ok numbers) =
    (m : Ready pattern after searches numbers.places numbers.depth)
    × (numbers.groups ≡ groups m.tree)
    × (drop (place_numbers * numbers.places) after ≡ drop (place_numbers * numbers.places) before)

-- what a run promises: the list machine's end on the rest of the line, the rows as places in the whole line
abbrev pub RunsFrom : List ℕ → List ℕ → List ℕ → ℕ → ℕ → ℕ → Ran → Type 0
RunsFrom pattern code line places deep from ran =
    (searches : Bool) (m : Ready pattern code searches places deep)
    → stopped_as ran.steps ran.rows ≡ moved_stopped from (machine (wrapped searches m.tree) (first_group searches) (drop from line))

-- the rows of a run, where it matched, as `paper` tells what is found
abbrev pub found_of : rust.Option Rows → Option Rows
found_of (rust.Some rows) = some rows
found_of rust.None = none

-- rows and steps by value: the rows that are found, if any are, and the steps
pub record Gives (found : Option Rows) (count : ℕ) (ran : Ran) : Type 0 where
  pub steps_are : ran.steps ≡ count
  pub rows_are : found_of ran.rows ≡ found

-- what a whole match gives for an accepted pattern, and a search from a position
abbrev pub MatchGives : List ℕ → List ℕ → Ran → Type 0
MatchGives pattern line ran = (e : Pattern) → pattern_of pattern ≡ accepted e → Gives (whole_match e line) (match_steps e line) ran

abbrev pub SearchGives : List ℕ → List ℕ → ℕ → Ran → Type 0
SearchGives pattern line from ran =
    (e : Pattern) → pattern_of pattern ≡ accepted e → Gives (map (moved from) (search e (drop from line))) (search_steps e (drop from line)) ran

-- the one or the other, from the line's start
abbrev pub FoundGives : Bool → List ℕ → List ℕ → Ran → Type 0
FoundGives false pattern line ran = MatchGives pattern line ran
FoundGives true pattern line ran = SearchGives pattern line 0 ran
