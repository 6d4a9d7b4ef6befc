-- What counting asks and tells of records in a row. Each promise holds for every row that meets what was asked, so no promise names a row of its own.
use Rattle.std.specs.Prelude.{ℕ, ◌+◌, ◌-◌, ◌≤◌, ◌<◌, ◌≡◌, cond, List, ltb, eqb, length}
use Rattle.paper.specs.Limits.{pattern_bytes, pattern_places, row_count}
use Rattle.paper.specs.Pattern.{Pattern}
use Rattle.paper.specs.Layout.{CountsRight, kind_number}
use Rattle.paper.specs.Check.{number_at, kind_at, repeat_head, upper_of}
use Rattle.pattern.specs.Kinds.{kind_of}
use Rattle.pattern.specs.declared.Kind.{Kind}
use Rattle.pattern.specs.Walk.{capped, optional_passes, pass_places, places_in, groups_in}
use Rattle.places.specs.Standing.{Row}

-- the number of a kind, in a record's header
abbrev pub number_of : Kind → ℕ
number_of kind = kind_number (kind_of kind)

-- the kind of a record whose number is one of a kind
abbrev pub KindAt : List ℕ → ℕ → Kind → Type 0
KindAt bs at kind = kind_at bs at ≤ 6 → number_of kind ≡ kind_at bs at

-- no record has more places than this when those inside it are counted up to the limit
abbrev pub most_own : ℕ
most_own = pattern_places + pattern_bytes

-- where the records inside a record start, by the number of its kind
abbrev pub inside_start : ℕ → ℕ → ℕ → ℕ
inside_start kind start end = cond (ltb kind 3) end (cond (ltb kind 6) start (start + repeat_head))

-- the places of a record by the number of its kind, from the places and the number of the records inside it
abbrev pub own_places : List ℕ → ℕ → ℕ → ℕ → ℕ → ℕ
own_places bs kind start p k =
    cond (ltb kind 3) (cond (eqb kind 1) 0 1)
    (cond (eqb kind 3) (p + 2)
    (cond (eqb kind 4) p
    (cond (eqb kind 5) (p + (k - 1))
    (capped (pass_places (number_at bs start) (optional_passes (number_at bs start) (upper_of (number_at bs (start + 2)))) p)))))

pub record OwnPlaces (bs : List ℕ) (kind start p k : ℕ) : Type 0 where
  pub places_small : p ≤ pattern_places
  pub records_small : k ≤ pattern_bytes
  pub some : kind ≡ 5 → 1 ≤ k
  pub here : 5 < kind → start + 4 ≤ length bs
  pub numbers : 5 < kind → CountsRight (number_at bs start) (upper_of (number_at bs (start + 2)))

abbrev pub own_groups : ℕ → ℕ → ℕ
own_groups kind g = cond (eqb kind 3) (g + 1) g

-- `count`: records stand from an offset up to the end of their holder
pub record Counting (bs : List ℕ) (at stop : ℕ) : Type 0 where
  pub records : List Pattern
  pub stand : Row bs at stop records
  pub ends : stop ≤ length bs
  pub short : length bs ≤ pattern_bytes
  pub few : groups_in records ≤ row_count

-- what records add up to
pub record Summed (records : List Pattern) (p g k : ℕ) : Type 0 where
  pub places_are : places_in records ≤ pattern_places → p ≡ places_in records
  pub groups_are : g ≡ groups_in records
  pub records_are : k ≡ length records

pub record Counted (bs : List ℕ) (at stop p g k : ℕ) : Type 0 where
  pub small : p ≤ pattern_places
  pub sums : (m : Counting bs at stop) → Summed m.records p g k
