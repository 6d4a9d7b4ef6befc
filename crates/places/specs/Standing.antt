-- Which tree stands where among a pattern's bytes. Paper's walk finds the tree; these say the same of the tree that was found, record by record.
use Rattle.std.specs.Prelude.{ℕ, ◌+◌, ◌-◌, ◌*◌, ◌≤◌, ◌≡◌, Bool, true, false, List, [], ◌∷◌, length}
use Rattle.paper.specs.Limits.{set_pairs}
use Rattle.paper.specs.Pattern.{Mode, Upper, Range, Pattern, Members, groups}
use Rattle.paper.specs.Pattern.Pattern.{nothing, empty, bytes, group, sequence, alternation, repeat}
use Rattle.paper.specs.Pattern.Members.{two, more}
use Rattle.paper.specs.Layout.{upper_number, mode_number, CountsRight}
use Rattle.paper.specs.Check.{number_at, body_length, kind_at, body_start, body_end, part, ranges_of, repeat_head}
use Rattle.paper.specs.Machine.{Core, skip, chain, either, written_out}
use Rattle.pattern.specs.Walk.{places_in}

-- a byte set's body is these ranges
pub record Pairs (bs : List ℕ) (at : ℕ) (ranges : List Range) : Type 0 where
  pub found : ranges_of (part bs (body_start at) (body_end bs at)) ≡ ranges
  pub whole : body_length bs at ≡ 2 * length ranges
  pub few : length ranges ≤ set_pairs

-- a repeat's body begins with these three numbers
pub record Passes (bs : List ℕ) (start least : ℕ) (upper : Upper) (mode : Mode) : Type 0 where
  pub least_is : number_at bs start ≡ least
  pub upper_is : number_at bs (start + 2) ≡ upper_number upper
  pub mode_is : number_at bs (start + 4) ≡ mode_number mode
  pub right : CountsRight least upper

-- the record of a tree stands at an offset; and the records of members from an offset up to the end of their holder
abbrev mutual
  pub Stands : List ℕ → ℕ → Pattern → Type 0
  Stands bs at nothing = kind_at bs at ≡ 0
  Stands bs at empty = kind_at bs at ≡ 1
  Stands bs at (bytes ranges) = (kind_at bs at ≡ 2) × Pairs bs at ranges
  Stands bs at (group e) = (kind_at bs at ≡ 3) × Stands bs (body_start at) e × (body_end bs (body_start at) ≡ body_end bs at)
  Stands bs at (sequence ms) = (kind_at bs at ≡ 4) × AllStand bs (body_start at) (body_end bs at) ms
  Stands bs at (alternation ms) = (kind_at bs at ≡ 5) × AllStand bs (body_start at) (body_end bs at) ms
  Stands bs at (repeat least upper mode e) =
      (kind_at bs at ≡ 6)
      × Passes bs (body_start at) least upper mode
      × Stands bs (body_start at + repeat_head) e
      × (body_end bs (body_start at + repeat_head) ≡ body_end bs at)

  pub AllStand : List ℕ → ℕ → ℕ → Members → Type 0
  AllStand bs at stop (two a b) = Stands bs at a × Stands bs (body_end bs at) b × (body_end bs (body_end bs at) ≡ stop)
  AllStand bs at stop (more a ms) = Stands bs at a × AllStand bs (body_end bs at) stop ms

-- the same of any number of records
abbrev pub Row : List ℕ → ℕ → ℕ → List Pattern → Type 0
Row bs at stop [] = at ≡ stop
Row bs at stop (e ∷ es) = Stands bs at e × Row bs (body_end bs at) stop es

-- the places of a row that is laid as a sequence, or as an alternation, with a fork before each but the last
abbrev pub row_places : Bool → List Pattern → ℕ
row_places false es = places_in es
row_places true es = places_in es + (length es - 1)

abbrev pub join : Bool → Core → Core → Core
join false a b = chain a b
join true a b = either a b

-- a row written out, its first group being number `first`
abbrev pub row_core : Bool → List Pattern → ℕ → Core
row_core forks [] first = skip
row_core forks (e ∷ []) first = written_out e first
row_core forks (e ∷ f ∷ es) first = join forks (written_out e first) (row_core forks (f ∷ es) (first + groups e))
