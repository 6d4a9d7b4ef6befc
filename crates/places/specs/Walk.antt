-- What laying records asks and leaves behind. Each promise holds for every tree that meets what was asked, so no promise names a tree of its own.
use Rattle.std.specs.Prelude.{ℕ, ◌+◌, ◌≤◌, ◌<◌, ◌≡◌, Bool, true, false, List, length}
use Rattle.paper.specs.Limits.{pattern_bytes, pattern_places, row_count}
use Rattle.paper.specs.Pattern.{Mode, Upper, Pattern, places, groups, repeat_places}
use Rattle.paper.specs.Check.{body_end, repeat_head}
use Rattle.paper.specs.Machine.{captures, written_out}
use Rattle.paper.specs.Tables.{fork_place}
use Rattle.pattern.specs.Walk.{groups_in}
use Rattle.laying.specs.Laid.{Kept, entry_of, Lays}
use Rattle.laying.specs.Room.{most_places}
use Rattle.laying.specs.Single.{Put}
use Rattle.places.specs.Standing.{Passes, Stands, Row, row_places, row_core}
use Rattle.places.specs.declared.walk.Part.{Part}

-- the record of a tree stands from an offset up to `stop`, its first group being number `first`
pub record Inside (bs : List ℕ) (at stop first : ℕ) (e : Pattern) : Type 0 where
  pub stand : Stands bs at e
  pub end_is : body_end bs at ≡ stop
  pub ends : stop ≤ length bs
  pub short : length bs ≤ pattern_bytes
  pub few : first + groups e ≤ row_count

-- `one`: a record that has so many places and groups, and room for the places
pub record One (bs : List ℕ) (at stop base next first n g : ℕ) : Type 0 where
  pub tree : Pattern
  pub inside : Inside bs at stop first tree
  pub places_are : n ≡ places tree
  pub groups_are : g ≡ groups tree
  pub small : n ≤ pattern_places
  pub room : base + n ≤ most_places
  pub follows : next ≤ most_places

pub record OneLaid (bs : List ℕ) (at stop base next first n g : ℕ) (before after : List ℕ) : Type 0 where
  pub kept : Kept base (base + n) before after
  pub laid : (m : One bs at stop base next first n g) → Lays after bs (written_out m.tree first) base next

-- `captured`: the record that a group holds, and room for its open and its close
pub record Group (bs : List ℕ) (at stop base next first p g k : ℕ) : Type 0 where
  pub held : One bs at stop (base + 1) (base + 1 + p) first p g
  pub number : k ≤ row_count
  pub room : base + 1 + p + 1 ≤ most_places
  pub follows : next ≤ most_places

pub record GroupLaid (bs : List ℕ) (at stop base next first p g k : ℕ) (before after : List ℕ) : Type 0 where
  pub kept : Kept base (base + 1 + p + 1) before after
  pub laid : (m : One bs at stop (base + 1) (base + 1 + p) first p g) → Lays after bs (captures k (written_out m.tree first)) base next

-- `row`: at least one record, and room for all
pub record Several (bs : List ℕ) (at stop : ℕ) (forks : Bool) (base next first n g : ℕ) : Type 0 where
  pub records : List Pattern
  pub stand : Row bs at stop records
  pub some : at < stop
  pub ends : stop ≤ length bs
  pub short : length bs ≤ pattern_bytes
  pub few : first + groups_in records ≤ row_count
  pub places_are : n ≡ row_places forks records
  pub groups_are : g ≡ groups_in records
  pub small : n ≤ pattern_places
  pub room : base + n ≤ most_places
  pub follows : next ≤ most_places

pub record SeveralLaid (bs : List ℕ) (at stop : ℕ) (forks : Bool) (base next first n g : ℕ) (before after : List ℕ) : Type 0 where
  pub kept : Kept base (base + n) before after
  pub laid : (m : Several bs at stop forks base next first n g) → Lays after bs (row_core forks m.records first) base next

-- `repeated`: a repeat's three numbers, what it repeats, and its places and groups
pub record Repeat (bs : List ℕ) (start stop base next first n g : ℕ) : Type 0 where
  pub least : ℕ
  pub upper : Upper
  pub mode : Mode
  pub tree : Pattern
  pub numbers : Passes bs start least upper mode
  pub inside : Inside bs (start + repeat_head) stop first tree
  pub places_are : n ≡ repeat_places least upper (places tree)
  pub groups_are : g ≡ groups tree
  pub some : n ≡ 0 → ⊥
  pub small : n ≤ pattern_places
  pub room : base + n ≤ most_places
  pub follows : next ≤ most_places

pub record RepeatLaid (bs : List ℕ) (start stop base next first n g : ℕ) (before after : List ℕ) : Type 0 where
  pub kept : Kept base (base + n) before after
  pub laid : (m : Repeat bs start stop base next first n g)
      → Lays after bs (written_out (Pattern.repeat m.least m.upper m.mode m.tree) first) base next

-- `joined`: a record that others follow. In an alternation there is room for the fork before it
pub record Joining (forks : Bool) (base second next : ℕ) : Type 0 where
  pub room : forks ≡ true → base + 1 ≤ most_places
  pub place : second ≤ most_places
  pub follows : next ≤ most_places

-- in a sequence it leads to the next that has places, in an alternation to what follows the row, and its fork to both
abbrev pub Joined : Bool → ℕ → ℕ → ℕ → ℕ → ℕ → ℕ → List ℕ → List ℕ → Type 0
Joined false base p second rest next out before after = (out ≡ entry_of rest second next) × (after ≡ before)
Joined true base p second rest next out before after =
    (out ≡ next) × Put before base fork_place (entry_of p (base + 1) next) (entry_of rest second next) 0 after

-- the same of the parts of a pattern as they are told
abbrev pub OneAsked : Part → Type 0
OneAsked p = One p.pattern.now p.at p.stop p.base p.next p.first p.places p.groups

abbrev pub OneMade : Part → List ℕ → List ℕ → Type 0
OneMade p = OneLaid p.pattern.now p.at p.stop p.base p.next p.first p.places p.groups

abbrev pub GroupAsked : Part → ℕ → Type 0
GroupAsked p k = Group p.pattern.now p.at p.stop p.base p.next p.first p.places p.groups k

abbrev pub GroupMade : Part → ℕ → List ℕ → List ℕ → Type 0
GroupMade p k = GroupLaid p.pattern.now p.at p.stop p.base p.next p.first p.places p.groups k

abbrev pub RowAsked : Part → Bool → Type 0
RowAsked p forks = Several p.pattern.now (p.at + 4) p.stop forks p.base p.next p.first p.places p.groups

abbrev pub RowMade : Part → Bool → List ℕ → List ℕ → Type 0
RowMade p forks = SeveralLaid p.pattern.now (p.at + 4) p.stop forks p.base p.next p.first p.places p.groups

abbrev pub RepeatAsked : Part → Type 0
RepeatAsked p = Repeat p.pattern.now (p.at + 4) p.stop p.base p.next p.first p.places p.groups

abbrev pub RepeatMade : Part → List ℕ → List ℕ → Type 0
RepeatMade p = RepeatLaid p.pattern.now (p.at + 4) p.stop p.base p.next p.first p.places p.groups
