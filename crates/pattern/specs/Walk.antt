-- What the walk's functions answer, in terms of what `paper`'s walk finds: the tree itself is never built, only its numbers.
use Rattle.std.specs.Prelude.{ℕ, ◌+◌, ◌-◌, ◌*◌, ◌≤◌, min, max, ◌≡◌, Bool, true, false, List, [], ◌∷◌, length, get_or, Result, Ok, Err}
use Rattle.paper.specs.Limits.{pattern_bytes, pattern_levels, pattern_groups, pattern_places}
use Rattle.paper.specs.Refusal.{Checked, refused, accepted}
use Rattle.paper.specs.Pattern.{Range, Upper, up_to, no_end, Pattern, places, depth, groups}
use Rattle.paper.specs.Layout.{sequence_kind, alternation_kind}
use Rattle.paper.specs.Check.{Walk, body_length, body_start, body_end, body, walk_all}
use Rattle.pattern.specs.declared.Refusal.{Refusal}
use Rattle.pattern.specs.declared.Refused.{Refused}
use Rattle.pattern.specs.declared.walk.Walked.{Walked}
use Rattle.pattern.specs.declared.walk.Members.{Members}
use Rattle.pattern.specs.Refusals.{number_of}

-- two bytes as a range of a byte set
abbrev pub range_of : List ℕ → Range
range_of pair = record { low = get_or pair 0 0; high = get_or pair 1 0 }

-- a count of places up to the limit, which stands for all beyond
abbrev pub capped : ℕ → ℕ
capped n = min n pattern_places

-- the optional passes of a repeat that have places; with no upper end there is one, which leads back to itself
abbrev pub optional_passes : ℕ → Upper → ℕ
optional_passes least (up_to most) = most - least
optional_passes least no_end = 1

-- the places of so many passes that must be made and so many optional ones
abbrev pub pass_places : ℕ → ℕ → ℕ → ℕ
pass_places least optional e = least * (1 + e) + optional * (3 + e)

-- the sums over some records
abbrev pub places_in : List Pattern → ℕ
places_in [] = 0
places_in (e ∷ es) = places e + places_in es

abbrev pub depth_in : List Pattern → ℕ
depth_in [] = 0
depth_in (e ∷ es) = max (depth e) (depth_in es)

abbrev pub groups_in : List Pattern → ℕ
groups_in [] = 0
groups_in (e ∷ es) = groups e + groups_in es

-- the answer for a record that holds no other, refused unless its body is right
abbrev pub leaf_of : Bool → Refusal → ℕ → ℕ → ℕ → ℕ → Result Walked Refused
leaf_of true refusal at end places before = Ok (record { end = end; places = places; depth = 0; groups = before })
leaf_of false refusal at end places before = Err (record { refusal = refusal; place = at })

-- what the walk finds in the records that a sequence or an alternation holds
abbrev pub members_of : Walk → List ℕ → ℕ → ℕ → Checked (List Pattern)
members_of walk bs at before = walk_all (body_length bs at) walk bs (body_start at) (body_end bs at) before

-- what it finds in a sequence, or in an alternation, which has a fork before each member but the last
abbrev pub several_found : Bool → Walk → List ℕ → ℕ → ℕ → Checked Pattern
several_found false = body sequence_kind
several_found true = body alternation_kind

-- what was counted in one record that ends at `end`, with so many groups before it; and the bounds that keep the counting from overflowing
pub record Counts (stop levels end before : ℕ) (found : Checked Pattern) (w : Walked) : Type 0 where
  pub tree : Pattern
  pub is : found ≡ accepted tree
  pub ends : w.end ≡ end
  pub places_are : w.places ≡ capped (places tree)
  pub depth_is : w.depth ≡ depth tree
  pub groups_are : w.groups ≡ before + groups tree
  pub before_stop : w.end ≤ stop
  pub few_levels : w.depth ≤ levels
  pub few_groups : w.groups ≤ pattern_groups

-- what the walk of a record that stands before `stop` promises
abbrev pub Tells : ℕ → ℕ → ℕ → ℕ → Checked Pattern → Result Walked Refused → Type 0
Tells stop levels end before found (Ok w) = Counts stop levels end before found w
Tells stop levels end before found (Err e) = found ≡ refused (number_of e.refusal) e.place

-- what was counted in the records of a holder
pub record CountsAll (levels before : ℕ) (found : Checked (List Pattern)) (m : Members) : Type 0 where
  pub trees : List Pattern
  pub are : found ≡ accepted trees
  pub count_is : m.count ≡ length trees
  pub places_are : m.places ≡ capped (places_in trees)
  pub depth_is : m.depth ≡ depth_in trees
  pub groups_are : m.groups ≡ before + groups_in trees
  pub few_members : m.count ≤ pattern_bytes
  pub few_levels : m.depth ≤ levels
  pub few_groups : m.groups ≤ pattern_groups

-- what the walk of a holder's records promises
abbrev pub TellsAll : ℕ → ℕ → Checked (List Pattern) → Result Members Refused → Type 0
TellsAll levels before found (Ok m) = CountsAll levels before found m
TellsAll levels before found (Err e) = found ≡ refused (number_of e.refusal) e.place

-- what the walk needs where it looks for a record: an offset in a holder that ends at `stop`, with so many levels left and so many groups before it
pub record Held (bs : List ℕ) (at stop levels before : ℕ) : Type 0 where
  pub before_stop : at ≤ stop
  pub inside : stop ≤ length bs
  pub few_bytes : length bs ≤ pattern_bytes
  pub few_levels : levels ≤ pattern_levels
  pub few_groups : before ≤ pattern_groups
