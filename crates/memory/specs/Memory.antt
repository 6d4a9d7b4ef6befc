-- The lent memory of a built machine: what it holds, how long it is, and what a run asks of it.
use Rattle.std.specs.Prelude.{ℕ, ◌+◌, ◌*◌, ◌≤◌, min, ◌≡◌, Bool, List, [], ◌∷◌, eqb, length, get_or, take, drop, Result, Ok, Err}
use mir.Val.{bool_byte}
use Rattle.paper.specs.Refusal.{refused}
use Rattle.paper.specs.Pattern.{groups}
use Rattle.paper.specs.Check.{pattern_of}
use Rattle.paper.specs.Tables.{place_numbers}
use Rattle.laying.specs.Room.{most_places, table_room}
use Rattle.machine.specs.Machine.{Ready}
use Rattle.machine.specs.Scratch.{pending_numbers}
use Rattle.matcher.specs.Promise.{Answers}
use Rattle.pattern.specs.declared.Numbers.{Numbers}
use Rattle.pattern.specs.declared.Refused.{Refused}
use Rattle.pattern.specs.Refusals.{number_of}
use Rattle.matcher.specs.declared.Found.{Found}

-- the numbers before a machine's table: its places, its depth, and 1 where it searches
abbrev pub head_numbers : ℕ
head_numbers = 3

abbrev pub places_in : List ℕ → ℕ
places_in machine = get_or machine 0 0

abbrev pub depth_in : List ℕ → ℕ
depth_in machine = get_or machine 1 0

abbrev pub searches_in : List ℕ → Bool
searches_in machine = eqb (get_or machine 2 0) 1

-- the length of a machine's memory, and of each of the four memories that it is run in
abbrev pub machine_numbers : ℕ
machine_numbers = head_numbers + table_room

abbrev pub scratch_numbers : ℕ
scratch_numbers = pending_numbers most_places

-- the memory holds the machine of an accepted pattern
abbrev pub MachineOf : List ℕ → List ℕ → Type 0
MachineOf pattern machine = Ready pattern (drop head_numbers machine) (searches_in machine) (places_in machine) (depth_in machine)

-- the one thing that a run asks: a memory that is long enough holds the pattern's machine
abbrev pub Runs : List ℕ → List ℕ → Type 0
Runs pattern machine = machine_numbers ≤ length machine → MachineOf pattern machine

-- the four memories that a machine is run in
pub record Memories : Type 0 where
  pub seen : List ℕ
  pub taken : List ℕ
  pub lists : List ℕ
  pub pending : List ℕ

abbrev pub memories : List ℕ → List ℕ → List ℕ → List ℕ → Memories
memories seen taken lists pending = record { seen = seen; taken = taken; lists = lists; pending = pending }

-- the length of the shortest of them
abbrev pub shortest : Memories → ℕ
shortest lent = min (min (length lent.seen) (length lent.taken)) (min (length lent.lists) (length lent.pending))

-- where a machine of so many places ends
abbrev pub machine_end : ℕ → ℕ
machine_end places = head_numbers + place_numbers * places

-- a machine in its memory, with the three numbers that are told: its head, its table, and behind them what stood there before
pub record Holds (pattern : List ℕ) (searches : Bool) (before after : List ℕ) (places deep many : ℕ) : Type 0 where
  pub head : take head_numbers after ≡ places ∷ deep ∷ bool_byte searches ∷ []
  pub ready : Ready pattern (drop head_numbers after) searches places deep
  pub many_are : many ≡ groups ready.tree
  pub behind : drop (machine_end places) after ≡ drop (machine_end places) before

-- what building promises: the refusals of checking, which leave the memory as it was, or the machine in it
abbrev pub BuildsIn : List ℕ → Bool → List ℕ → List ℕ → Result Numbers Refused → Type 0
BuildsIn pattern searches before after (Err r) = (pattern_of pattern ≡ refused (number_of r.refusal) r.place) × (after ≡ before)
BuildsIn pattern searches before after (Ok numbers) = Holds pattern searches before after numbers.places numbers.depth numbers.groups

-- what a run promises: that of a whole match or of a search, and the four memories as they were where it is refused
pub record RunsIn (pattern machine line : List ℕ) (lent lent' : Memories) (table table' : List ℕ) (r : Result Found Refused) : Type 0 where
  pub answers : Answers (searches_in machine) pattern line table r table'
  pub kept : (refusal : Refused) → r ≡ Err refusal → lent' ≡ lent
