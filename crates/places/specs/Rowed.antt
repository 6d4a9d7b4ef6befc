-- Records of an accepted pattern that stand one after another, one by one.
use Rattle.std.specs.Prelude.{◌≤◌, ◌<◌, ◌≡◌, Option, Some, None}
use Rattle.paper.specs.Check.{body_end}
use Rattle.places.specs.Sums.{Counting, Counted}
use Rattle.places.specs.declared.sums.Sums.{Sums}
use Rattle.places.specs.declared.sums.Records.{Records}
use Rattle.places.specs.declared.sums.Record.{Record}

-- they stand there
abbrev pub Waiting : Records → Type 0
Waiting m = Counting m.pattern.now m.at m.stop

-- the first of them and the others, or none where none is left
abbrev pub Goes : Records → Option Record → Records → Type 0
Goes s None t = s.stop ≤ s.at
Goes s (Some m) t =
    (s.at < s.stop) × (m.pattern ≡ s.pattern) × (m.at ≡ s.at) × (m.end ≡ body_end s.pattern.now s.at) × (t.pattern ≡ s.pattern) × (t.at ≡ m.end) × (t.stop ≡ s.stop)

-- one of them stands up to its end
pub record Alone (m : Record) : Type 0 where
  pub counting : Counting m.pattern.now m.at m.end
  pub ends : body_end m.pattern.now m.at ≡ m.end

-- what they add up to
abbrev pub AddsUp : Records → Sums → Type 0
AddsUp m s = Counted m.pattern.now m.at m.stop s.places s.groups s.records

abbrev pub OneAddsUp : Record → Sums → Type 0
OneAddsUp r s = Counted r.pattern.now r.at r.end s.places s.groups s.records
