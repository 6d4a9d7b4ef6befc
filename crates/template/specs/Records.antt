-- The walk over a template's records: where it starts, and what each call gives.
use Rattle.std.specs.Prelude.{ℕ, ◌≡◌, List, Option, Some, None}
use Rattle.template.specs.declared.Record.{Record}
use Rattle.template.specs.declared.Records.{Records}
use Rattle.template.specs.Record.{Shows, next_of}

-- all records of these bytes are still to come
abbrev pub Start : List ℕ → Records → Type 0
Start bs s = (s.template.now ≡ bs) × (s.at ≡ 0)

-- the record that stands where the walk is, and the walk goes on behind it; or none, and it stays
abbrev pub Goes : Records → Option (ℕ × Record) → Records → Type 0
Goes s None t = (t.template.now ≡ s.template.now) × (t.at ≡ s.at) × Shows s.template.now s.at None
Goes s (Some (at, found)) t =
    (t.template.now ≡ s.template.now) × (t.at ≡ next_of found) × (at ≡ s.at) × Shows s.template.now s.at (Some found)
