-- Which memory carried threads stand in.
use Rattle.std.specs.Prelude.{◌≡◌, length}
use Rattle.threads.specs.declared.Carried.{Carried}

-- the same lent memory, as long as it was
abbrev pub SameMemory : Carried → Carried → Type 0
SameMemory c c' =
    ((c'.taken.ghost_name ≡ c.taken.ghost_name) × (c'.list.ghost_name ≡ c.list.ghost_name))
    × ((length c'.taken.now ≡ length c.taken.now) × (length c'.list.now ≡ length c.list.now))
