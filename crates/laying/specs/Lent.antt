-- What a call that writes into a lent table leaves behind.
use Rattle.std.specs.Prelude.{ℕ, ◌≡◌, List}
use Rattle.laying.specs.declared.table.Table.{Table}

-- the table is the same one, and its numbers before and after meet the promise
abbrev pub Writes : (List ℕ → List ℕ → Type 0) → Table → Table → Type 0
Writes promise before after = (after.numbers.ghost_name ≡ before.numbers.ghost_name) × promise before.numbers.now after.numbers.now
