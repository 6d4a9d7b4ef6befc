-- Lent memory that stays the same from one use to the next stays the same over both.
use mathlib.Core.Path.{◌∙◌}
use Rattle.threads.specs.declared.Carried.{Carried}
use Rattle.threads.specs.Memory.{SameMemory}

pub same_on : (a b c : Carried) → SameMemory a b → SameMemory b c → SameMemory a c
same_on a b c ((taken, list), (taken_long, list_long)) ((taken', list'), (taken_long', list_long')) =
    ((taken' ∙ taken, list' ∙ list), (taken_long' ∙ taken_long, list_long' ∙ list_long))
