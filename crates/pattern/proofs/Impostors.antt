-- What the promise of checking shuts out: one that refuses everything, and one that accepts everything. The definitions' answer is computed in both.
use Prim.Native.Nat.{ℕ}
use mathlib.Core.Path.{sym, ap}
use mathlib.Core.Bool.{Bool, true, false, true≢false}
use mathlib.Core.List.{List, [], ◌∷◌}
use Rattle.paper.specs.Refusal.{Checked, refused, accepted}
use Rattle.paper.specs.Check.{Numbers}
use Rattle.std.specs.Prelude.{Ok, Err}
use Rattle.pattern.specs.declared.Refused.{Refused}
use Rattle.pattern.specs.declared.Numbers as declared
use Rattle.pattern.specs.Answer.{Checks}

abbrev is_accepted : Checked Numbers → Bool
is_accepted (refused number place) = false
is_accepted (accepted numbers) = true

-- the pattern of case 4, the set that holds the byte a
abbrev a : List ℕ
a = 2 ∷ 0 ∷ 2 ∷ 0 ∷ 97 ∷ 97 ∷ []

pub refuses_all : (r : Refused) → Checks a (Err r) → ⊥
refuses_all r p = true≢false (sym (ap is_accepted p.answer))

-- no bytes are no pattern
pub accepts_all : (numbers : declared.Numbers) → Checks [] (Ok numbers) → ⊥
accepts_all numbers p = true≢false (ap is_accepted p.answer)
