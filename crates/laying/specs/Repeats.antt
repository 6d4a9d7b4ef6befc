-- What laying the passes of a repeat asks and leaves behind. Each promise holds for every written-out pattern that the inner part lays.
use Rattle.std.specs.Prelude.{ℕ, zero, suc, ◌+◌, ◌≤◌, ◌≡◌, Bool, true, false, cond, List, eqb, length}
use Rattle.paper.specs.Limits.{pattern_places, row_count}
use Rattle.paper.specs.Pattern.{Mode}
use Rattle.paper.specs.Check.{mode_of}
use Rattle.paper.specs.Machine.{Core, skip, maybe, star, musts, size}
use Rattle.paper.specs.Tables.{place_of}
use Rattle.pattern.specs.Walk.{pass_places}
use Rattle.laying.specs.Laid.{Holds, Kept, entry_of, Lays}
use Rattle.laying.specs.Room.{most_places}
use Rattle.laying.specs.Single.{Head}
use Rattle.laying.specs.Copies.{Model}
use Rattle.laying.specs.declared.repeats.Passes.{Passes}

-- `passes`: passes that must be made, then optional ones; without an upper end there is one of these
abbrev pub optional_core : Bool → ℕ → Mode → ℕ → ℕ → Core → Core
optional_core true zero mode first n e = skip
optional_core true (suc may) mode first n e = star mode first n e
optional_core false zero mode first n e = skip
optional_core false (suc may) mode first n e = maybe mode first n e (optional_core false may mode first n e)

abbrev pub pass_core : ℕ → Bool → ℕ → Mode → ℕ → ℕ → Core → Core
pass_core least endless may mode first n e = musts least first n e (optional_core endless may mode first n e)

-- `inner_start`: where the inner part of the first pass starts
abbrev pub inner_start : ℕ → ℕ → ℕ
inner_start least base = cond (eqb least 0) (base + 2) (base + 1)

-- `begun`: a begin of a pass, and room for the pass; the inner part stands there already, or before
pub record Begun (model p kind first g base next : ℕ) : Type 0 where
  pub head : Head kind first g
  pub room : base + 1 + p ≤ most_places
  pub follows : next ≤ most_places
  pub stands : Model model p (base + 1) base

pub record BegunLaid (model p kind first g base next : ℕ) (before after : List ℕ) : Type 0 where
  pub kept : Kept base (base + 1 + p) before after
  pub head : (bs : List ℕ) → Holds after bs base (place_of bs kind (entry_of p (base + 1) next) first g)
  pub laid : (bs : List ℕ) (e : Core) → p ≡ size e → Lays before bs e model (model + p) → Lays after bs e (base + 1) next

-- `passes`: the same of all passes; what they copy is asked for where there is a pass
pub record Repeating (model p first g least may : ℕ) (endless : Bool) (base next : ℕ) : Type 0 where
  pub first_small : first ≤ row_count
  pub groups_small : g ≤ row_count
  pub once : endless ≡ true → may ≤ 1
  pub room : base + pass_places least may p ≤ most_places
  pub follows : next ≤ most_places
  pub stands : Model model p (inner_start least base) base

pub record PassesLaid (model p first g least may : ℕ) (endless : Bool) (mode base next : ℕ) (before after : List ℕ) : Type 0 where
  pub kept : Kept base (base + pass_places least may p) before after
  pub laid : (bs : List ℕ) (e : Core) → p ≡ size e → ((least + may ≡ 0 → ⊥) → Lays before bs e model (model + p))
      → Lays after bs (pass_core least endless may (mode_of mode) first g e) base next

-- the same of the passes as they are told
abbrev pub PassesAsked : Passes → Type 0
PassesAsked p = Repeating p.pass.model p.pass.places p.pass.first p.pass.groups p.must p.may p.endless p.base p.next

abbrev pub PassesMade : Passes → List ℕ → List ℕ → Type 0
PassesMade p = PassesLaid p.pass.model p.pass.places p.pass.first p.pass.groups p.must p.may p.endless p.mode p.base p.next

-- `must_passes`: so many passes are left to be laid from an index on, and whoever lays them has laid them all
pub record PassesLeft (model p first g least may : ℕ) (endless : Bool) (mode base next must left from : ℕ) (before now : List ℕ) : Type 0 where
  pub asked : Repeating model p first g must left endless from next
  pub same_length : length now ≡ length before
  pub all : (after : List ℕ) → PassesLaid model p first g must left endless mode from next now after
      → PassesLaid model p first g least may endless mode base next before after

abbrev pub PassesToMake : Passes → ℕ → ℕ → ℕ → List ℕ → List ℕ → Type 0
PassesToMake p = PassesLeft p.pass.model p.pass.places p.pass.first p.pass.groups p.must p.may p.endless p.mode p.base p.next

-- `inner_places`: the places of some passes, and there is a pass
pub record Passed (all least may : ℕ) : Type 0 where
  pub inside : ℕ
  pub all_are : all ≡ pass_places least may inside
  pub some : least + may ≡ 0 → ⊥
  pub small : all ≤ pattern_places

pub record PassedInside (all least may r : ℕ) : Type 0 where
  pub same : (m : Passed all least may) → r ≡ m.inside
