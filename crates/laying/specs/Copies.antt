-- What copying places asks and leaves behind: the copied places with their followers moved.
use Rattle.std.specs.Prelude.{ℕ, ◌+◌, ◌-◌, ◌≤◌, ◌<◌, ◌≡◌, cond, List, ltb, eqb}
use Rattle.paper.specs.Tables.{fork_place, place_kind_at, place_next_at, place_first_at, place_many_at}
use Rattle.laying.specs.Laid.{Kept}
use Rattle.laying.specs.Room.{most_places}
use Rattle.laying.specs.Single.{Put}

-- `moved`: where a follower leads in a copy of places
abbrev pub moved_to : ℕ → ℕ → ℕ → ℕ → ℕ → ℕ
moved_to from count to next x = cond (ltb x from) next (cond (ltb (x - from) count) (to + (x - from)) next)

-- `moved_other`: the third number of a place there
abbrev pub moved_other : ℕ → ℕ → ℕ → ℕ → ℕ → ℕ → ℕ
moved_other from count to next kind a = cond (eqb kind fork_place) (moved_to from count to next a) a

-- places that stand where they are wanted, or all before an index
pub data Model (from count wanted base : ℕ) : Type 0 where
  in_place : from ≡ wanted → Model from count wanted base
  ahead : from + count ≤ base → Model from count wanted base

-- places that are copied: there is room, and the copy stands behind them or where they do
pub record Moving (from count to next : ℕ) : Type 0 where
  pub model_room : from + count ≤ most_places
  pub room : to + count ≤ most_places
  pub follows : next ≤ most_places
  pub apart : Model from count to to

-- `place_copied`: the place is the copied one with its followers moved
abbrev pub PutMoved : ℕ → ℕ → ℕ → ℕ → ℕ → List ℕ → List ℕ → Type 0
PutMoved from count to next k before after =
    let x = from + k in
    Put before (to + k) (place_kind_at before x) (moved_to from count to next (place_next_at before x)) (moved_other from count to next (place_kind_at before x) (place_first_at before x))
    (place_many_at before x) after

pub record PlaceMoved (from count to next j : ℕ) (before after : List ℕ) : Type 0 where
  pub kind_is : place_kind_at after (to + j) ≡ place_kind_at before (from + j)
  pub next_is : place_next_at after (to + j) ≡ moved_to from count to next (place_next_at before (from + j))
  pub a_is : place_first_at after (to + j) ≡ moved_other from count to next (place_kind_at before (from + j)) (place_first_at before (from + j))
  pub n_is : place_many_at after (to + j) ≡ place_many_at before (from + j)

-- `copied`: the first `done` of the places are copied, and nothing else has changed
pub record Copied (from count to next done : ℕ) (before after : List ℕ) : Type 0 where
  pub kept : Kept to (to + done) before after
  pub moved : (j : ℕ) → j < done → PlaceMoved from count to next j before after
