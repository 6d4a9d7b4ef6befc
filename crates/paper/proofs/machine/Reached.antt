-- Where the machine's threads ever stand: every pair that is seen has a place of the list and a level within the pattern's depth,
-- because every thread unfolds to a tree whose nodes all do.
use Prim.Native.Nat.{ℕ, suc, ◌<◌, ◌≤◌}
use native.Mathlib.Omega.{arith}
use mathlib.Core.Path.{◌≡◌}
use mathlib.Core.Bool.{true}
use mathlib.Core.List.{List, [], ◌∷◌}
use mathlib.Core.Option.{Option, none}
use lib.ListN.{length}
use Rattle.paper.specs.Pattern.{Pattern, all_places, depth}
use Rattle.paper.specs.Rows.{Rows, no_rows}
use Rattle.paper.specs.Machine.{places_of, Thread, at, State, fresh, is_seen, visits, pairs}
use Rattle.paper.specs.Match.{extract}
use Rattle.paper.proofs.machine.Tree.{Tree}
use Rattle.paper.proofs.machine.Sizes.{length_places}
use Rattle.paper.proofs.machine.Unfold.{Unfolds, dies, accepts, carries, splits, goes_on}
use Rattle.paper.proofs.machine.Unseen.{unseen_all}
use Rattle.paper.proofs.machine.Visit.{Gives, Leads, none_underway, left, visited_all}
use Rattle.paper.proofs.machine.Run.{good_fresh}
use Rattle.paper.proofs.machine.MachineReads.{first_gives, pairs_all}

-- the state in which the machine leaves a position
abbrev pub state_at : Pattern → ℕ → List ℕ → ℕ → List Thread → ℕ → State
state_at e first line p threads steps = visits (suc (pairs e)) (places_of e first) line p threads (fresh steps)

-- the threads with which the machine comes to a position, and the steps made before
pub data Reached (e : Pattern) (first : ℕ) (line : List ℕ) : ℕ → List Thread → ℕ → Type 0 where
  start : Reached e first line 0 (at 0 0 no_rows ∷ []) 0
  next : {p steps : ℕ} {threads : List Thread} → Reached e first line p threads steps
      → Reached e first line (suc p) (state_at e first line p threads steps).carried (state_at e first line p threads steps).steps

-- a place and a level within the machine's bounds
abbrev pub InBounds : Pattern → ℕ → ℕ → Type 0
InBounds e place level = (place < all_places e) × (level ≤ depth e)

in_bounds : {t : Tree} {p place level : ℕ} (e : Pattern) (first : ℕ) (line : List ℕ) → Unfolds (places_of e first) line (depth e) t p place level
    → InBounds e place level
in_bounds e first line (dies h) = (omega (arith, h.inside, length_places e first), h.low)
in_bounds e first line (accepts h end) = (omega (arith, h.inside, length_places e first), h.low)
in_bounds e first line (carries n h b d) = (omega (arith, h.inside, length_places e first), h.low)
in_bounds e first line (splits x y h c d) = (omega (arith, h.inside, length_places e first), h.low)
in_bounds e first line (goes_on x m h d) = (omega (arith, h.inside, length_places e first), h.low)

-- a position left by threads that give something
leaves : (e : Pattern) (first : ℕ) (line : List ℕ) (p : ℕ) (threads : List Thread) (steps : ℕ) (o : Option Rows)
    → Gives (places_of e first) line (depth e) p threads o
    → Leads (places_of e first) line (depth e) p none_underway (fresh steps) (λ k. visits k (places_of e first) line p threads (fresh steps))
    (suc (pairs e)) o
leaves e first line p threads steps o gives =
    let code = places_of e first in
    let few : left code line (depth e) (fresh steps) < suc (pairs e) = omega (arith, unseen_all (length code) (depth e), pairs_all e first line) in
    visited_all code line (depth e) p threads o gives (suc (pairs e)) (fresh steps) none (good_fresh code line (depth e) p steps) few

reached_gives : (e : Pattern) (first : ℕ) (line : List ℕ) {p steps : ℕ} {threads : List Thread} → Reached e first line p threads steps
    → (o : Option Rows) × Gives (places_of e first) line (depth e) p threads o
reached_gives e first line start = (extract e first line, first_gives e first line)
reached_gives e first line (next {p} {steps} {threads} r) =
    let gives = reached_gives e first line r in
    let led = leaves e first line p threads steps gives.0 gives.1 in
    (led.good.later, led.good.carried)

-- every pair seen at a position has a place of the pattern and a level no higher than its depth
pub seen_bounds : {p steps : ℕ} {threads : List Thread} (e : Pattern) (first : ℕ) (line : List ℕ) → Reached e first line p threads steps
    → (place level : ℕ) → is_seen place level (state_at e first line p threads steps).seen ≡ true → InBounds e place level
seen_bounds {p} {steps} {threads} e first line r place level h =
    let gives = reached_gives e first line r in
    in_bounds e first line ((leaves e first line p threads steps gives.0 gives.1).good.seen place level h).1

-- threads that all stand on level 0 at a place of the pattern
abbrev pub AllOnGround : Pattern → List Thread → Type 0
AllOnGround e [] = Unit {0}
AllOnGround e (t ∷ ts) = (t.place < all_places e) × (t.level ≡ 0) × AllOnGround e ts

-- so do all that come to a position
pub reached_ground : {p steps : ℕ} {threads : List Thread} (e : Pattern) (first : ℕ) (line : List ℕ) → Reached e first line p threads steps
    → AllOnGround e threads
reached_ground {p} {threads = threads} e first line r = let gives = reached_gives e first line r in ground threads gives.0 gives.1
  where
    ground : (ts : List Thread) (o : Option Rows) → Gives (places_of e first) line (depth e) p ts o → AllOnGround e ts
    ground [] o gives = tt
    ground (t ∷ ts) o gives = ((in_bounds e first line gives.3).0, gives.2, ground ts gives.1 gives.5)
