-- The list machine: the places of a pattern, the threads at a position, and the steps that are counted.
use Rattle.std.specs.Prelude.{ℕ, zero, suc, ◌+◌, ◌-◌, ◌*◌, Bool, true, false, cond, ◌&&◌, ◌||◌, List, [], ◌∷◌, ◌++◌, eqb, length, get_or}
use Rattle.std.proofs.Math.Option.{Option, none, some}
use Rattle.paper.specs.Pattern.{Mode, greedy, lazy, Upper, up_to, no_end, Range, Pattern, Members, all_places, depth, groups}
use Rattle.paper.specs.Pattern.Pattern.{nothing, empty, bytes, group, sequence, alternation, repeat}
use Rattle.paper.specs.Pattern.Members.{two, more}
use Rattle.paper.specs.Rows.{Rows, no_rows, set_start, set_end, clear}
use Rattle.paper.specs.Reading.{takes}

-- Machine 1: a pattern with its passes written out one by one and its groups numbered.
-- `must` and `maybe` and `star` name the first group inside the pass and how many there are
pub data Core : Type 0 where
  dead : Core
  skip : Core
  eats : List Range → Core
  captures : ℕ → Core → Core
  chain : Core → Core → Core
  either : Core → Core → Core
  must : ℕ → ℕ → Core → Core → Core
  maybe : Mode → ℕ → ℕ → Core → Core → Core
  star : Mode → ℕ → ℕ → Core → Core

-- Machine 1: passes that must be made, each followed by the next, and the last by what comes then
abbrev pub musts : ℕ → ℕ → ℕ → Core → Core → Core
musts zero first n e next = next
musts (suc m) first n e next = must first n e (musts m first n e next)

-- Machine 1: optional passes, each followed by the next
abbrev pub maybes : ℕ → Mode → ℕ → ℕ → Core → Core
maybes zero mode first n e = skip
maybes (suc m) mode first n e = maybe mode first n e (maybes m mode first n e)

abbrev pub optionals : ℕ → Upper → Mode → ℕ → ℕ → Core → Core
optionals least (up_to most) mode first n e = maybes (most - least) mode first n e
optionals least no_end mode first n e = star mode first n e

-- Machine 1: a pattern written out; its first group, if it has one, is number `first`
abbrev mutual
  pub written_out : Pattern → ℕ → Core
  written_out nothing first = dead
  written_out empty first = skip
  written_out (bytes ranges) first = eats ranges
  written_out (group e) first = captures first (written_out e (suc first))
  written_out (sequence ms) first = chained ms first
  written_out (alternation ms) first = forked ms first
  written_out (repeat least upper mode e) first =
      let inside = written_out e first in
      musts least first (groups e) inside (optionals least upper mode first (groups e) inside)

  pub chained : Members → ℕ → Core
  chained (two a b) first = chain (written_out a first) (written_out b (first + groups a))
  chained (more a ms) first = chain (written_out a first) (chained ms (first + groups a))

  pub forked : Members → ℕ → Core
  forked (two a b) first = either (written_out a first) (written_out b (first + groups a))
  forked (more a ms) first = either (written_out a first) (forked ms (first + groups a))

-- Machine 1: the kinds of place, each with its followers. A begin names the first group that it clears and how many
pub data Place : Type 0 where
  one_of : List Range → ℕ → Place
  stop : Place
  fork : ℕ → ℕ → Place
  opening : ℕ → ℕ → Place
  closing : ℕ → ℕ → Place
  begin : ℕ → ℕ → ℕ → Place
  begin_optional : ℕ → ℕ → ℕ → Place
  ending : ℕ → Place
  accept : Place

-- how many places a written-out pattern has
abbrev pub size : Core → ℕ
size dead = 1
size skip = 0
size (eats ranges) = 1
size (captures k e) = suc (size e + 1)
size (chain a b) = size a + size b
size (either a b) = suc (size a + size b)
size (must first n e next) = suc (size e + size next)
size (maybe mode first n e next) = suc (suc (size e + suc (size next)))
size (star mode first n e) = suc (suc (size e + 1))

-- where a written-out pattern is entered that is laid at `base` and followed by the place `next`
abbrev pub entry : Core → ℕ → ℕ → ℕ
entry e base next = cond (eqb (size e) 0) next base

-- Machine 1: a fork prefers the pass if greedy, stopping if lazy
abbrev pub pass_fork : Mode → ℕ → ℕ → Place
pass_fork greedy pass out = fork pass out
pass_fork lazy pass out = fork out pass

-- Machine 1: the places laid from `base` on, in the order of the records, with `next` as the place that follows
abbrev pub lay : Core → ℕ → ℕ → List Place
lay dead base next = stop ∷ []
lay skip base next = []
lay (eats ranges) base next = one_of ranges next ∷ []
lay (captures k e) base next =
    let inside = base + 1 in
    let close = inside + size e in
    opening k (entry e inside close) ∷ (lay e inside close ++ (closing k next ∷ []))
lay (chain a b) base next =
    let second = base + size a in
    lay a base (entry b second next) ++ lay b second next
lay (either a b) base next =
    let first = base + 1 in
    let second = first + size a in
    fork (entry a first next) (entry b second next) ∷ (lay a first next ++ lay b second next)
lay (must first n e then) base next =
    let inside = base + 1 in
    let after = inside + size e in
    begin first n (entry e inside (entry then after next)) ∷ (lay e inside (entry then after next) ++ lay then after next)
lay (maybe mode first n e then) base next =
    let inside = base + 2 in
    let end = inside + size e in
    let after = end + 1 in
    pass_fork mode (base + 1) next ∷ begin_optional first n (entry e inside end)
    ∷ (lay e inside end ++ (ending (entry then after next) ∷ lay then after next))
lay (star mode first n e) base next =
    let inside = base + 2 in
    let end = inside + size e in
    pass_fork mode (base + 1) next ∷ begin_optional first n (entry e inside end) ∷ (lay e inside end ++ (ending base ∷ []))

-- Machine 1: the places of a pattern, with the accepting one last
abbrev pub places_of : Pattern → ℕ → List Place
places_of e first =
    let core = written_out e first in
    lay core 0 (size core) ++ (accept ∷ [])

-- Machine 2, first sentence
pub record Thread : Type 0 where
  pub place : ℕ
  pub level : ℕ
  pub rows : Rows

abbrev pub at : ℕ → ℕ → Rows → Thread
at place level rows = record { place = place; level = level; rows = rows }

-- Machine 2: what an arrival at a place leads to
pub data Move : Type 0 where
  die : Move
  win : Move
  eat : ℕ → Move
  split : ℕ → ℕ → Move
  lead : Thread → Move

-- Machine 2: the move at a place, for a thread at position p of the line
abbrev pub move_at : Place → List ℕ → ℕ → ℕ → Rows → Move
move_at (one_of ranges next) line p level rows = cond (takes ranges line p) (eat next) die
move_at stop line p level rows = die
move_at (fork preferred other) line p level rows = split preferred other
move_at (opening k next) line p level rows = lead (at next level (set_start k p rows))
move_at (closing k next) line p level rows = lead (at next level (set_end k p rows))
move_at (begin first n next) line p level rows = lead (at next level (clear first n rows))
move_at (begin_optional first n next) line p level rows = lead (at next (suc level) (clear first n rows))
move_at (ending next) line p level rows = cond (eqb level 0) (lead (at next 0 rows)) die
move_at accept line p level rows = cond (eqb p (length line)) win die

-- Machine 2: a place and the level on arrival
pub record Pair : Type 0 where
  pub place : ℕ
  pub level : ℕ

-- Machine 2: what is known at a position: the pairs seen there, the threads carried to the next, the winner's rows, and the steps so far
pub record State : Type 0 where
  pub seen : List Pair
  pub carried : List Thread
  pub won : Option Rows
  pub steps : ℕ

abbrev pub fresh : ℕ → State
fresh steps = record { seen = []; carried = []; won = none; steps = steps }

abbrev pub is_seen : ℕ → ℕ → List Pair → Bool
is_seen place level [] = false
is_seen place level (q ∷ qs) = (eqb q.place place && eqb q.level level) || is_seen place level qs

abbrev pub is_won : Option Rows → Bool
is_won none = false
is_won (some rows) = true

-- Machine 2: a pair already seen at this position is dropped; after accept at the line's end the machine has stopped
abbrev pub blocked : Thread → State → Bool
blocked t s = is_won s.won || is_seen t.place t.level s.seen

-- Machine 2: otherwise it is one step
abbrev pub mark : Thread → State → State
mark t s =
    record { seen = record { place = t.place; level = t.level } ∷ s.seen; carried = s.carried; won = s.won; steps = s.steps + 1 }

-- Machine 2: a set that holds the next byte carries its follower, at level 0, behind those carried before
abbrev pub carry : ℕ → Rows → State → State
carry place rows s = record { seen = s.seen; carried = s.carried ++ (at place 0 rows ∷ []); won = s.won; steps = s.steps }

-- Machine 2: accept at the line's end stops the machine with that thread's groups
abbrev pub stop_with : Rows → State → State
stop_with rows s = record { seen = s.seen; carried = s.carried; won = some rows; steps = s.steps }

-- Machine 2: a move is followed wholly; a fork's preferred branch wholly before the other
abbrev pub follow : (Thread → State → State) → Thread → Move → State → State
follow visit t die s = s
follow visit t win s = stop_with t.rows s
follow visit t (eat next) s = carry next t.rows s
follow visit t (split preferred other) s = visit (at other t.level t.rows) (visit (at preferred t.level t.rows) s)
follow visit t (lead u) s = visit u s

-- Machine 2: an arrival, blocked or not
abbrev pub arrive : (Thread → State → State) → List Place → List ℕ → ℕ → Bool → Thread → State → State
arrive visit code line p true t s = s
arrive visit code line p false t s = follow visit t (move_at (get_or code t.place stop) line p t.level t.rows) (mark t s)

-- Machine 2: an arrival with all that it leads to at this position. The first number bounds how far it leads
abbrev pub visit : ℕ → List Place → List ℕ → ℕ → Thread → State → State
visit zero code line p t s = s
visit (suc turns) code line p t s = arrive (visit turns code line p) code line p (blocked t s) t s

-- Machine 2: the carried threads are taken in order
abbrev pub visits : ℕ → List Place → List ℕ → ℕ → List Thread → State → State
visits turns code line p [] s = s
visits turns code line p (t ∷ ts) s = visits turns code line p ts (visit turns code line p t s)

-- Machine 2: how the machine stops: with a thread's groups or with no match, and the steps made
pub data Stopped : Type 0 where
  matched : ℕ → Rows → Stopped
  unmatched : ℕ → Stopped

-- Machine 2: stop at a winner, stop with nothing carried, else go on with what is carried
abbrev pub settle : (List Thread → ℕ → Stopped) → Option Rows → List Thread → ℕ → Stopped
settle next (some rows) carried steps = matched steps rows
settle next none [] steps = unmatched steps
settle next none (t ∷ ts) steps = next (t ∷ ts) steps

-- Machine 2: the positions of the line one after the other. The first number bounds how many
abbrev pub run : ℕ → ℕ → List Place → List ℕ → ℕ → List Thread → ℕ → Stopped
run zero turns code line p threads steps = unmatched steps
run (suc positions) turns code line p threads steps =
    let s = visits turns code line p threads (fresh steps) in
    settle (run positions turns code line (suc p)) s.won s.carried s.steps

-- Machine 2: no position has more pairs than this: a level for each optional pass that can be open, and level 0
abbrev pub pairs : Pattern → ℕ
pairs e = all_places e * (depth e + 1)

-- Machine 2: the machine of a pattern on a line, started at the first place on level 0
abbrev pub machine : Pattern → ℕ → List ℕ → Stopped
machine e first line = run (suc (length line)) (suc (pairs e)) (places_of e first) line 0 (at 0 0 no_rows ∷ []) 0

abbrev pub steps_of : Stopped → ℕ
steps_of (matched steps rows) = steps
steps_of (unmatched steps) = steps

abbrev pub rows_of : Stopped → Option Rows
rows_of (matched steps rows) = some rows
rows_of (unmatched steps) = none
