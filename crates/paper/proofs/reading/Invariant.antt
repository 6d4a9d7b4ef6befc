-- One induction over patterns: a relation from where a reading starts to where an outcome ends holds of every outcome
-- as soon as it is kept by each thing that a reading does: standing still, going on, taking a byte, setting a row, clearing a row.
use Prim.Native.Nat.{ℕ, zero, suc, ◌+◌, ◌≤◌, ◌<◌}
use mathlib.Core.Path.{◌≡◌, refl}
use mathlib.Core.Bool.{Bool, true, false, cond, ◌&&◌}
use mathlib.Core.List.{List, []}
use lib.Dec.{eqb, ltb}
use lib.ListN.{length, get_or}
use native.Mathlib.Omega.{arith}
use borrow.Author.Tests.{ltb-true}
use Rattle.paper.specs.Limits.{absent}
use Rattle.paper.specs.Pattern.{Mode, greedy, lazy, Range, Pattern, Members, groups, groups_of_all}
use Rattle.paper.specs.Pattern.Pattern.{nothing, empty, bytes, group, sequence, alternation, repeat}
use Rattle.paper.specs.Pattern.Members.{two, more}
use Rattle.paper.specs.Rows.{Rows, set_row, clear}
use Rattle.paper.specs.Reading.{Reading, here, in_turn, or_else, in_set, takes, one_byte, spanning, grouped, pass_of, must_passes, unless_at, consuming, prefer, optional_passes, optional_count, read, read_sequence, read_alternation}
use Rattle.paper.proofs.reading.Every.{Every, every_append, every_bind, every_weaken}

-- a relation from a start (position and rows) to an end (position and rows)
abbrev pub Relation : Type 1
Relation = ℕ → Rows → ℕ → Rows → Type 0

-- what a reading can do, where it sets and clears only the rows from `low` up to `high`
pub record Kept (line : List ℕ) (low high : ℕ) (J : Relation) : Type 0 where
  pub stay : (p : ℕ) (rows : Rows) → J p rows p rows
  pub join : (p : ℕ) (r : Rows) (q : ℕ) (s : Rows) (t : ℕ) (u : Rows) → J p r q s → J q s t u → J p r t u
  pub byte : (p : ℕ) (rows : Rows) → p < length line → J p rows (suc p) rows
  pub span : (k : ℕ) → low ≤ k → k < high → (p : ℕ) (r : Rows) (q : ℕ) (s : Rows) → J p r q s → J p r q (set_row k p q s)
  pub clean : (k : ℕ) → low ≤ k → k < high → (p : ℕ) (rows : Rows) → J p rows p (set_row k absent absent rows)

-- the relation holds of every outcome of a reading
abbrev pub Sound : Relation → Reading → Type 0
Sound J reading = (p : ℕ) (rows : Rows) → Every (J p rows) (reading p rows)

taken : (ranges : List Range) (line : List ℕ) (p : ℕ) → takes ranges line p ≡ true → p < length line
taken ranges line p e = split (ltb p (length line)) refl e
  where
    split : (b : Bool) → ltb p (length line) ≡ b → (b && in_set ranges (get_or line p 0)) ≡ true → p < length line
    split true h g = ltb-true p (length line) h
    split false h g = let z : ◌≡◌ {A = ℕ} 0 1 = cc in absurd (omega arith)

module _ (line : List ℕ) (low high : ℕ) (J : Relation) (kept : Kept line low high J) where
  in_turn_sound : (a b : Reading) → Sound J a → Sound J b → Sound J (in_turn a b)
  in_turn_sound a b sa sb p rows =
      every_bind (J p rows) (J p rows) (a p rows) b (sa p rows)
      (λ q s h. every_weaken (J q s) (J p rows) (b q s) (sb q s) (λ t u g. kept.join p rows q s t u h g))

  or_else_sound : (a b : Reading) → Sound J a → Sound J b → Sound J (or_else a b)
  or_else_sound a b sa sb p rows = every_append (J p rows) (a p rows) (b p rows) (sa p rows) (sb p rows)

  here_sound : Sound J here
  here_sound p rows = (kept.stay p rows, tt)

  one_byte_sound : (ranges : List Range) → Sound J (one_byte ranges line)
  one_byte_sound ranges p rows = look (takes ranges line p) refl
    where
      look : (b : Bool) → takes ranges line p ≡ b → Every (J p rows) (cond b (here (suc p) rows) [])
      look true e = (kept.byte p rows (taken ranges line p e), tt)
      look false e = tt

  grouped_sound : (k : ℕ) → low ≤ k → k < high → (inside : Reading) → Sound J inside → Sound J (grouped k inside)
  grouped_sound k l h inside s p rows =
      every_bind (J p rows) (J p rows) (inside p rows) (spanning k p) (s p rows) (λ q u g. (kept.span k l h p rows q u g, tt))

  clear_kept : (n k : ℕ) → low ≤ k → k + n ≤ high → (p : ℕ) (rows : Rows) → J p rows p (clear k n rows)
  clear_kept zero k l h p rows = kept.stay p rows
  clear_kept (suc n) k l h p rows =
      let cleared = set_row k absent absent rows in
      kept.join p rows p cleared p (clear (suc k) n cleared) (kept.clean k l (omega arith) p rows)
      (clear_kept n (suc k) (omega arith) (omega arith) p cleared)

  pub pass_of_sound : (first n : ℕ) → low ≤ first → first + n ≤ high → (inside : Reading) → Sound J inside → Sound J (pass_of first n inside)
  pass_of_sound first n l h inside s p rows =
      let cleared = clear first n rows in
      every_weaken (J p cleared) (J p rows) (inside p cleared) (s p cleared)
      (λ q u g. kept.join p rows p cleared q u (clear_kept n first l h p rows) g)

  consuming_sound : (pass : Reading) → Sound J pass → Sound J (consuming pass)
  consuming_sound pass s p rows = every_bind (J p rows) (J p rows) (pass p rows) (unless_at p) (s p rows) (λ q u g. keep q u g (eqb q p))
    where
      keep : (q : ℕ) (u : Rows) → J p rows q u → (b : Bool) → Every (J p rows) (cond b [] (here q u))
      keep q u g true = tt
      keep q u g false = (g, tt)

  must_passes_sound : (n : ℕ) (pass next : Reading) → Sound J pass → Sound J next → Sound J (must_passes n pass next)
  must_passes_sound zero pass next s g = g
  must_passes_sound (suc n) pass next s g = in_turn_sound pass (must_passes n pass next) s (must_passes_sound n pass next s g)

  prefer_sound : (mode : Mode) (again stop : Reading) → Sound J again → Sound J stop → Sound J (prefer mode again stop)
  prefer_sound greedy again stop s g = or_else_sound again stop s g
  prefer_sound lazy again stop s g = or_else_sound stop again g s

  pub optional_passes_sound : (n : ℕ) (mode : Mode) (pass : Reading) → Sound J pass → Sound J (optional_passes n mode pass)
  optional_passes_sound zero mode pass s = here_sound
  optional_passes_sound (suc n) mode pass s =
      prefer_sound mode (in_turn (consuming pass) (optional_passes n mode pass)) here
      (in_turn_sound (consuming pass) (optional_passes n mode pass) (consuming_sound pass s) (optional_passes_sound n mode pass s))
      here_sound

  mutual
    -- a relation that is kept holds of every outcome of a pattern whose groups are numbered from `low` up to `high`
    pub read_sound : (e : Pattern) (first : ℕ) → low ≤ first → first + groups e ≤ high → Sound J (read e line first)
    read_sound nothing first l h = λ p rows. tt
    read_sound empty first l h = here_sound
    read_sound (bytes ranges) first l h = one_byte_sound ranges
    read_sound (group e) first l h =
        grouped_sound first l (omega arith) (read e line (suc first)) (read_sound e (suc first) (omega arith) (omega arith))
    read_sound (sequence ms) first l h = read_sequence_sound ms first l h
    read_sound (alternation ms) first l h = read_alternation_sound ms first l h
    read_sound (repeat least upper mode e) first l h =
        let inside = read e line first in
        let pass = pass_of first (groups e) inside in
        let passes = pass_of_sound first (groups e) l h inside (read_sound e first l h) in
        let optional = optional_count least upper line in
        must_passes_sound least pass (optional_passes optional mode pass) passes (optional_passes_sound optional mode pass passes)

    read_sequence_sound : (ms : Members) (first : ℕ) → low ≤ first → first + groups_of_all ms ≤ high → Sound J (read_sequence ms line first)
    read_sequence_sound (two a b) first l h =
        in_turn_sound (read a line first) (read b line (first + groups a)) (read_sound a first l (omega arith))
        (read_sound b (first + groups a) (omega arith) (omega arith))
    read_sequence_sound (more a ms) first l h =
        in_turn_sound (read a line first) (read_sequence ms line (first + groups a)) (read_sound a first l (omega arith))
        (read_sequence_sound ms (first + groups a) (omega arith) (omega arith))

    read_alternation_sound : (ms : Members) (first : ℕ) → low ≤ first → first + groups_of_all ms ≤ high
        → Sound J (read_alternation ms line first)
    read_alternation_sound (two a b) first l h =
        or_else_sound (read a line first) (read b line (first + groups a)) (read_sound a first l (omega arith))
        (read_sound b (first + groups a) (omega arith) (omega arith))
    read_alternation_sound (more a ms) first l h =
        or_else_sound (read a line first) (read_alternation ms line (first + groups a)) (read_sound a first l (omega arith))
        (read_alternation_sound ms (first + groups a) (omega arith) (omega arith))
