-- A reading inside a line is the reading of the rest as a line of its own, with ends and rows moved by where the rest starts.
-- Each thing that a reading does commutes with the move; where the two lines bound the optional passes differently, both bounds are enough.
use Prim.Native.Nat.{ℕ, zero, suc, ◌+◌, ◌-◌, ◌*◌, ◌≤◌, ◌<◌}
use mathlib.Core.Path.{◌≡◌, refl, sym, ap, ap₂, ◌∙◌}
use mathlib.Core.Bool.{Bool, true, false, cond, ◌&&◌}
use mathlib.Core.List.{List, [], ◌∷◌, ◌++◌, map, map-append}
use mathlib.Core.Option
use mathlib.Core.Option.{Option, some}
use native.Mathlib.Omega.{arith}
use native.Mathlib.Nat.{add-suc, add-zero}
use lib.Dec.{ltb, eqb}
use lib.ListN.{length, set, drop, length-drop}
use lib.Seq.{get_or-drop}
use borrow.Author.Tests.{ltb-true, ltb-false, eqb-true, eqb-false, lt-ltb, le-ltb, eq-eqb, ne_eqb}
use Rattle.paper.specs.Limits.{line_bytes, absent}
use Rattle.paper.specs.Pattern.{Mode, greedy, lazy, Upper, up_to, no_end, Range, Pattern, Members, groups}
use Rattle.paper.specs.Pattern.Pattern.{nothing, empty, bytes, group, sequence, alternation, repeat}
use Rattle.paper.specs.Pattern.Members.{two, more}
use Rattle.paper.specs.Rows.{Rows, no_rows, set_start, set_end, set_row, clear}
use Rattle.paper.specs.Reading.{Outcome, Reading, here, bind, in_turn, or_else, in_set, takes, one_byte, spanning, grouped, pass_of, must_passes, unless_at, consuming, prefer, optional_passes, optional_count, read, read_sequence, read_alternation}
use Rattle.paper.specs.Match.{first_ending_at, wrap, search}
use Rattle.paper.specs.Replace.{moved_by, moved}
use Rattle.paper.proofs.reading.Every.{Every, every_weaken}
use Rattle.paper.proofs.reading.Invariant.{Sound}
use Rattle.paper.proofs.reading.Ends.{Within, ends, pass_ends}
use Rattle.paper.proofs.reading.Passes.{Beyond, consuming_ends, enough_passes}

-- Tests that do not see the move

same_test : (a b c d : ℕ) → (a < b → c < d) → (c < d → a < b) → ltb a b ≡ ltb c d
same_test a b c d f g = look (ltb c d) refl
  where
    look : (t : Bool) → ltb c d ≡ t → ltb a b ≡ t
    look true e = lt-ltb a b (g (ltb-true c d e))
    look false e =
        let differ : a < b → ⊥ = λ h. (let z : c < d = f h in omega (arith, ltb-false c d e)) in
        le-ltb a b (omega arith)

-- whether there is a byte does not change
pub inside_moved : (p q : ℕ) (line : List ℕ) → ltb (p + q) (length line) ≡ ltb q (length (drop p line))
inside_moved p q line =
    same_test (p + q) (length line) q (length (drop p line)) (λ h. omega (arith, length-drop p line)) (λ h. omega (arith, length-drop p line))

-- two moved places are the same if they were
pub place_moved : (p q r : ℕ) → eqb (p + q) (p + r) ≡ eqb q r
place_moved p q r = look (eqb q r) refl
  where
    look : (t : Bool) → eqb q r ≡ t → eqb (p + q) (p + r) ≡ t
    look true e = eq-eqb (p + q) (p + r) (ap (λ (n : ℕ). p + n) (eqb-true q r e))
    look false e =
        let differ : q ≡ r → ⊥ = eqb-false q r e in
        ne_eqb (p + q) (p + r) (omega arith)

-- a set takes the same byte
pub takes_moved : (ranges : List Range) (p q : ℕ) (line : List ℕ) → takes ranges line (p + q) ≡ takes ranges (drop p line) q
takes_moved ranges p q line =
    ap₂ (λ (inside : Bool) (byte : ℕ). inside && in_set ranges byte) (inside_moved p q line) (sym (get_or-drop p line q 0))

-- Rows that are moved

set_moved : (p i n : ℕ) (rows : Rows) → set (moved p rows) i (moved_by p n) ≡ moved p (set rows i n)
set_moved p zero n [] = refl
set_moved p (suc i) n [] = refl
set_moved p zero n (x ∷ rows) = refl
set_moved p (suc i) n (x ∷ rows) = ap (λ (r : Rows). moved_by p x ∷ r) (set_moved p i n rows)

-- a true place moves by p
pub true_place : (p n : ℕ) → n < absent → moved_by p n ≡ p + n
true_place p n h = ap (λ (b : Bool). cond b absent (p + n)) (ne_eqb n absent (omega arith))

-- to set a number of a row to a place and to move is to move and to set it to the moved place
pub set_start_moved : (p k q : ℕ) (rows : Rows) → q < absent → set_start k (p + q) (moved p rows) ≡ moved p (set_start k q rows)
set_start_moved p k q rows h =
    ap (λ (n : ℕ). set (moved p rows) (2 * k) n) (sym (true_place p q h)) ∙ set_moved p (2 * k) q rows

pub set_end_moved : (p k q : ℕ) (rows : Rows) → q < absent → set_end k (p + q) (moved p rows) ≡ moved p (set_end k q rows)
set_end_moved p k q rows h =
    ap (λ (n : ℕ). set (moved p rows) (2 * k + 1) n) (sym (true_place p q h)) ∙ set_moved p (2 * k + 1) q rows

pub set_row_moved : (p k q r : ℕ) (rows : Rows) → q < absent → r < absent → set_row k (p + q) (p + r) (moved p rows) ≡ moved p (set_row k q r rows)
set_row_moved p k q r rows h g = ap (set_end k (p + r)) (set_start_moved p k q rows h) ∙ set_end_moved p k r (set_start k q rows) g

-- absent rows do not move
pub clear_moved : (p n k : ℕ) (rows : Rows) → clear k n (moved p rows) ≡ moved p (clear k n rows)
clear_moved p zero k rows = refl
clear_moved p (suc n) k rows =
    ap (λ (r : Rows). clear (suc k) n r)
    (ap (set_end k absent) (set_moved p (2 * k) absent rows) ∙ set_moved p (2 * k + 1) absent (set_start k absent rows)) ∙
    clear_moved p n (suc k) (set_row k absent absent rows)

-- Outcomes that are moved

abbrev pub moved_outcome : ℕ → Outcome → Outcome
moved_outcome p o = record { end = p + o.end; rows = moved p o.rows }

abbrev pub moved_outcomes : ℕ → List Outcome → List Outcome
moved_outcomes p os = map (moved_outcome p) os

-- the first reading, from moved places up to the n-th, has the outcomes of the second moved
abbrev pub Follows : ℕ → ℕ → Reading → Reading → Type 0
Follows p n f g = (q : ℕ) (rows : Rows) → q ≤ n → f (p + q) (moved p rows) ≡ moved_outcomes p (g q rows)

abbrev UpTo : ℕ → ℕ → Rows → Type 0
UpTo n q s = q ≤ n

bind_moved : (p n : ℕ) (f g : Reading) → Follows p n f g → (os : List Outcome) → Every (UpTo n) os
    → bind (moved_outcomes p os) f ≡ moved_outcomes p (bind os g)
bind_moved p n f g follows [] h = refl
bind_moved p n f g follows (o ∷ os) h =
    ap₂ (λ (a b : List Outcome). a ++ b) (follows o.end o.rows h.0) (bind_moved p n f g follows os h.1) ∙
    sym (map-append (moved_outcome p) (g o.end o.rows) (bind os g))

in_turn_moved : (p n : ℕ) (a b a' b' : Reading) → Follows p n a a' → Follows p n b b' → Sound (Within n) a'
    → Follows p n (in_turn a b) (in_turn a' b')
in_turn_moved p n a b a' b' fa fb s q rows h =
    ap (λ (os : List Outcome). bind os b) (fa q rows h) ∙
    bind_moved p n b b' fb (a' q rows) (every_weaken (Within n q rows) (UpTo n) (a' q rows) (s q rows) (λ t u w. omega arith))

or_else_moved : (p n : ℕ) (a b a' b' : Reading) → Follows p n a a' → Follows p n b b' → Follows p n (or_else a b) (or_else a' b')
or_else_moved p n a b a' b' fa fb q rows h =
    ap₂ (λ (os us : List Outcome). os ++ us) (fa q rows h) (fb q rows h) ∙ sym (map-append (moved_outcome p) (a' q rows) (b' q rows))

here_moved : (p n : ℕ) → Follows p n here here
here_moved p n q rows h = refl

one_byte_moved : (ranges : List Range) (p n : ℕ) (line : List ℕ) → Follows p n (one_byte ranges line) (one_byte ranges (drop p line))
one_byte_moved ranges p n line q rows h =
    ap₂ (λ (b : Bool) (end : ℕ). cond b (here end (moved p rows)) []) (takes_moved ranges p q line) (sym (add-suc p q)) ∙
    look (takes ranges (drop p line) q)
  where
    look : (b : Bool) → cond b (here (p + suc q) (moved p rows)) [] ≡ moved_outcomes p (cond b (here (suc q) rows) [])
    look true = refl
    look false = refl

module _ (p n : ℕ) where
  grouped_moved : n < absent → (k : ℕ) (inside inside' : Reading) → Follows p n inside inside' → Sound (Within n) inside'
      → Follows p n (grouped k inside) (grouped k inside')
  grouped_moved small k inside inside' f s q rows h =
      ap (λ (os : List Outcome). bind os (spanning k (p + q))) (f q rows h) ∙
      bind_moved p n (spanning k (p + q)) (spanning k q)
      (λ t u g. ap (λ (r : Rows). here (p + t) r) (set_row_moved p k q t u (omega arith) (omega arith)))
      (inside' q rows)
      (every_weaken (Within n q rows) (UpTo n) (inside' q rows) (s q rows) (λ t u w. omega arith))

  pass_of_moved : (first count : ℕ) (inside inside' : Reading) → Follows p n inside inside'
      → Follows p n (pass_of first count inside) (pass_of first count inside')
  pass_of_moved first count inside inside' f q rows h =
      ap (inside (p + q)) (clear_moved p count first rows) ∙ f q (clear first count rows) h

  consuming_moved : (pass pass' : Reading) → Follows p n pass pass' → Sound (Within n) pass' → Follows p n (consuming pass) (consuming pass')
  consuming_moved pass pass' f s q rows h =
      ap (λ (os : List Outcome). bind os (unless_at (p + q))) (f q rows h) ∙
      bind_moved p n (unless_at (p + q)) (unless_at q)
      (λ t u g. ap (λ (b : Bool). cond b [] (here (p + t) (moved p u))) (place_moved p t q) ∙ look t u (eqb t q))
      (pass' q rows)
      (every_weaken (Within n q rows) (UpTo n) (pass' q rows) (s q rows) (λ t u w. omega arith))
    where
      look : (t : ℕ) (u : Rows) (b : Bool) → cond b [] (here (p + t) (moved p u)) ≡ moved_outcomes p (cond b [] (here t u))
      look t u true = refl
      look t u false = refl

  must_passes_moved : (m : ℕ) (pass next pass' next' : Reading) → Follows p n pass pass' → Sound (Within n) pass' → Follows p n next next'
      → Follows p n (must_passes m pass next) (must_passes m pass' next')
  must_passes_moved zero pass next pass' next' f s g = g
  must_passes_moved (suc m) pass next pass' next' f s g =
      in_turn_moved p n pass (must_passes m pass next) pass' (must_passes m pass' next') f (must_passes_moved m pass next pass' next' f s g) s

  prefer_moved : (mode : Mode) (a a' : Reading) → Follows p n a a' → Follows p n (prefer mode a here) (prefer mode a' here)
  prefer_moved greedy a a' f = or_else_moved p n a here a' here f (here_moved p n)
  prefer_moved lazy a a' f = or_else_moved p n here a here a' (here_moved p n) f

  optional_passes_moved : (m : ℕ) (mode : Mode) (pass pass' : Reading) → Follows p n pass pass' → Sound (Within n) pass'
      → Follows p n (optional_passes m mode pass) (optional_passes m mode pass')
  optional_passes_moved zero mode pass pass' f s = here_moved p n
  optional_passes_moved (suc m) mode pass pass' f s =
      prefer_moved mode (in_turn (consuming pass) (optional_passes m mode pass)) (in_turn (consuming pass') (optional_passes m mode pass'))
      (in_turn_moved p n (consuming pass) (optional_passes m mode pass) (consuming pass') (optional_passes m mode pass')
      (consuming_moved pass pass' f s)
      (optional_passes_moved m mode pass pass' f s)
      (λ q rows. every_weaken (Beyond n q) (Within n q rows) (consuming pass' q rows) (consuming_ends n pass' s q rows) (λ t u w. omega arith)))

module _ (p : ℕ) (line : List ℕ) (small : length line ≤ line_bytes) where
  optional_moved : (least : ℕ) (upper : Upper) (mode : Mode) (pass pass' : Reading) → Follows p (length (drop p line)) pass pass'
      → Sound (Within (length line)) pass → Sound (Within (length (drop p line))) pass'
      → Follows p (length (drop p line)) (optional_passes (optional_count least upper line) mode pass)
      (optional_passes (optional_count least upper (drop p line)) mode pass')
  optional_moved least (up_to most) mode pass pass' f s s' =
      optional_passes_moved p (length (drop p line)) (most - least) mode pass pass' f s'
  optional_moved least no_end mode pass pass' f s s' = λ q rows h.
      enough_passes (length line) mode pass s (length line) (length (drop p line)) (p + q) (moved p rows) (omega arith)
      (omega (arith, length-drop p line)) ∙
      optional_passes_moved p (length (drop p line)) (length (drop p line)) mode pass pass' f s' q rows h

  mutual
    -- the reading of a line from p + q is the reading of its rest from q, with ends and rows moved by p
    pub read_moved : (e : Pattern) (first : ℕ) → Follows p (length (drop p line)) (read e line first) (read e (drop p line) first)
    read_moved nothing first = λ q rows h. refl
    read_moved empty first = here_moved p (length (drop p line))
    read_moved (bytes ranges) first = one_byte_moved ranges p (length (drop p line)) line
    read_moved (group e) first =
        grouped_moved p (length (drop p line)) (omega (arith, length-drop p line)) first (read e line (suc first)) (read e (drop p line) (suc first))
        (read_moved e (suc first))
        (ends e (drop p line) (suc first))
    read_moved (sequence ms) first = read_sequence_moved ms first
    read_moved (alternation ms) first = read_alternation_moved ms first
    read_moved (repeat least upper mode e) first =
        let n = length (drop p line) in
        let pass = pass_of first (groups e) (read e line first) in
        let pass' = pass_of first (groups e) (read e (drop p line) first) in
        let follows = pass_of_moved p n first (groups e) (read e line first) (read e (drop p line) first) (read_moved e first) in
        must_passes_moved p n least pass (optional_passes (optional_count least upper line) mode pass) pass'
        (optional_passes (optional_count least upper (drop p line)) mode pass')
        follows
        (pass_ends e (drop p line) first)
        (optional_moved least upper mode pass pass' follows (pass_ends e line first) (pass_ends e (drop p line) first))

    read_sequence_moved : (ms : Members) (first : ℕ)
        → Follows p (length (drop p line)) (read_sequence ms line first) (read_sequence ms (drop p line) first)
    read_sequence_moved (two a b) first =
        in_turn_moved p (length (drop p line)) (read a line first) (read b line (first + groups a)) (read a (drop p line) first)
        (read b (drop p line) (first + groups a))
        (read_moved a first)
        (read_moved b (first + groups a))
        (ends a (drop p line) first)
    read_sequence_moved (more a ms) first =
        in_turn_moved p (length (drop p line)) (read a line first) (read_sequence ms line (first + groups a)) (read a (drop p line) first)
        (read_sequence ms (drop p line) (first + groups a))
        (read_moved a first)
        (read_sequence_moved ms (first + groups a))
        (ends a (drop p line) first)

    read_alternation_moved : (ms : Members) (first : ℕ)
        → Follows p (length (drop p line)) (read_alternation ms line first) (read_alternation ms (drop p line) first)
    read_alternation_moved (two a b) first =
        or_else_moved p (length (drop p line)) (read a line first) (read b line (first + groups a)) (read a (drop p line) first)
        (read b (drop p line) (first + groups a))
        (read_moved a first)
        (read_moved b (first + groups a))
    read_alternation_moved (more a ms) first =
        or_else_moved p (length (drop p line)) (read a line first) (read_alternation ms line (first + groups a)) (read a (drop p line) first)
        (read_alternation ms (drop p line) (first + groups a))
        (read_moved a first)
        (read_alternation_moved ms (first + groups a))

-- no rows are no rows wherever the rest starts
pub no_rows_moved : (p : ℕ) → moved p no_rows ≡ no_rows
no_rows_moved p = refl

-- the line's end is the rest's end
pub end_moved : (p q : ℕ) (line : List ℕ) → p ≤ length line → eqb (p + q) (length line) ≡ eqb q (length (drop p line))
end_moved p q line h =
    let whole : length line ≡ p + length (drop p line) = omega (arith, length-drop p line) in
    ap (λ (n : ℕ). eqb (p + q) n) whole ∙ place_moved p q (length (drop p line))

first_ending_at_moved : (p : ℕ) (line : List ℕ) → p ≤ length line → (os : List Outcome)
    → first_ending_at (length line) (moved_outcomes p os) ≡ Option.map (moved p) (first_ending_at (length (drop p line)) os)
first_ending_at_moved p line h [] = refl
first_ending_at_moved p line h (o ∷ os) =
    ap₂ (λ (b : Bool) (rest : Option Rows). cond b (some (moved p o.rows)) rest) (end_moved p o.end line h) (first_ending_at_moved p line h os) ∙
    look (eqb o.end (length (drop p line)))
  where
    look : (b : Bool)
        → cond b (some (moved p o.rows)) (Option.map (moved p) (first_ending_at (length (drop p line)) os)) ≡
        Option.map (moved p) (cond b (some o.rows) (first_ending_at (length (drop p line)) os))
    look true = refl
    look false = refl

-- a search of the whole line from p finds the rows that a search of the rest finds, moved by p
pub search_moved : (e : Pattern) (line : List ℕ) (p : ℕ) → length line ≤ line_bytes → p ≤ length line
    → first_ending_at (length line) (read (wrap e) line 0 p no_rows) ≡ Option.map (moved p) (search e (drop p line))
search_moved e line p small h =
    ap (first_ending_at (length line)) (ap (λ (q : ℕ). read (wrap e) line 0 q no_rows) (sym (add-zero p)) ∙ read_moved p line small (wrap e) 0 0 no_rows (omega arith)) ∙
    first_ending_at_moved p line h (read (wrap e) (drop p line) 0 0 no_rows)
