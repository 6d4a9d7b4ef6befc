-- A search, defined by wrapping the pattern, is ECMA-262's: the matcher is tried at each position from the first on, and the first success counts.
-- The lazy star before the pattern offers the positions in their order, and the greedy star behind it can always go to the line's end.
use Prim.Native.Nat.{ℕ, zero, suc, ◌+◌, ◌-◌, ◌≤◌, ◌<◌}
use mathlib.Core.Path.{◌≡◌, refl, sym, ap, ap₂, ◌∙◌}
use mathlib.Core.Bool.{Bool, true, false, cond, ◌&&◌, ◌||◌}
use mathlib.Core.List.{List, [], ◌∷◌, ◌++◌, append-nil}
use mathlib.Core.Option.{Option, none, some}
use native.Mathlib.Omega.{arith}
use native.Mathlib.Decide.{dec_le}
use lib.ListN.{length, get_or}
use borrow.Author.Tests.{lt-ltb, le-ltb, le-leb, ne_eqb, eq-eqb}
use Rattle.paper.specs.Pattern.{greedy, lazy, Pattern, groups}
use Rattle.paper.specs.Pattern.Pattern.{group}
use Rattle.paper.specs.Layout.{WellMade}
use Rattle.paper.specs.Rows.{Rows, no_rows, set_row}
use Rattle.paper.specs.Reading.{Outcome, Reading, here, bind, in_turn, in_set, takes, every_byte, one_byte, spanning, pass_of, unless_at, consuming, optional_passes, read}
use Rattle.paper.specs.Match.{search}
use Rattle.paper.proofs.reading.First.{first_append, first_bind}
use Rattle.paper.proofs.reading.Ends.{Within, ends}
use Rattle.paper.proofs.standard.Ecma.{MatchResult, failure, Continuation, Matcher, unless_failure, compile}
use Rattle.paper.proofs.standard.EcmaReading.{first_success, ends_at, captures_of, tried, first_at_end, success_agree, compile_takes}

-- ECMA-262's search

-- 22.2.2.2 CompilePattern: the matcher from an index, with every capture undefined and nothing left to be matched
abbrev pub match_from : Pattern → Matcher → ℕ → List ℕ → ℕ → MatchResult
match_from e out spare input index = compile e out spare input 1 (record { end = index; rows = no_rows }) (λ y. some y)

-- 22.2.7.2 RegExpBuiltinExec, after the loop: capture 0 is the range from the index to the match's end; a failure goes on with the rest
abbrev pub found_at : ℕ → MatchResult → Option Rows → Option Rows
found_at index none rest = rest
found_at index (some y) rest = some (set_row 0 index y.end y.rows)

-- 22.2.7.2 RegExpBuiltinExec, the loop: an index past the input's end finds nothing, and after a failure the index is one more.
-- The first number is how many indices are left
abbrev pub exec : ℕ → Pattern → Matcher → ℕ → List ℕ → ℕ → Option Rows
exec zero e out spare input index = none
exec (suc left) e out spare input index = found_at index (match_from e out spare input index) (exec left e out spare input (suc index))

-- The two stars

-- a continuation tried at so many positions in their order
abbrev try_each : Continuation → ℕ → ℕ → Rows → MatchResult
try_each c zero q rows = failure
try_each c (suc k) q rows = unless_failure (c (record { end = q; rows = rows })) (try_each c k (suc q) rows)

-- each number of a line is a byte
abbrev pub Bytes : List ℕ → Type 0
Bytes line = (i : ℕ) → i < length line → get_or line i 0 < 256

every_byte_law : (b : ℕ) → b < 256 → in_set every_byte b ≡ true
every_byte_law b h = ap₂ (λ (low high : Bool). (low && high) || false) (le-leb 0 b (omega arith)) (le-leb b 255 (omega arith))

module _ (line : List ℕ) (bytes : Bytes line) (first : ℕ) where
  abbrev any_pass : Reading
  any_pass = pass_of first 0 (one_byte every_byte line)

  takes_inside : (q : ℕ) → q < length line → takes every_byte line q ≡ true
  takes_inside q h = ap₂ (λ (a b : Bool). a && b) (lt-ltb q (length line) h) (every_byte_law (get_or line q 0) (bytes q h))

  takes_outside : (q : ℕ) → length line ≤ q → takes every_byte line q ≡ false
  takes_outside q h = ap (λ (a : Bool). a && in_set every_byte (get_or line q 0)) (le-ltb q (length line) h)

  -- a pass of any byte goes one on, up to the line's end
  pass_on : (q : ℕ) (rows : Rows) → q < length line → consuming any_pass q rows ≡ here (suc q) rows
  pass_on q rows h =
      ap (λ (b : Bool). bind (cond b (here (suc q) rows) []) (unless_at q)) (takes_inside q h) ∙
      ap (λ (b : Bool). cond b [] (here (suc q) rows) ++ []) (ne_eqb (suc q) q (omega arith))

  pass_ends_here : (q : ℕ) (rows : Rows) → length line ≤ q → consuming any_pass q rows ≡ []
  pass_ends_here q rows h = ap (λ (b : Bool). bind (cond b (here (suc q) rows) []) (unless_at q)) (takes_outside q h)

  at_the_end : (q : ℕ) (rows : Rows) → q ≡ length line → first_success (ends_at (length line)) (here q rows) ≡ some (record { end = length line; rows = rows })
  at_the_end q rows e =
      ap (λ (p : ℕ). first_success (ends_at (length line)) (here p rows)) e ∙
      ap (λ (b : Bool). unless_failure (cond b (some (record { end = length line; rows = rows })) failure) failure)
      (eq-eqb (length line) (length line) refl)

  -- the greedy star can go to the line's end, and does so first
  to_the_end : (m q : ℕ) (rows : Rows) → q ≤ length line → length line - q ≤ m
      → first_success (ends_at (length line)) (optional_passes m greedy any_pass q rows) ≡ some (record { end = length line; rows = rows })
  to_the_end zero q rows h g = at_the_end q rows (omega arith)
  to_the_end (suc m) q rows h g = look (dec_le (suc q) (length line)) (λ past. to_the_end m (suc q) rows past (omega arith))
    where
      look : Dec (q < length line)
          → (q < length line → first_success (ends_at (length line)) (optional_passes m greedy any_pass (suc q) rows) ≡ some (record { end = length line; rows = rows }))
          → first_success (ends_at (length line)) (optional_passes (suc m) greedy any_pass q rows) ≡ some (record { end = length line; rows = rows })
      look (yes past) further =
          let rest = optional_passes m greedy any_pass in
          ap (λ (os : List Outcome). first_success (ends_at (length line)) (bind os rest ++ here q rows)) (pass_on q rows past) ∙
          first_append (rest (suc q) rows ++ []) (here q rows) (tried (ends_at (length line))) ∙
          ap (λ (z : MatchResult). unless_failure z (first_success (ends_at (length line)) (here q rows)))
          (first_append (rest (suc q) rows) [] (tried (ends_at (length line))) ∙ ap (λ (z : MatchResult). unless_failure z failure) (further past))
      look (no end) further =
          ap (λ (os : List Outcome). first_success (ends_at (length line)) (bind os (optional_passes m greedy any_pass) ++ here q rows))
          (pass_ends_here q rows (omega arith)) ∙
          at_the_end q rows (omega arith)

  -- the lazy star offers the positions in their order
  from_each : (c : Continuation) (m q : ℕ) (rows : Rows) → q + m ≡ length line
      → first_success c (optional_passes m lazy any_pass q rows) ≡ try_each c (suc m) q rows
  from_each c zero q rows h = refl
  from_each c (suc m) q rows h =
      let rest = optional_passes m lazy any_pass in
      ap (λ (os : List Outcome). first_success c (here q rows ++ bind os rest)) (pass_on q rows (omega arith)) ∙
      ap (λ (os : List Outcome). first_success c (here q rows ++ os)) (append-nil (rest (suc q) rows)) ∙
      ap (unless_failure (c (record { end = q; rows = rows }))) (from_each c m (suc q) rows (omega arith))

-- The theorem

-- a match of the pattern from q, with row 0 set and whatever is behind it read to the line's end
abbrev found : ℕ → ℕ → Continuation
found n q y = some (record { end = n; rows = set_row 0 q y.end y.rows })

first_found : (n q : ℕ) (os : List Outcome) (rest : MatchResult)
    → captures_of (unless_failure (first_success (found n q) os) rest) ≡ found_at q (first_success (λ y. some y) os) (captures_of rest)
first_found n q [] rest = refl
first_found n q (o ∷ os) rest = refl

module _ (e : Pattern) (line : List ℕ) (bytes : Bytes line) where
  -- what is left of the wrapped pattern behind the first star
  abbrev pattern_then_star : Reading
  pattern_then_star = in_turn (read (group e) line 0) (optional_passes (length line) greedy (pass_of (0 + groups (group e)) 0 (one_byte every_byte line)))

  abbrev what_is_left : Continuation
  what_is_left x = first_success (ends_at (length line)) (pattern_then_star x.end x.rows)

  left_found : (q : ℕ) → q ≤ length line
      → what_is_left (record { end = q; rows = no_rows }) ≡ first_success (found (length line) q) (read e line 1 q no_rows)
  left_found q h =
      let n = length line in
      let os = read e line 1 q no_rows in
      let star = optional_passes n greedy (pass_of (0 + groups (group e)) 0 (one_byte every_byte line)) in
      let behind : Continuation = λ y. first_success (ends_at n) (star y.end y.rows) in
      first_bind (read (group e) line 0 q no_rows) star (tried (ends_at n)) ∙
      first_bind os (spanning 0 q) (tried behind) ∙
      success_agree (Within n q no_rows) (λ y. first_success behind (spanning 0 q y.end y.rows)) (found n q) os (ends e line 1 q no_rows)
      (λ y w.
      ap (λ (z : MatchResult). unless_failure z failure)
      (to_the_end line bytes (0 + groups (group e)) n y.end (set_row 0 q y.end y.rows) (omega arith) (omega arith)))

  module _ (w : WellMade e) (out : Matcher) (spare : ℕ) where
    each_as_exec : (k q : ℕ) → q + k ≡ suc (length line) → captures_of (try_each what_is_left k q no_rows) ≡ exec k e out spare line q
    each_as_exec zero q h = refl
    each_as_exec (suc k) q h =
        let rest = try_each what_is_left k (suc q) no_rows in
        ap (λ (z : MatchResult). captures_of (unless_failure z rest)) (left_found q (omega arith)) ∙
        first_found (length line) q (read e line 1 q no_rows) rest ∙
        ap₂ (found_at q) (sym (compile_takes out spare line e 1 w (record { end = q; rows = no_rows }) (λ y. some y))) (each_as_exec k (suc q) (omega arith))

    -- for a well-made pattern and a line of bytes, the search that wraps the pattern is ECMA-262's search
    pub search_as_ecma : search e line ≡ exec (suc (length line)) e out spare line 0
    search_as_ecma =
        let n = length line in
        let star = optional_passes n lazy (pass_of 0 0 (one_byte every_byte line)) 0 no_rows in
        first_at_end n (bind star pattern_then_star) ∙
        ap captures_of (first_bind star pattern_then_star (tried (ends_at n)) ∙ from_each line bytes 0 what_is_left n 0 no_rows (omega arith)) ∙
        each_as_exec (suc n) 0 (omega arith)
