-- ECMA-262's matcher gives the first success of its continuation over the outcomes of the ordered reading, taken in their order.
-- By induction over patterns; in a repeat over the turns, with the empty check as the dropping of passes that consume nothing.
use Prim.Native.Nat.{ℕ, zero, suc, ◌+◌, ◌-◌, ◌≤◌, ◌<◌, max}
use mathlib.Core.Path.{◌≡◌, refl, sym, ap, ap₂, fun_ext, ◌∙◌}
use mathlib.Core.Bool.{Bool, true, false, cond, ◌&&◌}
use mathlib.Core.List.{List, [], ◌∷◌}
use mathlib.Core.Option.{Option, none, some}
use native.Mathlib.Omega.{arith}
use native.Mathlib.Nat.{sub-zero, suc-sub-suc}
use lib.Dec.{leb, ltb, eqb}
use lib.ListN.{length, get_or}
use borrow.Author.Tests.{eqb-false}
use Rattle.paper.specs.Pattern.{Mode, greedy, lazy, Upper, up_to, no_end, Range, Pattern, Members, groups}
use Rattle.paper.specs.Pattern.Pattern.{nothing, empty, bytes, group, sequence, alternation, repeat}
use Rattle.paper.specs.Pattern.Members.{two, more}
use Rattle.paper.specs.Layout.{CountsRight, WellMade, AllWellMade}
use Rattle.paper.specs.Rows.{Rows, no_rows, set_row}
use Rattle.paper.specs.Reading.{Outcome, Reading, here, in_turn, or_else, in_set, one_byte, spanning, grouped, pass_of, must_passes, unless_at, consuming, prefer, optional_passes, optional_count, read, read_sequence, read_alternation}
use Rattle.paper.specs.Match.{first_ending_at, extract}
use Rattle.paper.proofs.reading.First.{TrialFor, first_of, before_none, first_append, first_bind}
use Rattle.paper.proofs.reading.Every.{Property, Every}
use Rattle.paper.proofs.reading.Invariant.{Sound}
use Rattle.paper.proofs.reading.Ends.{Within, pass_ends}
use Rattle.paper.proofs.reading.Passes.{one_pass_then_all}
use Rattle.paper.proofs.standard.Ecma.{MatchState, MatchResult, failure, Continuation, Matcher, unless_failure, match_sequence, match_two_alternatives, character_set_matcher, capture_matcher, undefined_captures, pass_or_go_on, repeat_matcher, compile, compile_sequence, compile_alternation}

-- a continuation as what is tried at the end of an outcome
abbrev pub tried : Continuation → TrialFor MatchState
tried c p rows = c (record { end = p; rows = rows })

-- the first state, in order, from which the continuation does not fail
abbrev pub first_success : Continuation → List Outcome → MatchResult
first_success c os = first_of os (tried c)

-- a matcher takes the outcomes of a reading in their order
abbrev pub Takes : Matcher → Reading → Type 0
Takes m reading = (x : MatchState) (c : Continuation) → m x c ≡ first_success c (reading x.end x.rows)

-- Laws of the first success

success_here : (c : Continuation) (x : MatchState) → c x ≡ first_success c (x ∷ [])
success_here c x = sym (before_none (c x))

-- continuations that agree on every outcome have the same first success
pub success_agree : (P : Property) (c d : Continuation) (os : List Outcome) → Every P os → ((o : MatchState) → P o.end o.rows → c o ≡ d o)
    → first_success c os ≡ first_success d os
success_agree P c d [] h g = refl
success_agree P c d (o ∷ os) h g = ap₂ unless_failure (g o h.0) (success_agree P c d os h.1 g)

success_same : (c d : Continuation) (os : List Outcome) → ((o : MatchState) → c o ≡ d o) → first_success c os ≡ first_success d os
success_same c d os g = ap (λ (k : Continuation). first_success k os) (fun_ext g)

-- The matchers one by one

sequence_takes : (m1 m2 : Matcher) (first second : Reading) → Takes m1 first → Takes m2 second → Takes (match_sequence m1 m2) (in_turn first second)
sequence_takes m1 m2 first second t1 t2 x c =
    let os = first x.end x.rows in
    t1 x (λ y. m2 y c) ∙ success_same (λ y. m2 y c) (λ y. first_success c (second y.end y.rows)) os (λ y. t2 y c) ∙
    sym (first_bind os second (tried c))

alternatives_take : (m1 m2 : Matcher) (first second : Reading) → Takes m1 first → Takes m2 second
    → Takes (match_two_alternatives m1 m2) (or_else first second)
alternatives_take m1 m2 first second t1 t2 x c =
    ap₂ unless_failure (t1 x c) (t2 x c) ∙ sym (first_append (first x.end x.rows) (second x.end x.rows) (tried c))

character_takes : (ranges : List Range) (line : List ℕ) → Takes (character_set_matcher ranges line) (one_byte ranges line)
character_takes ranges line x c = look (ltb x.end (length line)) (in_set ranges (get_or line x.end 0))
  where
    look : (inside held : Bool)
        → cond inside (cond held (c (record { end = suc x.end; rows = x.rows })) failure) failure ≡
        first_success c (cond (inside && held) (here (suc x.end) x.rows) [])
    look true true = success_here c (record { end = suc x.end; rows = x.rows })
    look true false = refl
    look false held = refl

no_character : (inside : Bool) → cond inside failure failure ≡ failure
no_character true = refl
no_character false = refl

capture_takes : (k : ℕ) (m : Matcher) (inside : Reading) → Takes m inside → Takes (capture_matcher k m) (grouped k inside)
capture_takes k m inside t x c =
    let os = inside x.end x.rows in
    let d : Continuation = λ y. c (record { end = y.end; rows = set_row k x.end y.end y.rows }) in
    t x d ∙
    success_same d (λ y. first_success c (spanning k x.end y.end y.rows)) os
    (λ y. success_here c (record { end = y.end; rows = set_row k x.end y.end y.rows })) ∙
    sym (first_bind os (spanning k x.end) (tried c))

-- Repeats

-- the optional passes that are left, on a line with n bytes
abbrev optional_of : ℕ → Upper → Mode → Reading → Reading
optional_of n (up_to most) mode pass = optional_passes most mode pass
optional_of n no_end mode pass = optional_passes n mode pass

-- what a maximum leaves after so many passes
abbrev left_after : ℕ → Upper → Upper
left_after min (up_to most) = up_to (most - min)
left_after min no_end = no_end

abbrev AtMost : ℕ → Upper → Type 0
AtMost min (up_to most) = min ≤ most
AtMost min no_end = Unit {0}

counts_at_most : (least : ℕ) (upper : Upper) → CountsRight least upper → AtMost least upper
counts_at_most least (up_to most) h = h.0
counts_at_most least no_end h = tt

module _ (n : ℕ) (mode : Mode) (first count : ℕ) (out m : Matcher) (inside : Reading) (t : Takes m inside)
    (s : Sound (Within n) (pass_of first count inside)) where
  -- a pass that consumes, and then the rest: the empty check drops what `consuming` drops
  another_pass : (again : Matcher) (rest : Reading) (x : MatchState) (c : Continuation)
      → ((y : MatchState) → x.end < y.end → y.end ≤ max x.end n → again y c ≡ first_success c (rest y.end y.rows))
      → m (undefined_captures first count x) (λ y. cond (eqb y.end x.end) failure (again y c)) ≡
      first_success c (in_turn (consuming (pass_of first count inside)) rest x.end x.rows)
  another_pass again rest x c agree =
      let p = x.end in
      let os = pass_of first count inside p x.rows in
      let d : Continuation = λ y. cond (eqb y.end p) failure (again y c) in
      let k : Continuation = λ y. first_success c (rest y.end y.rows) in
      t (undefined_captures first count x) d ∙
      success_agree (Within n p x.rows) d (λ y. first_success k (unless_at p y.end y.rows)) os (s p x.rows)
      (λ y w. look y w (eqb y.end p) refl) ∙
      sym (first_bind os (unless_at p) (tried k)) ∙
      sym (first_bind (consuming (pass_of first count inside) p x.rows) rest (tried c))
    where
      look : (y : MatchState) → Within n x.end x.rows y.end y.rows → (b : Bool) → eqb y.end x.end ≡ b
          → cond b failure (again y c) ≡
          first_success (λ z. first_success c (rest z.end z.rows)) (cond b [] (here y.end y.rows))
      look y w true e = refl
      look y w false e =
          let differ : y.end ≡ x.end → ⊥ = eqb-false y.end x.end e in
          agree y (omega arith) (omega arith) ∙ success_here (λ z. first_success c (rest z.end z.rows)) y

  pass_or_go_on_law : (preferred : Mode) (again : Reading) (pass : MatchResult) (x : MatchState) (c : Continuation)
      → pass ≡ first_success c (again x.end x.rows)
      → pass_or_go_on 0 preferred pass (c x) ≡ first_success c (prefer preferred again here x.end x.rows)
  pass_or_go_on_law greedy again pass x c e =
      ap₂ unless_failure e (success_here c x) ∙ sym (first_append (again x.end x.rows) (here x.end x.rows) (tried c))
  pass_or_go_on_law lazy again pass x c e =
      ap₂ unless_failure (success_here c x) e ∙ sym (first_append (here x.end x.rows) (again x.end x.rows) (tried c))

  optional_takes : (turns : ℕ) (upper : Upper) (x : MatchState) (c : Continuation) → n - x.end < turns
      → repeat_matcher turns out m 0 upper mode first count x c ≡
      first_success c (optional_of n upper mode (pass_of first count inside) x.end x.rows)
  optional_takes zero upper x c h = absurd (omega arith)
  optional_takes (suc turns) (up_to zero) x c h = success_here c x
  optional_takes (suc turns) (up_to (suc most)) x c h =
      let pass = pass_of first count inside in
      let again = repeat_matcher turns out m 0 (up_to most) mode first count in
      pass_or_go_on_law mode (in_turn (consuming pass) (optional_passes most mode pass))
      (m (undefined_captures first count x) (λ y. cond (eqb y.end x.end) failure (again y c)))
      x
      c
      (another_pass again (optional_passes most mode pass) x c (λ y l b. optional_takes turns (up_to most) y c (omega arith)))
  optional_takes (suc turns) no_end x c h =
      let pass = pass_of first count inside in
      let again = repeat_matcher turns out m 0 no_end mode first count in
      pass_or_go_on_law mode (in_turn (consuming pass) (optional_passes n mode pass))
      (m (undefined_captures first count x) (λ y. cond (eqb y.end x.end) failure (again y c)))
      x
      c
      (another_pass again (optional_passes n mode pass) x c (λ y l b. optional_takes turns no_end y c (omega arith))) ∙
      ap (first_success c) (sym (one_pass_then_all n mode pass s n x.end x.rows (omega arith)))

  must_pass : (again : Matcher) (rest : Reading) (x : MatchState) (c : Continuation)
      → ((y : MatchState) → x.end ≤ y.end → y.end ≤ max x.end n → again y c ≡ first_success c (rest y.end y.rows))
      → m (undefined_captures first count x) (λ y. again y c) ≡ first_success c (in_turn (pass_of first count inside) rest x.end x.rows)
  must_pass again rest x c agree =
      let os = pass_of first count inside x.end x.rows in
      t (undefined_captures first count x) (λ y. again y c) ∙
      success_agree (Within n x.end x.rows) (λ y. again y c) (λ y. first_success c (rest y.end y.rows)) os (s x.end x.rows)
      (λ y w. agree y w.0 w.1) ∙
      sym (first_bind os rest (tried c))

  repeat_takes : (min turns : ℕ) (upper : Upper) (x : MatchState) (c : Continuation) → AtMost min upper → min + (n - x.end) < turns
      → repeat_matcher turns out m min upper mode first count x c ≡
      first_success c (must_passes min (pass_of first count inside) (optional_of n (left_after min upper) mode (pass_of first count inside)) x.end x.rows)
  repeat_takes zero turns (up_to most) x c a h =
      optional_takes turns (up_to most) x c (omega arith) ∙
      ap (λ (k : ℕ). first_success c (optional_passes k mode (pass_of first count inside) x.end x.rows)) (sym (sub-zero most))
  repeat_takes zero turns no_end x c a h = optional_takes turns no_end x c (omega arith)
  repeat_takes (suc min) zero upper x c a h = absurd (omega arith)
  repeat_takes (suc min) (suc turns) (up_to zero) x c a h = absurd (omega arith)
  repeat_takes (suc min) (suc turns) (up_to (suc most)) x c a h =
      let pass = pass_of first count inside in
      must_pass (repeat_matcher turns out m min (up_to most) mode first count) (must_passes min pass (optional_passes (most - min) mode pass)) x c
      (λ y l b. repeat_takes min turns (up_to most) y c (omega arith) (omega arith)) ∙
      ap (λ (k : ℕ). first_success c (must_passes (suc min) pass (optional_passes k mode pass) x.end x.rows)) (sym (suc-sub-suc most min))
  repeat_takes (suc min) (suc turns) no_end x c a h =
      let pass = pass_of first count inside in
      must_pass (repeat_matcher turns out m min no_end mode first count) (must_passes min pass (optional_passes n mode pass)) x c
      (λ y l b. repeat_takes min turns no_end y c tt (omega arith))

left_as_counted : (least : ℕ) (upper : Upper) (line : List ℕ) (mode : Mode) (pass : Reading)
    → optional_of (length line) (left_after least upper) mode pass ≡ optional_passes (optional_count least upper line) mode pass
left_as_counted least (up_to most) line mode pass = refl
left_as_counted least no_end line mode pass = refl

-- The theorem

module _ (out : Matcher) (spare : ℕ) (line : List ℕ) where
  mutual
    -- for every well-made pattern, ECMA-262's matcher takes the outcomes of the ordered reading in their order: from every position, with
    -- every rows and for every continuation. What it would answer out of turns, and how many turns are to spare, makes no difference
    pub compile_takes : (e : Pattern) (first : ℕ) → WellMade e → Takes (compile e out spare line first) (read e line first)
    compile_takes nothing first w = λ x c. no_character (leb (suc x.end) (length line))
    compile_takes empty first w = λ x c. success_here c x
    compile_takes (bytes ranges) first w = character_takes ranges line
    compile_takes (group e) first w = capture_takes first (compile e out spare line (suc first)) (read e line (suc first)) (compile_takes e (suc first) w)
    compile_takes (sequence ms) first w = compile_sequence_takes ms first w
    compile_takes (alternation ms) first w = compile_alternation_takes ms first w
    compile_takes (repeat least upper mode e) first w = λ x c.
        repeat_takes (length line) mode first (groups e) out (compile e out spare line first) (read e line first) (compile_takes e first w.1)
        (pass_ends e line first)
        least
        (suc (least + (length line + spare)))
        upper
        x
        c
        (counts_at_most least upper w.0)
        (omega arith) ∙
        ap (λ (rest : Reading). first_success c (must_passes least (pass_of first (groups e) (read e line first)) rest x.end x.rows))
        (left_as_counted least upper line mode (pass_of first (groups e) (read e line first)))

    compile_sequence_takes : (ms : Members) (first : ℕ) → AllWellMade ms → Takes (compile_sequence ms out spare line first) (read_sequence ms line first)
    compile_sequence_takes (two a b) first w =
        sequence_takes (compile a out spare line first) (compile b out spare line (first + groups a)) (read a line first)
        (read b line (first + groups a))
        (compile_takes a first w.0)
        (compile_takes b (first + groups a) w.1)
    compile_sequence_takes (more a ms) first w =
        sequence_takes (compile a out spare line first) (compile_sequence ms out spare line (first + groups a)) (read a line first)
        (read_sequence ms line (first + groups a))
        (compile_takes a first w.0)
        (compile_sequence_takes ms (first + groups a) w.1)

    compile_alternation_takes : (ms : Members) (first : ℕ) → AllWellMade ms
        → Takes (compile_alternation ms out spare line first) (read_alternation ms line first)
    compile_alternation_takes (two a b) first w =
        alternatives_take (compile a out spare line first) (compile b out spare line (first + groups a)) (read a line first)
        (read b line (first + groups a))
        (compile_takes a first w.0)
        (compile_takes b (first + groups a) w.1)
    compile_alternation_takes (more a ms) first w =
        alternatives_take (compile a out spare line first) (compile_alternation ms out spare line (first + groups a)) (read a line first)
        (read_alternation ms line (first + groups a))
        (compile_takes a first w.0)
        (compile_alternation_takes ms (first + groups a) w.1)

-- neither more turns nor what would be answered out of turns changes an answer of the matcher
pub turns_enough : (e : Pattern) (line : List ℕ) (first : ℕ) → WellMade e → (out out' : Matcher) (spare spare' : ℕ) (x : MatchState) (c : Continuation)
    → compile e out spare line first x c ≡ compile e out' spare' line first x c
turns_enough e line first w out out' spare spare' x c =
    compile_takes out spare line e first w x c ∙ sym (compile_takes out' spare' line e first w x c)

-- Whole matches

-- the continuation that asks for the input's end
abbrev pub ends_at : ℕ → Continuation
ends_at n y = cond (eqb y.end n) (some y) failure

abbrev pub captures_of : MatchResult → Option Rows
captures_of none = none
captures_of (some y) = some y.rows

pub first_at_end : (n : ℕ) (os : List Outcome) → first_ending_at n os ≡ captures_of (first_success (ends_at n) os)
first_at_end n [] = refl
first_at_end n (o ∷ os) = look (eqb o.end n) (first_at_end n os)
  where
    look : (b : Bool) → first_ending_at n os ≡ captures_of (first_success (ends_at n) os)
        → cond b (some o.rows) (first_ending_at n os) ≡ captures_of (unless_failure (cond b (some o) failure) (first_success (ends_at n) os))
    look true rest = refl
    look false rest = rest

-- the rows of the first outcome that reads the whole line are the captures that ECMA-262's matcher ends with at the input's end
pub extract_as_ecma : (e : Pattern) (first : ℕ) (line : List ℕ) → WellMade e → (out : Matcher) (spare : ℕ)
    → extract e first line ≡ captures_of (compile e out spare line first (record { end = 0; rows = no_rows }) (ends_at (length line)))
extract_as_ecma e first line w out spare =
    first_at_end (length line) (read e line first 0 no_rows) ∙
    ap captures_of (sym (compile_takes out spare line e first w (record { end = 0; rows = no_rows }) (ends_at (length line))))
