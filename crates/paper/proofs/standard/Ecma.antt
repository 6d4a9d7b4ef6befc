-- ECMA-262's matcher for the patterns of this project, written beside its clause 22.2.2 (Pattern Semantics) step by step, as a second definition.
-- Nothing here is used by a contract: `EcmaReading` proves that this matcher takes the outcomes of the ordered reading in their order.
use Prim.Native.Nat.{ℕ, zero, suc, ◌+◌}
use mathlib.Core.Bool.{cond}
use mathlib.Core.List.{List, []}
use mathlib.Core.Option.{Option, none}
use lib.Dec.{leb, eqb}
use lib.ListN.{length, get_or}
use Rattle.paper.specs.Pattern.{Mode, greedy, lazy, Upper, up_to, no_end, Range, Pattern, Members, groups}
use Rattle.paper.specs.Pattern.Pattern.{nothing, empty, bytes, group, sequence, alternation, repeat}
use Rattle.paper.specs.Pattern.Members.{two, more}
use Rattle.paper.specs.Rows.{set_row, clear}
use Rattle.paper.specs.Reading.{Outcome, in_set}
use Rattle.paper.proofs.reading.First.{before}

-- 22.2.2.1, MatchState: an end index and the captures. An outcome has the same two parts; an undefined capture is an absent row
abbrev pub MatchState : Type 0
MatchState = Outcome

-- 22.2.2.1, MatchResult: a state or failure
abbrev pub MatchResult : Type 0
MatchResult = Option MatchState

abbrev pub failure : MatchResult
failure = none

-- 22.2.2.1, MatcherContinuation: what is left to be matched
abbrev pub Continuation : Type 0
Continuation = MatchState → MatchResult

-- 22.2.2.1, Matcher: from a state, with what is left
abbrev pub Matcher : Type 0
Matcher = MatchState → Continuation → MatchResult

-- the two steps "if z is not failure, return z; return w", which many clauses end with
abbrev pub unless_failure : MatchResult → MatchResult → MatchResult
unless_failure z w = before z w

-- 22.2.2.3.2 EmptyMatcher: go on from the same state
abbrev pub empty_matcher : Matcher
empty_matcher x c = c x

-- 22.2.2.3.4 MatchSequence, forward: the first, and in its continuation the second
abbrev pub match_sequence : Matcher → Matcher → Matcher
match_sequence m1 m2 x c = m1 x (λ y. m2 y c)

-- 22.2.2.3.3 MatchTwoAlternatives: the first, and if it fails the second
abbrev pub match_two_alternatives : Matcher → Matcher → Matcher
match_two_alternatives m1 m2 x c = unless_failure (m1 x c) (m2 x c)

-- 22.2.2.7.1 CharacterSetMatcher, forward, not inverted: failure past the input's end or where the set lacks the character; else one on
abbrev pub character_set_matcher : List Range → List ℕ → Matcher
character_set_matcher set input x c =
    let e = x.end in
    let f = suc e in
    cond (leb f (length input)) (cond (in_set set (get_or input e 0)) (c (record { end = f; rows = x.rows })) failure) failure

-- 22.2.2.7, Atom in parentheses: after the inside, capture number k is the range from where the inside began to where it ended
abbrev pub capture_matcher : ℕ → Matcher → Matcher
capture_matcher k m x c = m x (λ y. c (record { end = y.end; rows = set_row k x.end y.end y.rows }))

-- 22.2.2.3.1, step 2.d: one less than a maximum
abbrev pub less_one : Upper → Upper
less_one (up_to zero) = up_to zero
less_one (up_to (suc max)) = up_to max
less_one no_end = no_end

-- 22.2.2.3.1, step 2: the continuation d. With min 0, a pass that ends where it began fails; else repeat with min and max one less
abbrev pub after_pass : (ℕ → Upper → Matcher) → ℕ → Upper → MatchState → Continuation → Continuation
after_pass again zero max x c y = cond (eqb y.end x.end) failure (again zero (less_one max) y c)
after_pass again (suc min) max x c y = again min (less_one max) y c

-- 22.2.2.3.1, steps 3 to 7: the same state with the captures of the repeated atom undefined
abbrev pub undefined_captures : ℕ → ℕ → MatchState → MatchState
undefined_captures first n x = record { end = x.end; rows = clear first n x.rows }

-- 22.2.2.3.1, steps 8 to 12: with min above 0 only the pass; not greedy, first what is left and then the pass; greedy, the other way round
abbrev pub pass_or_go_on : ℕ → Mode → MatchResult → MatchResult → MatchResult
pass_or_go_on (suc min) mode pass go_on = pass
pass_or_go_on zero lazy pass go_on = unless_failure go_on pass
pass_or_go_on zero greedy pass go_on = unless_failure pass go_on

-- 22.2.2.3.1, step 1: with max 0 only what is left
abbrev pub unless_none_left : Upper → MatchResult → MatchResult → MatchResult
unless_none_left (up_to zero) go_on rest = go_on
unless_none_left (up_to (suc max)) go_on rest = rest
unless_none_left no_end go_on rest = rest

-- 22.2.2.3.1 RepeatMatcher. It calls itself without end; here the first number bounds how often, and `out` is what it answers past that bound
abbrev pub repeat_matcher : ℕ → Matcher → Matcher → ℕ → Upper → Mode → ℕ → ℕ → Matcher
repeat_matcher zero out m min max mode first n x c = out x c
repeat_matcher (suc turns) out m min max mode first n x c =
    let again : ℕ → Upper → Matcher = λ min2 max2. repeat_matcher turns out m min2 max2 mode first n in
    let d = after_pass again min max x c in
    unless_none_left max (c x) (pass_or_go_on min mode (m (undefined_captures first n x) d) (c x))

-- 22.2.2.3 CompileSubpattern and 22.2.2.7 CompileAtom. `nothing` is the class with no character; a sequence is taken from the right, where
-- ECMA-262 takes it from the left, which computes to the same. Each repeat gets a turn for each pass that it must make, for each
-- character of the input, one more, and then as many as one likes
abbrev mutual
  pub compile : Pattern → Matcher → ℕ → List ℕ → ℕ → Matcher
  compile nothing out spare input first = character_set_matcher [] input
  compile empty out spare input first = empty_matcher
  compile (bytes ranges) out spare input first = character_set_matcher ranges input
  compile (group e) out spare input first = capture_matcher first (compile e out spare input (suc first))
  compile (sequence ms) out spare input first = compile_sequence ms out spare input first
  compile (alternation ms) out spare input first = compile_alternation ms out spare input first
  compile (repeat least upper mode e) out spare input first =
      repeat_matcher (suc (least + (length input + spare))) out (compile e out spare input first) least upper mode first (groups e)

  pub compile_sequence : Members → Matcher → ℕ → List ℕ → ℕ → Matcher
  compile_sequence (two a b) out spare input first = match_sequence (compile a out spare input first) (compile b out spare input (first + groups a))
  compile_sequence (more a ms) out spare input first =
      match_sequence (compile a out spare input first) (compile_sequence ms out spare input (first + groups a))

  pub compile_alternation : Members → Matcher → ℕ → List ℕ → ℕ → Matcher
  compile_alternation (two a b) out spare input first =
      match_two_alternatives (compile a out spare input first) (compile b out spare input (first + groups a))
  compile_alternation (more a ms) out spare input first =
      match_two_alternatives (compile a out spare input first) (compile_alternation ms out spare input (first + groups a))
