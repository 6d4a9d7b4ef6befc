-- The bound on the machine's steps, because at each position each pair of a place and a level is one step at most; and its numbers of positions and turns are no limits.
use Prim.Native.Nat.{ℕ, suc, ◌+◌, ◌*◌, ◌≤◌}
use native.Mathlib.Omega.{arith}
use native.Mathlib.Nat.{mul_comm, mul-le-mul, le_trans}
use mathlib.Core.Path.{◌≡◌, refl, ap₂, subst, ◌∙◌}
use mathlib.Core.List.{List, [], ◌∷◌}
use mathlib.Core.Option.{Option}
use lib.Dec.{lit≤}
use lib.ListN.{length}
use borrow.Author.Tests.{le-leb}
use Rattle.paper.specs.Limits.{pattern_places, pattern_levels, line_bytes, wrap_places, step_limit}
use Rattle.paper.specs.Pattern.{Pattern, all_places, depth}
use Rattle.paper.specs.Layout.{Lawful}
use Rattle.paper.specs.Refusal.{accepted}
use Rattle.paper.specs.Rows.{Rows, no_rows}
use Rattle.paper.specs.Machine.{places_of, at, run, pairs, machine, steps_of}
use Rattle.paper.specs.Match.{wrap, match_steps, search_steps, counted}
use Rattle.paper.specs.Bounds.{search_places, search_depth, match_bound, search_bound, most_steps}
use Rattle.paper.proofs.machine.Sizes.{places_wrap, depth_wrap, depth_levels}
use Rattle.paper.proofs.machine.Run.{all_pairs}
use Rattle.paper.proofs.machine.MachineReads.{machine_ran, pairs_all}

-- T2: at most one step for each place, level and position
pub steps_bound : (e : Pattern) (first : ℕ) (line : List ℕ)
    → steps_of (machine e first line) ≤ match_bound e (length line)
steps_bound e first line =
    let every : suc (length line) * all_pairs (places_of e first) line (depth e) ≡ pairs e * (length line + 1)
    = mul_comm (suc (length line)) (all_pairs (places_of e first) line (depth e))
    ∙ ap₂ ◌*◌ (pairs_all e first line) (omega arith) in
    omega (arith, (machine_ran e first line).bound)

-- T2 for a search: ten places more, and at least one level above 0
pub search_bound_law : (e : Pattern) (line : List ℕ) → search_steps e line ≤ search_bound e (length line)
search_bound_law e line =
    subst (λ (places : ℕ). search_steps e line ≤ places * (search_depth e + 1) * (length line + 1)) (places_wrap e)
    (subst (λ (deep : ℕ). search_steps e line ≤ all_places (wrap e) * (deep + 1) * (length line + 1)) (depth_wrap e) (steps_bound (wrap e) 0 line))

-- the most steps that the limits allow, as a number
pub most_steps_law : most_steps ≡ 534765600
most_steps_law = refl

-- it can be told
pub most_told : most_steps ≤ step_limit
most_told = lit≤ tt

-- within the limits the bound is at most that
within : (places deep bytes : ℕ) → places ≤ pattern_places + wrap_places → deep ≤ pattern_levels → bytes ≤ line_bytes → places * deep * (bytes + 1) ≤ most_steps
within places deep bytes few low short =
    let bytes' : bytes + 1 ≤ line_bytes + 1 = omega arith in
    mul-le-mul (mul-le-mul few low) bytes'

-- a lawful pattern's depth and one more level fit the levels
deep_enough : (e : Pattern) → Lawful e → depth e + 1 ≤ pattern_levels
deep_enough e lawful = omega (arith, depth_levels e, lawful.few_levels)

-- a match within the limits
pub match_steps_law : (e : Pattern) (line : List ℕ) → Lawful e → length line ≤ line_bytes → match_steps e line ≤ most_steps
match_steps_law e line lawful short =
    le_trans (steps_bound e 1 line)
    (within (all_places e) (depth e + 1) (length line) (omega (arith, lawful.few_places)) (deep_enough e lawful) short)

-- a search within the limits
pub search_steps_law : (e : Pattern) (line : List ℕ) → Lawful e → length line ≤ line_bytes → search_steps e line ≤ most_steps
search_steps_law e line lawful short =
    le_trans (search_bound_law e line)
    (within (search_places e) (search_depth e + 1) (length line) (omega (arith, lawful.few_places)) (omega (arith, deep_enough e lawful)) short)

-- so within the limits no match and no search has too many steps to tell
pub counted_told : (rows : Option Rows) (steps : ℕ) → steps ≤ most_steps → counted rows steps ≡ accepted (record { rows = rows; steps = steps })
counted_told rows steps few = rw (le-leb steps step_limit (le_trans few most_told))

-- T8: any larger numbers of positions and of turns leave the run as it is, so neither is a limit
pub machine_turns : (e : Pattern) (first : ℕ) (line : List ℕ) (positions turns : ℕ) → suc (length line) ≤ positions → suc (pairs e) ≤ turns
    → run positions turns (places_of e first) line 0 (at 0 0 no_rows ∷ []) 0 ≡ machine e first line
machine_turns e first line positions turns h h' =
    (machine_ran e first line).same positions turns h (omega (arith, pairs_all e first line))
