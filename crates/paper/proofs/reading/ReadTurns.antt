-- The reading with any other bound on the optional passes of a repeat that has no upper end: not below the line's length, it gives the same outcomes.
use Prim.Native.Nat.{ℕ, suc, ◌+◌, ◌-◌, ◌≤◌}
use mathlib.Core.Path.{◌≡◌, refl, ap, ap₂, ◌∙◌}
use mathlib.Core.List.{List}
use lib.ListN.{length}
use Rattle.paper.specs.Pattern.{Mode, Upper, up_to, no_end, Pattern, Members, groups}
use Rattle.paper.specs.Pattern.Pattern.{nothing, empty, bytes, group, sequence, alternation, repeat}
use Rattle.paper.specs.Pattern.Members.{two, more}
use Rattle.paper.specs.Reading.{Reading, nowhere, here, in_turn, or_else, one_byte, grouped, pass_of, repeated, read, read_sequence, read_alternation}
use Rattle.paper.proofs.reading.Passes.{enough_for_no_end}

-- how many optional passes there can be, with a bound in place of the line's length
abbrev pub count_within : ℕ → ℕ → Upper → ℕ
count_within bound least (up_to most) = most - least
count_within bound least no_end = bound

-- the clauses of the reading, with that bound
abbrev mutual
  pub read_within : Pattern → ℕ → List ℕ → ℕ → Reading
  read_within nothing bound line first = nowhere
  read_within empty bound line first = here
  read_within (bytes ranges) bound line first = one_byte ranges line
  read_within (group e) bound line first = grouped first (read_within e bound line (suc first))
  read_within (sequence ms) bound line first = sequence_within ms bound line first
  read_within (alternation ms) bound line first = alternation_within ms bound line first
  read_within (repeat least upper mode e) bound line first =
      repeated least (count_within bound least upper) mode (pass_of first (groups e) (read_within e bound line first))

  sequence_within : Members → ℕ → List ℕ → ℕ → Reading
  sequence_within (two a b) bound line first = in_turn (read_within a bound line first) (read_within b bound line (first + groups a))
  sequence_within (more a ms) bound line first = in_turn (read_within a bound line first) (sequence_within ms bound line (first + groups a))

  alternation_within : Members → ℕ → List ℕ → ℕ → Reading
  alternation_within (two a b) bound line first = or_else (read_within a bound line first) (read_within b bound line (first + groups a))
  alternation_within (more a ms) bound line first = or_else (read_within a bound line first) (alternation_within ms bound line (first + groups a))

enough_for_repeat : (least : ℕ) (upper : Upper) (mode : Mode) (e : Pattern) (bound : ℕ) (line : List ℕ) (first : ℕ) → length line ≤ bound
    → repeated least (count_within bound least upper) mode (pass_of first (groups e) (read e line first)) ≡ read (repeat least upper mode e) line first
enough_for_repeat least (up_to most) mode e bound line first h = refl
enough_for_repeat least no_end mode e bound line first h = enough_for_no_end least mode e line first bound h

module _ (bound : ℕ) (line : List ℕ) (h : length line ≤ bound) where
  mutual
    -- in the whole pattern, a bound on optional passes that is not below the line's length changes no outcome
    pub enough_to_read : (e : Pattern) (first : ℕ) → read_within e bound line first ≡ read e line first
    enough_to_read nothing first = refl
    enough_to_read empty first = refl
    enough_to_read (bytes ranges) first = refl
    enough_to_read (group e) first = ap (grouped first) (enough_to_read e (suc first))
    enough_to_read (sequence ms) first = enough_for_sequence ms first
    enough_to_read (alternation ms) first = enough_for_alternation ms first
    enough_to_read (repeat least upper mode e) first =
        ap (λ (inside : Reading). repeated least (count_within bound least upper) mode (pass_of first (groups e) inside)) (enough_to_read e first) ∙
        enough_for_repeat least upper mode e bound line first h

    enough_for_sequence : (ms : Members) (first : ℕ) → sequence_within ms bound line first ≡ read_sequence ms line first
    enough_for_sequence (two a b) first = ap₂ in_turn (enough_to_read a first) (enough_to_read b (first + groups a))
    enough_for_sequence (more a ms) first = ap₂ in_turn (enough_to_read a first) (enough_for_sequence ms (first + groups a))

    enough_for_alternation : (ms : Members) (first : ℕ) → alternation_within ms bound line first ≡ read_alternation ms line first
    enough_for_alternation (two a b) first = ap₂ or_else (enough_to_read a first) (enough_to_read b (first + groups a))
    enough_for_alternation (more a ms) first = ap₂ or_else (enough_to_read a first) (enough_for_alternation ms (first + groups a))
