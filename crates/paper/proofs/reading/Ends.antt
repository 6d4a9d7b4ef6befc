-- Where an outcome can end: not before its start, and not past the line's end unless the start was. Each thing that a reading does keeps this.
use Prim.Native.Nat.{ℕ, ◌+◌, ◌≤◌, max}
use mathlib.Core.List.{List}
use native.Mathlib.Omega.{arith}
use lib.ListN.{length}
use Rattle.paper.specs.Pattern.{Pattern, groups}
use Rattle.paper.specs.Reading.{pass_of, read}
use Rattle.paper.proofs.reading.Invariant.{Relation, Kept, Sound, pass_of_sound, read_sound}

-- from p on, and up to n where p is not past it already
abbrev pub Within : ℕ → Relation
Within n p r q s = (p ≤ q) × (q ≤ max p n)

pub within_kept : (line : List ℕ) (low high : ℕ) → Kept line low high (Within (length line))
within_kept line low high =
    record {
      stay = λ p rows. omega arith;
      join = λ p r q s t u a b. omega arith;
      byte = λ p rows h. omega arith;
      span = λ k l h p r q s g. g;
      clean = λ k l h p rows. omega arith;
    }

-- every outcome of a reading from p ends at some q with p ≤ q ≤ max p (length line)
pub ends : (e : Pattern) (line : List ℕ) (first : ℕ) → Sound (Within (length line)) (read e line first)
ends e line first =
    read_sound line first (first + groups e) (Within (length line)) (within_kept line first (first + groups e)) e first (omega arith) (omega arith)

-- and so does every outcome of a pass over it
pub pass_ends : (e : Pattern) (line : List ℕ) (first : ℕ) → Sound (Within (length line)) (pass_of first (groups e) (read e line first))
pass_ends e line first =
    pass_of_sound line first (first + groups e) (Within (length line)) (within_kept line first (first + groups e)) first (groups e) (omega arith)
    (omega arith)
    (read e line first)
    (ends e line first)
