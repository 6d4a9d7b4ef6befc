-- The laws of the two outputs: nothing appended, one after another, and the room that is left.
use Prim.Native.Nat.{ℕ, ◌+◌, ◌-◌}
use mathlib.Core.Path.{◌≡◌, refl, sym, ap, ◌∙◌}
use mathlib.Core.List.{List, [], ◌++◌, append-nil, append_assoc}
use native.Mathlib.Omega.{arith}
use lib.ListN.{take, drop, length-append}
use lib.Seq.{drop-drop}
use Rattle.turns.specs.declared.output.Length.{Length}
use Rattle.turns.specs.declared.output.Buffer.{Buffer}
use Rattle.turns.specs.Output.{CountRoom, Counts, WriteRoom, Writes}
use Rattle.turns.specs.Appended.{Appended}

pub counts_none : (s : Length) → Counts s [] s
counts_none s = omega arith

pub counts_both : (s t u : Length) (first second : List ℕ) → Counts s first t → Counts t second u → Counts s (first ++ second) u
counts_both s t u first second one two = omega (arith, length-append first second)

pub count_room_first : (s : Length) (first second : List ℕ) → CountRoom s (first ++ second) → CountRoom s first
count_room_first s first second room = omega (arith, length-append first second)

pub count_room_second : (s t : Length) (first second : List ℕ) → CountRoom s (first ++ second) → Counts s first t → CountRoom t second
count_room_second s t first second room one = omega (arith, length-append first second)

-- nothing written
pub nothing_written : (buffer : List ℕ) (at : ℕ) → Appended buffer buffer at [] at
nothing_written buffer at = record { ends = omega arith; long = refl; front = sym (append-nil (take at buffer)); behind = refl }

-- one writing after another
pub written_on : (a b c xs ys : List ℕ) (at middle end : ℕ) → Appended a b at xs middle → Appended b c middle ys end → Appended a c at (xs ++ ys) end
written_on a b c xs ys at middle end first second =
    record {
      ends = omega (arith, first.ends, second.ends, length-append xs ys);
      long = second.long ∙ first.long;
      front = second.front ∙ ap (λ (l : List ℕ). l ++ ys) first.front ∙ append_assoc (take at a) xs ys;
      behind = second.behind ∙ further (end - middle) (omega (arith, second.ends));
    }
  where
    further : (more : ℕ) → end ≡ middle + more → drop end b ≡ drop end a
    further more is =
        ap (λ (n : ℕ). drop n b) is ∙ sym (drop-drop more middle b) ∙ ap (drop more) first.behind ∙ drop-drop more middle a ∙ ap (λ (n : ℕ). drop n a) (sym is)

pub writes_none : (s : Buffer) → Writes s [] s
writes_none s = (nothing_written s.bytes.now s.end, refl)

pub writes_both : (s t u : Buffer) (first second : List ℕ) → Writes s first t → Writes t second u → Writes s (first ++ second) u
writes_both s t u first second (one, same) (two, also) =
    (written_on s.bytes.now t.bytes.now u.bytes.now first second s.end t.end u.end one two, also ∙ same)

pub write_room_first : (s : Buffer) (first second : List ℕ) → WriteRoom s (first ++ second) → WriteRoom s first
write_room_first s first second room = omega (arith, length-append first second)

pub write_room_second : (s t : Buffer) (first second : List ℕ) → WriteRoom s (first ++ second) → Writes s first t → WriteRoom t second
write_room_second s t first second room (one, same) = omega (arith, length-append first second, one.ends, one.long)
