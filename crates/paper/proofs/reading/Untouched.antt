-- A reading does not look at the rows and writes only those of its own groups, so writing any other number before or after it is the same.
use Prim.Native.Nat.{ℕ, zero, suc, ◌+◌, ◌*◌, ◌<◌}
use native.Mathlib.Omega.{arith}
use mathlib.Core.Path.{◌≡◌, refl, sym, ap, ◌∙◌}
use mathlib.Core.Bool.{Bool, true, false, cond}
use mathlib.Core.List.{List, [], ◌∷◌, ◌++◌}
use lib.Dec.{eqb}
use lib.ListN.{set}
use lib.Seq.{set_comm}
use Rattle.paper.specs.Limits.{absent}
use Rattle.paper.specs.Pattern.{Mode, greedy, lazy, Pattern, Members, groups}
use Rattle.paper.specs.Pattern.Pattern.{nothing, empty, bytes, group, sequence, alternation, repeat}
use Rattle.paper.specs.Pattern.Members.{two, more}
use Rattle.paper.specs.Rows.{Rows, set_row, clear}
use Rattle.paper.specs.Reading.{
  Outcome,
  Reading,
  here,
  bind,
  in_turn,
  or_else,
  takes,
  spanning,
  grouped,
  pass_of,
  must_passes,
  unless_at,
  consuming,
  prefer,
  optional_passes,
  optional_count,
  read,
  read_sequence,
  read_alternation,
}
use Rattle.paper.proofs.reading.First.{Trial, before, first_of}

-- number i of every outcome's rows written
abbrev pub written : ℕ → ℕ → List Outcome → List Outcome
written i v [] = []
written i v (o ∷ os) = record { end = o.end; rows = set o.rows i v } ∷ written i v os

-- writing number i before the reading is writing it in every outcome
pub record Untouched (i : ℕ) (reading : Reading) : Type 0 where
  pub same : (v p : ℕ) (rows : Rows) → reading p (set rows i v) ≡ written i v (reading p rows)

-- trying rows in which a number was written
pub first_written : (i v : ℕ) (os : List Outcome) (trial : Trial)
    → first_of (written i v os) trial ≡ first_of os (λ p rows. trial p (set rows i v))
first_written i v [] trial = refl
first_written i v (o ∷ os) trial = ap (before (trial o.end (set o.rows i v))) (first_written i v os trial)

written_append : (i v : ℕ) (a b : List Outcome) → written i v (a ++ b) ≡ written i v a ++ written i v b
written_append i v [] b = refl
written_append i v (o ∷ os) b = ap (λ (l : List Outcome). record { end = o.end; rows = set o.rows i v } ∷ l) (written_append i v os b)

written_bind : (i v : ℕ) (os : List Outcome) (next : Reading) → Untouched i next → bind (written i v os) next ≡ written i v (bind os next)
written_bind i v [] next untouched = refl
written_bind i v (o ∷ os) next untouched =
    ap (λ (l : List Outcome). l ++ bind (written i v os) next) (untouched.same v o.end o.rows)
    ∙ ap (λ (l : List Outcome). written i v (next o.end o.rows) ++ l) (written_bind i v os next untouched)
    ∙ sym (written_append i v (next o.end o.rows) (bind os next))

untouched_here : (i : ℕ) → Untouched i here
untouched_here i = record { same = λ v p rows. refl }

untouched_turn : {i : ℕ} {first second : Reading} → Untouched i first → Untouched i second → Untouched i (in_turn first second)
untouched_turn {i} {first} {second} a b =
    record {
      same = λ v p rows.
          ap (λ (l : List Outcome). bind l second) (a.same v p rows) ∙ written_bind i v (first p rows) second b;
    }

untouched_or : {i : ℕ} {first second : Reading} → Untouched i first → Untouched i second → Untouched i (or_else first second)
untouched_or {i} {first} {second} a b =
    record {
      same = λ v p rows.
          ap (λ (l : List Outcome). l ++ second p (set rows i v)) (a.same v p rows)
          ∙ ap (λ (l : List Outcome). written i v (first p rows) ++ l) (b.same v p rows)
          ∙ sym (written_append i v (first p rows) (second p rows));
    }

untouched_test : (i : ℕ) (test : ℕ → Bool) (step : ℕ → ℕ) → Untouched i (λ p rows. cond (test p) (here (step p) rows) [])
untouched_test i test step = record { same = λ v p rows. look v p rows (test p) }
  where
    look : (v p : ℕ) (rows : Rows) (b : Bool) → cond b (here (step p) (set rows i v)) [] ≡ written i v (cond b (here (step p) rows) [])
    look v p rows true = refl
    look v p rows false = refl

untouched_unless : (i start : ℕ) → Untouched i (unless_at start)
untouched_unless i start = record { same = λ v p rows. look v p rows (eqb p start) }
  where
    look : (v p : ℕ) (rows : Rows) (b : Bool) → cond b [] (here p (set rows i v)) ≡ written i v (cond b [] (here p rows))
    look v p rows true = refl
    look v p rows false = refl

set_row_untouched_at : (i k a b v : ℕ) (rows : Rows) → i < 2 * k → set_row k a b (set rows i v) ≡ set (set_row k a b rows) i v
set_row_untouched_at i k a b v rows low =
    ap (λ (l : Rows). set l (2 * k + 1) b) (set_comm rows i (2 * k) v a (omega arith))
    ∙ set_comm (set rows (2 * k) a) i (2 * k + 1) v b (omega arith)

-- clearing rows and writing a number of a row below them, in either order
clear_untouched : (first n i v : ℕ) (rows : Rows) → i < 2 * first → clear first n (set rows i v) ≡ set (clear first n rows) i v
clear_untouched first zero i v rows low = refl
clear_untouched first (suc n) i v rows low =
    ap (clear (suc first) n) (set_row_untouched_at i first absent absent v rows low)
    ∙ clear_untouched (suc first) n i v (set_row first absent absent rows) (omega arith)

untouched_spanning : (i k start : ℕ) → i < 2 * k → Untouched i (spanning k start)
untouched_spanning i k start low =
    record { same = λ v p rows. ap (λ (l : Rows). here p l) (set_row_untouched_at i k start p v rows low) }

untouched_grouped : {i : ℕ} {inside : Reading} (k : ℕ) → i < 2 * k → Untouched i inside → Untouched i (grouped k inside)
untouched_grouped {i} {inside} k low a =
    record {
      same = λ v p rows.
          ap (λ (l : List Outcome). bind l (spanning k p)) (a.same v p rows)
          ∙ written_bind i v (inside p rows) (spanning k p) (untouched_spanning i k p low);
    }

untouched_pass : {i : ℕ} {inside : Reading} (first n : ℕ) → i < 2 * first → Untouched i inside → Untouched i (pass_of first n inside)
untouched_pass {i} {inside} first n low a =
    record { same = λ v p rows. ap (inside p) (clear_untouched first n i v rows low) ∙ a.same v p (clear first n rows) }

untouched_must : {i : ℕ} {pass next : Reading} (n : ℕ) → Untouched i pass → Untouched i next → Untouched i (must_passes n pass next)
untouched_must zero a b = b
untouched_must (suc n) a b = untouched_turn a (untouched_must n a b)

untouched_consuming : {i : ℕ} {pass : Reading} → Untouched i pass → Untouched i (consuming pass)
untouched_consuming {i} {pass} a =
    record {
      same = λ v p rows.
          ap (λ (l : List Outcome). bind l (unless_at p)) (a.same v p rows)
          ∙ written_bind i v (pass p rows) (unless_at p) (untouched_unless i p);
    }

untouched_prefer : {i : ℕ} {again stop : Reading} (mode : Mode) → Untouched i again → Untouched i stop → Untouched i (prefer mode again stop)
untouched_prefer greedy a b = untouched_or a b
untouched_prefer lazy a b = untouched_or b a

untouched_optional : {i : ℕ} {pass : Reading} (n : ℕ) (mode : Mode) → Untouched i pass → Untouched i (optional_passes n mode pass)
untouched_optional {i} zero mode a = untouched_here i
untouched_optional {i} (suc n) mode a = untouched_prefer mode (untouched_turn (untouched_consuming a) (untouched_optional n mode a)) (untouched_here i)

-- a pattern's reading leaves every number below those of its first group untouched
mutual
  pub read_untouched : (e : Pattern) (line : List ℕ) (first i : ℕ) → i < 2 * first → Untouched i (read e line first)
  read_untouched nothing line first i low = record { same = λ v p rows. refl }
  read_untouched empty line first i low = untouched_here i
  read_untouched (bytes ranges) line first i low = untouched_test i (takes ranges line) suc
  read_untouched (group e) line first i low = untouched_grouped first low (read_untouched e line (suc first) i (omega arith))
  read_untouched (sequence ms) line first i low = sequence_untouched ms line first i low
  read_untouched (alternation ms) line first i low = alternation_untouched ms line first i low
  read_untouched (repeat least upper mode e) line first i low =
      let pass : Untouched i (pass_of first (groups e) (read e line first)) = untouched_pass first (groups e) low (read_untouched e line first i low) in
      untouched_must least pass (untouched_optional (optional_count least upper line) mode pass)

  sequence_untouched : (ms : Members) (line : List ℕ) (first i : ℕ) → i < 2 * first → Untouched i (read_sequence ms line first)
  sequence_untouched (two a b) line first i low =
      untouched_turn (read_untouched a line first i low) (read_untouched b line (first + groups a) i (omega arith))
  sequence_untouched (more a ms) line first i low =
      untouched_turn (read_untouched a line first i low) (sequence_untouched ms line (first + groups a) i (omega arith))

  alternation_untouched : (ms : Members) (line : List ℕ) (first i : ℕ) → i < 2 * first → Untouched i (read_alternation ms line first)
  alternation_untouched (two a b) line first i low =
      untouched_or (read_untouched a line first i low) (read_untouched b line (first + groups a) i (omega arith))
  alternation_untouched (more a ms) line first i low =
      untouched_or (read_untouched a line first i low) (alternation_untouched ms line (first + groups a) i (omega arith))
