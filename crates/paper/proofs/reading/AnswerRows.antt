-- The rows of an answer: of a whole match and of a search, row 0 spans a part of the line, every other row is absent twice or such a span,
-- and the rows beyond the pattern's groups are absent. It holds of every outcome, so of the first that ends at the line's end.
use Prim.Native.Nat.{ℕ, ◌+◌, ◌*◌, ◌≤◌, ◌<◌}
use mathlib.Core.Path.{◌≡◌, refl, subst, ◌∙◌}
use mathlib.Core.Logic.{inl, inr}
use mathlib.Core.Bool.{Bool, true, false, cond}
use mathlib.Core.List.{List, [], ◌∷◌}
use mathlib.Core.Option.{Option, none, some}
use native.Mathlib.Omega.{arith}
use lib.Dec.{eqb}
use lib.ListN.{length}
use borrow.Author.Tests.{eqb-true}
use Rattle.paper.specs.Limits.{table_numbers, absent}
use Rattle.paper.specs.Pattern.{Mode, greedy, lazy, no_end, Pattern, groups}
use Rattle.paper.specs.Pattern.Pattern.{group, repeat}
use Rattle.paper.specs.Rows.{Rows, no_rows, row_start, row_end, set_row, spans, RowsFit}
use Rattle.paper.specs.Reading.{Outcome, in_turn, read}
use Rattle.paper.specs.Match.{first_ending_at, with_row0, whole_match, any_byte, wrap, search}
use Rattle.paper.proofs.reading.Every.{Property, Every, every_bind, every_weaken, every_both}
use Rattle.paper.proofs.reading.Ends.{Within, ends}
use Rattle.paper.proofs.reading.RowLaws
use Rattle.paper.proofs.reading.RowsKept.{Fitting, Outside, Untouched, no_rows_fit, absent_everywhere, set_row_fits, rows_fit, rows_untouched, group_set}

-- what holds of the rows of an answer, if there is one
abbrev pub Answered : (Rows → Type 0) → Option Rows → Type 0
Answered P none = Unit {0}
Answered P (some rows) = P rows

answered_first : (P : Property) (n : ℕ) (os : List Outcome) → Every P os → Answered (P n) (first_ending_at n os)
answered_first P n [] h = tt
answered_first P n (o ∷ os) h = look (eqb o.end n) refl (answered_first P n os h.1)
  where
    look : (b : Bool) → eqb o.end n ≡ b → Answered (P n) (first_ending_at n os) → Answered (P n) (cond b (some o.rows) (first_ending_at n os))
    look true e rest = subst (λ (q : ℕ). P q o.rows) (eqb-true o.end n e) h.0
    look false e rest = rest

answered_with_row_0 : (P Q : Rows → Type 0) (n : ℕ) (o : Option Rows) → Answered P o → ((rows : Rows) → P rows → Q (set_row 0 0 n rows))
    → Answered Q (with_row0 n o)
answered_with_row_0 P Q n none h g = tt
answered_with_row_0 P Q n (some rows) h g = g rows h

-- a row that spans a part of a line with n bytes
abbrev pub Spans : ℕ → ℕ → Rows → Type 0
Spans n k rows = (row_start k rows ≤ row_end k rows) × (row_end k rows ≤ n)

-- a row that is absent
abbrev pub Absent : ℕ → Rows → Type 0
Absent k rows = (row_start k rows ≡ absent) × (row_end k rows ≡ absent)

-- what is known of the rows of an answer about a line with n bytes, for a pattern with so many groups
pub record AnswerRows (n groups : ℕ) (rows : Rows) : Type 0 where
  pub fit : RowsFit n rows
  pub whole : Spans n 0 rows
  pub beyond : (k : ℕ) → groups < k → Absent k rows

untouched_absent : (low high k : ℕ) (s : Rows) → Outside low high k → Untouched low high no_rows s → Absent k s
untouched_absent low high k s o u =
    (u.start k o ∙ absent_everywhere table_numbers (2 * k), u.end k o ∙ absent_everywhere table_numbers (2 * k + 1))

-- rows that a reading of the whole pattern, its groups from `first` on, can leave
abbrev Left : Pattern → List ℕ → ℕ → Property
Left e line first q s = Fitting (length line) 0 no_rows q s × Untouched first (first + groups e) no_rows s

left : (e : Pattern) (line : List ℕ) (first : ℕ) → Every (Left e line first) (read e line first 0 no_rows)
left e line first =
    every_both (Fitting (length line) 0 no_rows) (λ q s. Untouched first (first + groups e) no_rows s) (read e line first 0 no_rows)
    (rows_fit e line first 0 no_rows)
    (rows_untouched e line first 0 no_rows)

left_fits : (e : Pattern) (line : List ℕ) (first q : ℕ) (s : Rows) → Left e line first q s → RowsFit (length line) s
left_fits e line first q s l = l.0.1 (omega arith) (no_rows_fit (length line))

-- the rows of a whole match; row 0 is the whole line
pub whole_match_rows : (e : Pattern) (line : List ℕ) → Answered (AnswerRows (length line) (groups e)) (whole_match e line)
whole_match_rows e line =
    let n = length line in
    answered_with_row_0 (Left e line 1 n) (AnswerRows n (groups e)) n (first_ending_at n (read e line 1 0 no_rows))
    (answered_first (Left e line 1) n (read e line 1 0 no_rows) (left e line 1))
    λ s l.
    let fit = left_fits e line 1 n s l in
    let inside : 2 * 0 + 1 < length s = omega (arith, fit.numbers) in
    record {
      fit = set_row_fits n 0 0 n s (spans (omega arith) (omega arith)) fit;
      whole = (omega (arith, RowLaws.start_same 0 0 n s inside), omega (arith, RowLaws.end_same 0 0 n s inside));
      beyond = λ k h.
          let far = untouched_absent 1 (1 + groups e) k s (inr (omega arith)) l.1 in
          (RowLaws.start_other 0 0 n s k (omega arith) ∙ far.0, RowLaws.end_other 0 0 n s k (omega arith) ∙ far.1);
    }

abbrev star : Mode → Pattern
star mode = repeat 0 no_end mode any_byte

-- every outcome of the reading of a search has row 0 set: the group around the pattern sets it, and no star after it changes a row
search_spans : (e : Pattern) (line : List ℕ) → Every (λ q s. Spans (length line) 0 s) (read (wrap e) line 0 0 no_rows)
search_spans e line =
    let n = length line in
    every_bind (Fitting n 0 no_rows) (λ q s. Spans n 0 s) (read (star lazy) line 0 0 no_rows)
    (in_turn (read (group e) line 0) (read (star greedy) line (0 + groups (group e))))
    (rows_fit (star lazy) line 0 0 no_rows)
    λ p r f.
    let fit : RowsFit n r = f.1 (omega arith) (no_rows_fit n) in
    every_bind (λ q s. Within n p r q s × ((row_start 0 s ≡ p) × (row_end 0 s ≡ q))) (λ q s. Spans n 0 s) (read (group e) line 0 p r)
    (read (star greedy) line (0 + groups (group e)))
    (every_both (Within n p r) (λ q s. (row_start 0 s ≡ p) × (row_end 0 s ≡ q)) (read (group e) line 0 p r)
    (ends (group e) line 0 p r)
    (group_set e line 0 p r (omega (arith, fit.numbers))))
    λ q s g.
    every_weaken (λ t u. Untouched (0 + groups (group e)) (0 + groups (group e) + 0) s u) (λ t u. Spans n 0 u)
    (read (star greedy) line (0 + groups (group e)) q s)
    (rows_untouched (star greedy) line (0 + groups (group e)) q s)
    λ t u far. (omega (arith, far.start 0 (inl (omega arith)), far.end 0 (inl (omega arith))), omega (arith, far.end 0 (inl (omega arith))))

-- the rows of a search; row 0 is what the pattern reads
pub search_rows : (e : Pattern) (line : List ℕ) → Answered (AnswerRows (length line) (groups e)) (search e line)
search_rows e line =
    let n = length line in
    let os = read (wrap e) line 0 0 no_rows in
    answered_first (λ q s. AnswerRows n (groups e) s) n os
    (every_weaken (λ q s. Left (wrap e) line 0 q s × Spans n 0 s) (λ q s. AnswerRows n (groups e) s) os
    (every_both (Left (wrap e) line 0) (λ q s. Spans n 0 s) os (left (wrap e) line 0) (search_spans e line))
    λ q s l.
    record {
      fit = left_fits (wrap e) line 0 q s l.0;
      whole = l.1;
      beyond = λ k h. untouched_absent 0 (0 + groups (wrap e)) k s (inr (omega arith)) l.0.1;
    })
