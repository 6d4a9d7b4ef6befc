-- Rows stay rows: each is absent twice or a span inside the line, only the pattern's own rows change, and a group that was set is not absent.
-- A reading only clears rows and sets them from where a group began to where its outcome ends, and both are places of the line.
use Prim.Native.Nat.{ℕ, zero, suc, ◌+◌, ◌*◌, ◌≤◌, ◌<◌}
use mathlib.Core.Path.{◌≡◌, refl, sym, subst, ◌∙◌}
use mathlib.Core.Logic.{◌⊎◌, inl, inr}
use mathlib.Core.List.{List}
use native.Mathlib.Omega.{arith}
use native.Mathlib.Decide.{ℕ_discrete, dec_le}
use lib.ListN.{length, get_or, replicate, length-replicate}
use Rattle.paper.specs.Limits.{line_bytes, table_numbers, absent}
use Rattle.paper.specs.Pattern.{Pattern, groups}
use Rattle.paper.specs.Pattern.Pattern.{group}
use Rattle.paper.specs.Rows.{Rows, no_rows, row_start, row_end, set_row, RowFits, away, spans, RowsFit}
use Rattle.paper.specs.Reading.{spanning, read}
use Rattle.paper.proofs.reading.Every.{Every, every_bind, every_weaken, every_both}
use Rattle.paper.proofs.reading.Invariant.{Relation, Kept, Sound, read_sound}
use Rattle.paper.proofs.reading.Ends.{Within, within_kept, ends}
use Rattle.paper.proofs.reading.RowLaws

-- the table without a match reads as absent everywhere
pub absent_everywhere : (n i : ℕ) → get_or (replicate n absent) i absent ≡ absent
absent_everywhere zero i = refl
absent_everywhere (suc n) zero = refl
absent_everywhere (suc n) (suc i) = absent_everywhere n i

-- the table without a match fits every line
pub no_rows_fit : (n : ℕ) → RowsFit n no_rows
no_rows_fit n =
    record {
      numbers = length-replicate table_numbers absent;
      fits = λ k. away (absent_everywhere table_numbers (2 * k)) (absent_everywhere table_numbers (2 * k + 1));
    }

-- to set a row to what fits leaves rows that fit
pub set_row_fits : (n k start end : ℕ) (rows : Rows) → RowFits n start end → RowsFit n rows → RowsFit n (set_row k start end rows)
set_row_fits n k start end rows row all =
    record {
      numbers = RowLaws.length_set_row k start end rows ∙ all.numbers;
      fits = λ j. look j (ℕ_discrete j k) (dec_le (2 * k + 2) (length rows));
    }
  where
    look : (j : ℕ) → Dec (j ≡ k) → Dec (2 * k + 2 ≤ length rows)
        → RowFits n (row_start j (set_row k start end rows)) (row_end j (set_row k start end rows))
    look j (yes e) (yes h) =
        let inside : 2 * k + 1 < length rows = omega arith in
        subst (λ (i : ℕ). RowFits n (row_start i (set_row k start end rows)) (row_end i (set_row k start end rows))) (sym e)
        (rw (RowLaws.start_same k start end rows inside, RowLaws.end_same k start end rows inside) row)
    look j (yes e) (no h) =
        subst (λ (r : Rows). RowFits n (row_start j r) (row_end j r)) (sym (RowLaws.set_row_out k start end rows (omega (arith, all.numbers)))) (all.fits j)
    look j (no d) (yes h) = rw (RowLaws.start_other k start end rows j d, RowLaws.end_other k start end rows j d) (all.fits j)
    look j (no d) (no h) = rw (RowLaws.start_other k start end rows j d, RowLaws.end_other k start end rows j d) (all.fits j)

-- from where rows fit to where they fit again
abbrev pub Fitting : ℕ → Relation
Fitting n p r q s = Within n p r q s × (p ≤ n → RowsFit n r → RowsFit n s)

fitting_kept : (line : List ℕ) (low high : ℕ) → Kept line low high (Fitting (length line))
fitting_kept line low high =
    let n = length line in
    let within = within_kept line low high in
    record {
      stay = λ p rows. (within.stay p rows, λ h f. f);
      join = λ p r q s t u a b. (within.join p r q s t u a.0 b.0, λ h f. b.1 (omega arith) (a.1 h f));
      byte = λ p rows h. (within.byte p rows h, λ g f. f);
      span = λ k l h p r q s g. (g.0, λ b f. set_row_fits n k p q s (spans (omega arith) (omega arith)) (g.1 b f));
      clean = λ k l h p rows. (within.stay p rows, λ b f. set_row_fits n k absent absent rows (away refl refl) f);
    }

-- from rows that fit, every outcome ends inside the line with rows that fit
pub rows_fit : (e : Pattern) (line : List ℕ) (first : ℕ) → Sound (Fitting (length line)) (read e line first)
rows_fit e line first =
    read_sound line first (first + groups e) (Fitting (length line)) (fitting_kept line first (first + groups e)) e first (omega arith) (omega arith)

-- a row that does not belong to the numbers from `low` up to `high`
abbrev pub Outside : ℕ → ℕ → ℕ → Type 0
Outside low high k = (k < low) ⊎ (high ≤ k)

-- the rows outside are as before, and so is how many numbers there are
pub record Untouched (low high : ℕ) (before after : Rows) : Type 0 where
  pub numbers : length after ≡ length before
  pub start : (k : ℕ) → Outside low high k → row_start k after ≡ row_start k before
  pub end : (k : ℕ) → Outside low high k → row_end k after ≡ row_end k before

outside_differs : (low high j k : ℕ) → Outside low high j → low ≤ k → k < high → j ≡ k → ⊥
outside_differs low high j k (inl o) l h e = omega arith
outside_differs low high j k (inr o) l h e = omega arith

set_row_untouched : (low high k start end : ℕ) (r s : Rows) → low ≤ k → k < high → Untouched low high r s
    → Untouched low high r (set_row k start end s)
set_row_untouched low high k start end r s l h u =
    record {
      numbers = RowLaws.length_set_row k start end s ∙ u.numbers;
      start = λ j o. RowLaws.start_other k start end s j (outside_differs low high j k o l h) ∙ u.start j o;
      end = λ j o. RowLaws.end_other k start end s j (outside_differs low high j k o l h) ∙ u.end j o;
    }

untouched_refl : (low high : ℕ) (r : Rows) → Untouched low high r r
untouched_refl low high r = record { numbers = refl; start = λ k o. refl; end = λ k o. refl }

abbrev Leaving : ℕ → ℕ → Relation
Leaving low high p r q s = Untouched low high r s

leaving_kept : (line : List ℕ) (low high : ℕ) → Kept line low high (Leaving low high)
leaving_kept line low high =
    record {
      stay = λ p rows. untouched_refl low high rows;
      join = λ p r q s t u a b.
          record {
            numbers = b.numbers ∙ a.numbers;
            start = λ k o. b.start k o ∙ a.start k o;
            end = λ k o. b.end k o ∙ a.end k o;
          };
      byte = λ p rows h. untouched_refl low high rows;
      span = λ k l h p r q s g. set_row_untouched low high k p q r s l h g;
      clean = λ k l h p rows. set_row_untouched low high k absent absent rows rows l h (untouched_refl low high rows);
    }

-- every outcome leaves the rows below `first` and those from `first + groups e` on as they were, and as many numbers
pub rows_untouched : (e : Pattern) (line : List ℕ) (first p : ℕ) (rows : Rows)
    → Every (λ q s. Untouched first (first + groups e) rows s) (read e line first p rows)
rows_untouched e line first p rows =
    read_sound line first (first + groups e) (Leaving first (first + groups e)) (leaving_kept line first (first + groups e)) e first (omega arith)
    (omega arith)
    p
    rows

-- every outcome of a group has the group's row set, from where the group began to where the outcome ends
pub group_set : (e : Pattern) (line : List ℕ) (first p : ℕ) (rows : Rows) → 2 * first + 1 < length rows
    → Every (λ q s. (row_start first s ≡ p) × (row_end first s ≡ q)) (read (group e) line first p rows)
group_set e line first p rows h =
    every_bind (λ q s. Untouched (suc first) (suc first + groups e) rows s) (λ q s. (row_start first s ≡ p) × (row_end first s ≡ q))
    (read e line (suc first) p rows)
    (spanning first p)
    (rows_untouched e line (suc first) p rows)
    (λ q s u.
    let inside : 2 * first + 1 < length s = omega (arith, u.numbers) in
    ((RowLaws.start_same first p q s inside, RowLaws.end_same first p q s inside), tt))

-- so a group that was set, to an empty span too, is not absent
pub group_present : (e : Pattern) (line : List ℕ) (first p : ℕ) (rows : Rows) → 2 * first + 1 < length rows → p ≤ length line
    → length line ≤ line_bytes
    → Every (λ q s. (row_start first s < absent) × (row_end first s < absent)) (read (group e) line first p rows)
group_present e line first p rows h g b =
    every_weaken (λ q s. Within (length line) p rows q s × ((row_start first s ≡ p) × (row_end first s ≡ q)))
    (λ q s. (row_start first s < absent) × (row_end first s < absent))
    (read (group e) line first p rows)
    (every_both (Within (length line) p rows) (λ q s. (row_start first s ≡ p) × (row_end first s ≡ q)) (read (group e) line first p rows)
    (ends (group e) line first p rows)
    (group_set e line first p rows h))
    (λ q s f. (omega arith, omega arith))
