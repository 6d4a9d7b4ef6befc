-- The scan of replace-all: each search starts further on than the one before, so with one search more than bytes are left there are enough.
-- Further on: a match's rows, moved into the whole line, start where the search did or later, and the scan goes on past their start.
use Prim.Native.Nat.{ℕ, zero, suc, ◌+◌, ◌-◌, ◌*◌, ◌≤◌, ◌<◌}
use mathlib.Core.Path.{◌≡◌, refl, sym, ap, fun_ext, ◌∙◌}
use mathlib.Core.Bool.{Bool, true, false, cond}
use mathlib.Core.List.{List, [], ◌++◌}
use mathlib.Core.Option.{Option, none, some}
use native.Mathlib.Omega.{arith}
use lib.Dec.{ltb}
use lib.ListN.{length, drop, length-drop, get_or-map}
use borrow.Author.Tests.{ltb-true}
use Rattle.paper.specs.Limits.{line_bytes, absent}
use Rattle.paper.specs.Pattern.{Pattern, groups}
use Rattle.paper.specs.Rows.{Rows, row_start, row_end}
use Rattle.paper.specs.Check.{part}
use Rattle.paper.specs.Match.{search, search_steps}
use Rattle.paper.specs.Template.{Piece}
use Rattle.paper.specs.Replace.{moved_by, moved, put_in, precede, suppressed, Scan, scan_on, after_search, scan, replace_all}
use Rattle.paper.proofs.reading.AnswerRows.{Answered, Spans, AnswerRows, search_rows}
use Rattle.paper.proofs.reading.Moved.{true_place}

-- a row that spans a part of the rest spans, moved by p, a part of the whole line from p on
pub spans_moved : (n p k : ℕ) (rows : Rows) → n ≤ line_bytes → p ≤ n → Spans (n - p) k rows
    → (row_start k (moved p rows) ≡ p + row_start k rows) × (row_end k (moved p rows) ≡ p + row_end k rows)
spans_moved n p k rows small inside spans = (
  get_or-map (moved_by p) rows (2 * k) absent ∙ true_place p (row_start k rows) (omega arith),
  get_or-map (moved_by p) rows (2 * k + 1) absent ∙ true_place p (row_end k rows) (omega arith),
)

-- how a match from p lies in a line with n bytes
pub record Ahead (n p start end : ℕ) : Type 0 where
  pub from : p ≤ start
  pub forward : start ≤ end
  pub within : end ≤ n

-- the match that a search of the rest finds lies ahead of where the rest starts
pub match_ahead : (e : Pattern) (line : List ℕ) (p : ℕ) → length line ≤ line_bytes → p ≤ length line
    → Answered (λ rows. Ahead (length line) p (row_start 0 (moved p rows)) (row_end 0 (moved p rows))) (search e (drop p line))
match_ahead e line p small inside = look (search e (drop p line)) (search_rows e (drop p line))
  where
    look : (o : Option Rows) → Answered (AnswerRows (length (drop p line)) (groups e)) o
        → Answered (λ rows. Ahead (length line) p (row_start 0 (moved p rows)) (row_end 0 (moved p rows))) o
    look none h = tt
    look (some rows) h =
        let whole : Spans (length line - p) 0 rows = omega (arith, length-drop p line, h.whole) in
        let here = spans_moved (length line) p 0 rows small inside whole in
        record { from = omega arith; forward = omega arith; within = omega arith }

-- two scans that agree wherever the scan can go on from p
abbrev AgreePast : ℕ → ℕ → Scan → Scan → Type 0
AgreePast n p s s' = (q : ℕ) (last : Option ℕ) → p < q → q ≤ n → s q last ≡ s' q last

scan_on_agree : (s s' : Scan) (line : List ℕ) (p start end : ℕ) (last : Option ℕ) → Ahead (length line) p start end → AgreePast (length line) p s s'
    → (non_empty byte : Bool) → ltb start end ≡ non_empty → ltb start (length line) ≡ byte
    → scan_on non_empty byte s line start end last ≡ scan_on non_empty byte s' line start end last
scan_on_agree s s' line p start end last a agree true byte e f = agree end (some end) (omega (arith, ltb-true start end e)) a.within
scan_on_agree s s' line p start end last a agree false true e f =
    ap (precede (part line start (start + 1)) 0 0) (agree (start + 1) last (omega arith) (omega (arith, ltb-true start (length line) f)))
scan_on_agree s s' line p start end last a agree false false e f = refl

-- what follows a search is the same for two scans that agree past where it started
pub after_search_agree : (s s' : Scan) (template line : List ℕ) (pieces : List Piece) (p : ℕ) (last : Option ℕ) (steps : ℕ) (o : Option Rows)
    → Answered (λ rows. Ahead (length line) p (row_start 0 (moved p rows)) (row_end 0 (moved p rows))) o → AgreePast (length line) p s s'
    → after_search s template line pieces p last steps o ≡ after_search s' template line pieces p last steps o
after_search_agree s s' template line pieces p last steps none a agree = refl
after_search_agree s s' template line pieces p last steps (some found) a agree =
    let rows = moved p found in
    let start = row_start 0 rows in
    let end = row_end 0 rows in
    let kept = suppressed start end last in
    ap (precede (part line p start ++ cond kept [] (put_in template line rows pieces)) (cond kept 0 1) steps)
    (scan_on_agree s s' line p start end last a agree (ltb start end) (ltb start (length line)) refl refl)

-- the scan, with `out` in place of what it answers when it is out of searches
abbrev pub scan_or : Scan → ℕ → Pattern → List ℕ → List ℕ → List Piece → Scan
scan_or out zero e template line pieces p last = out p last
scan_or out (suc searches) e template line pieces p last =
    let rest = drop p line in
    after_search (scan_or out searches e template line pieces) template line pieces p last (search_steps e rest) (search e rest)

module _ (e : Pattern) (template line : List ℕ) (pieces : List Piece) where
  scan_as_or : (searches : ℕ) → scan searches e template line pieces ≡ scan_or (λ p last. record { output = []; replaced = 0; steps = 0 }) searches e template line pieces
  scan_as_or zero = refl
  scan_as_or (suc searches) =
      fun_ext λ p. fun_ext λ last.
      ap (λ (s : Scan). after_search s template line pieces p last (search_steps e (drop p line)) (search e (drop p line))) (scan_as_or searches)

  -- with more searches than bytes are left, neither their number nor what the scan answers out of searches changes its result
  pub enough_searches_or : length line ≤ line_bytes → (out out' : Scan) (m k p : ℕ) (last : Option ℕ) → p ≤ length line → length line - p < m
      → length line - p < k → scan_or out m e template line pieces p last ≡ scan_or out' k e template line pieces p last
  enough_searches_or small out out' zero k p last inside h g = absurd (omega arith)
  enough_searches_or small out out' (suc m) zero p last inside h g = absurd (omega arith)
  enough_searches_or small out out' (suc m) (suc k) p last inside h g =
      after_search_agree (scan_or out m e template line pieces) (scan_or out' k e template line pieces) template line pieces p last
      (search_steps e (drop p line))
      (search e (drop p line))
      (match_ahead e line p small inside)
      (λ q next past within. enough_searches_or small out out' m k q next within (omega arith) (omega arith))

  -- replace-all's scan with any greater number of searches, and with any answer out of searches, gives the same
  pub enough_searches : length line ≤ line_bytes → (out : Scan) (m : ℕ) → length line < m
      → scan_or out m e template line pieces 0 none ≡ replace_all e template pieces line
  enough_searches small out m h =
      enough_searches_or small out (λ p last. record { output = []; replaced = 0; steps = 0 }) m (suc (length line)) 0 none (omega arith)
      (omega arith)
      (omega arith) ∙
      ap (λ (s : Scan). s 0 none) (sym (scan_as_or (suc (length line))))
