-- The scan of replace-all one search at a time: what a turn copies and puts in, where it goes on, and that the whole is the turns one after another.
-- With as many searches as bytes are left, and one, the scan from a position is one turn put before the scan from where that turn goes on.
use Prim.Native.Nat.{ℕ, suc, ◌+◌, ◌-◌, ◌*◌, ◌≤◌}
use mathlib.Core.Path.{◌≡◌, refl, sym, ap, ap₂, subst, ◌∙◌}
use mathlib.Core.Bool.{Bool, true, false, cond, not}
use mathlib.Core.List.{List, [], ◌++◌, append-nil, append_assoc}
use mathlib.Core.Option.{Option, none, some, map}
use native.Mathlib.Omega.{arith}
use native.Mathlib.Nat.{sub_self}
use lib.Dec.{ltb}
use lib.ListN.{length, take, drop, length-drop, length-map, get_or-map}
use lib.Seq.{take_all}
use borrow.Author.Tests.{ltb-true}
use Rattle.paper.specs.Limits.{line_bytes, absent}
use Rattle.paper.specs.Pattern.{Pattern, groups}
use Rattle.paper.specs.Check.{part}
use Rattle.paper.specs.Rows.{Rows, row_start, row_end, RowFits, away, spans, RowsFit}
use Rattle.paper.specs.Match.{search, search_steps}
use Rattle.paper.specs.Template.{Piece}
use Rattle.paper.specs.Replace.{moved_by, moved, put_in, Scanned, precede, suppressed, Scan, scan_on, after_search, replace_all}
use Rattle.paper.specs.ScanTurn.{Turn, turn_by, turn_of, turn_at, turn_bytes, TurnFits}
use Rattle.paper.proofs.reading.RowsKept.{no_rows_fit}
use Rattle.paper.proofs.reading.AnswerRows.{Answered, AnswerRows, search_rows}
use Rattle.paper.proofs.replacing.ScanTurns.{Ahead, match_ahead, spans_moved, after_search_agree, scan_or, enough_searches_or, enough_searches}

-- a scan that has come to its end gives nothing more
abbrev pub ended : Scanned
ended = record { output = []; replaced = 0; steps = 0 }

-- how often a turn replaces
abbrev pub turn_count : Turn → ℕ
turn_count t = cond t.put 1 0

-- what the scan gives after a turn
abbrev pub turn_rest : Scan → Turn → Scanned
turn_rest scan t = cond t.goes (scan t.next t.last) ended

-- ---- a turn put before what comes after it is what the definition says follows a search

same_scanned : {a b : List ℕ} {r s : ℕ} {m n : ℕ} → a ≡ b → r ≡ s → m ≡ n
    → ◌≡◌ {A = Scanned} (record { output = a; replaced = r; steps = m }) (record { output = b; replaced = s; steps = n })
same_scanned e f g = λ i. record { output = e i; replaced = f i; steps = g i }

flip : {A : Type 0} (b : Bool) (x y : A) → cond b x y ≡ cond (not b) y x
flip true x y = refl
flip false x y = refl

part_none : (line : List ℕ) (p : ℕ) → part line p p ≡ []
part_none line p = ap (λ (n : ℕ). take n (drop p line)) (sub_self p)

part_rest : (line : List ℕ) (p : ℕ) → p ≤ length line → part line p (length line) ≡ drop p line
part_rest line p inside = take_all (length line - p) (drop p line) (omega (arith, length-drop p line))

-- a part with an empty one behind it
and_none : (xs line : List ℕ) (p : ℕ) → xs ++ part line p p ≡ xs
and_none xs line p = ap (λ (l : List ℕ). xs ++ l) (part_none line p) ∙ append-nil xs

regroup : (a x b r : List ℕ) → a ++ x ++ (b ++ r) ≡ a ++ (x ++ b) ++ r
regroup a x b r = simp append_assoc

module _ (scan : Scan) (template line : List ℕ) (pieces : List Piece) (p : ℕ) (last : Option ℕ) (steps : ℕ) where
  none_turn : p ≤ length line
      → after_search scan template line pieces p last steps none
      ≡ precede (turn_bytes template line pieces p (turn_of (length line) last none)) 0 steps ended
  none_turn inside =
      let all : part line p (length line) ++ ([] ++ part line (length line) (length line)) ++ [] ≡ drop p line =
      append-nil (part line p (length line) ++ part line (length line) (length line))
      ∙ and_none (part line p (length line)) line (length line)
      ∙ part_rest line p inside in
      same_scanned (sym all) (omega arith) (omega arith)

  match_turn : (rows : Rows) (start end : ℕ) (non_empty byte kept : Bool)
      → precede (part line p start ++ cond kept [] (put_in template line rows pieces)) (cond kept 0 1) steps (scan_on non_empty byte scan line start end last)
      ≡ (let t = turn_by non_empty byte kept rows start end last in precede (turn_bytes template line pieces p t) (turn_count t) steps (turn_rest scan t))
  match_turn rows start end non_empty byte kept = look non_empty byte
    where
      puts : List ℕ
      puts = cond (not kept) (put_in template line rows pieces) []

      copied : part line p start ++ cond kept [] (put_in template line rows pieces) ≡ part line p start ++ puts
      copied = ap (λ (l : List ℕ). part line p start ++ l) (flip kept [] (put_in template line rows pieces))

      straight : part line p start ++ cond kept [] (put_in template line rows pieces) ≡ part line p start ++ (puts ++ part line start start)
      straight = copied ∙ ap (λ (l : List ℕ). part line p start ++ l) (sym (and_none puts line start))

      look : (non_empty byte : Bool)
          → precede (part line p start ++ cond kept [] (put_in template line rows pieces)) (cond kept 0 1) steps (scan_on non_empty byte scan line start end last)
          ≡ (let t = turn_by non_empty byte kept rows start end last in precede (turn_bytes template line pieces p t) (turn_count t) steps (turn_rest scan t))
      look true byte = ap₂ (λ (l : List ℕ) (n : ℕ). precede l n steps (scan end (some end))) straight (flip kept 0 1)
      look false true =
          let more = scan (start + 1) last in
          same_scanned
          (ap (λ (l : List ℕ). l ++ (part line start (start + 1) ++ more.output)) copied
          ∙ regroup (part line p start) puts (part line start (start + 1)) more.output)
          (ap (λ (n : ℕ). n + (0 + more.replaced)) (flip kept 0 1) ∙ omega arith)
          (omega arith)
      look false false = ap₂ (λ (l : List ℕ) (n : ℕ). precede l n steps ended) straight (flip kept 0 1)

  -- what follows a search from p is its turn, and then the scan from where the turn goes on
  pub search_turn : p ≤ length line → (o : Option Rows)
      → after_search scan template line pieces p last steps o
      ≡ (let t = turn_of (length line) last (map (moved p) o) in precede (turn_bytes template line pieces p t) (turn_count t) steps (turn_rest scan t))
  search_turn inside none = none_turn inside
  search_turn inside (some found) =
      let rows = moved p found in
      let start = row_start 0 rows in
      let end = row_end 0 rows in
      match_turn rows start end (ltb start end) (ltb start (length line)) (suppressed start end last)

-- ---- how a turn lies in the line

turn_by_fits : (n p start end : ℕ) (rows : Rows) (last : Option ℕ) → Ahead n p start end → RowsFit n rows
    → (non_empty byte kept : Bool) → ltb start end ≡ non_empty → ltb start n ≡ byte → TurnFits n p (turn_by non_empty byte kept rows start end last)
turn_by_fits n p start end rows last a fit true byte kept e f =
    record {
      from = a.from;
      forward = omega arith;
      within = omega arith;
      further = λ go. (omega (arith, ltb-true start end e), a.within);
      rows_fit = fit;
    }
turn_by_fits n p start end rows last a fit false true kept e f =
    record {
      from = a.from;
      forward = omega arith;
      within = omega (arith, ltb-true start n f);
      further = λ go. (omega arith, omega (arith, ltb-true start n f));
      rows_fit = fit;
    }
turn_by_fits n p start end rows last a fit false false kept e f =
    record {
      from = a.from;
      forward = omega arith;
      within = omega arith;
      further = λ go. let z : ◌≡◌ {A = ℕ} 0 1 = cc in absurd (omega arith);
      rows_fit = fit;
    }

-- rows that fit the rest of a line fit, moved by p, the whole line
pub rows_moved_fit : (n p : ℕ) (rows : Rows) → n ≤ line_bytes → p ≤ n → RowsFit (n - p) rows → RowsFit n (moved p rows)
rows_moved_fit n p rows small inside fit = record { numbers = length-map rows (moved_by p) ∙ fit.numbers; fits = λ k. row k (fit.fits k) }
  where
    row : (k : ℕ) → RowFits (n - p) (row_start k rows) (row_end k rows) → RowFits n (row_start k (moved p rows)) (row_end k (moved p rows))
    row k (away s e) =
        away (get_or-map (moved_by p) rows (2 * k) absent ∙ ap (moved_by p) s) (get_or-map (moved_by p) rows (2 * k + 1) absent ∙ ap (moved_by p) e)
    row k (spans s e) =
        let here = spans_moved n p k rows small inside (s, e) in
        spans (omega arith) (omega arith)

-- the turn at a position lies so
pub turn_fits : (e : Pattern) (line : List ℕ) (p : ℕ) (last : Option ℕ) → length line ≤ line_bytes → p ≤ length line
    → TurnFits (length line) p (turn_at e line p last)
turn_fits e line p last small inside = look (search e (drop p line)) (match_ahead e line p small inside) (search_rows e (drop p line))
  where
    look : (o : Option Rows)
        → Answered (λ rows. Ahead (length line) p (row_start 0 (moved p rows)) (row_end 0 (moved p rows))) o
        → Answered (AnswerRows (length (drop p line)) (groups e)) o
        → TurnFits (length line) p (turn_of (length line) last (map (moved p) o))
    look none a f =
        record {
          from = inside;
          forward = omega arith;
          within = omega arith;
          further = λ go. let z : ◌≡◌ {A = ℕ} 0 1 = cc in absurd (omega arith);
          rows_fit = no_rows_fit (length line);
        }
    look (some found) a f =
        let rows = moved p found in
        let start = row_start 0 rows in
        let end = row_end 0 rows in
        let fit : RowsFit (length line - p) found = subst (λ (n : ℕ). RowsFit n found) (length-drop p line) f.fit in
        turn_by_fits (length line) p start end rows last a (rows_moved_fit (length line) p found small inside fit) (ltb start end) (ltb start (length line))
        (suppressed start end last) refl refl

-- ---- the scan from a position, with searches enough

module _ (e : Pattern) (template line : List ℕ) (pieces : List Piece) where
  -- the scan from a position on, with as many searches as bytes are left, and one
  abbrev pub scan_from : Scan
  scan_from p last = scan_or (λ q next. ended) (suc (length line - p)) e template line pieces p last

  module _ (small : length line ≤ line_bytes) where
    -- replace-all is the scan from the line's start
    pub scan_whole : scan_from 0 none ≡ replace_all e template pieces line
    scan_whole = enough_searches e template line pieces small (λ q next. ended) (suc (length line - 0)) (omega arith)

    -- the scan from a position is its turn, and then the scan from where the turn goes on
    pub scan_turn : (p : ℕ) (last : Option ℕ) → p ≤ length line
        → scan_from p last
        ≡ precede (turn_bytes template line pieces p (turn_at e line p last)) (turn_count (turn_at e line p last)) (search_steps e (drop p line)) (turn_rest scan_from (turn_at e line p last))
    scan_turn p last inside =
        after_search_agree (scan_or (λ q next. ended) (length line - p) e template line pieces) scan_from template line pieces p last
        (search_steps e (drop p line))
        (search e (drop p line))
        (match_ahead e line p small inside)
        (λ q next past within.
        enough_searches_or e template line pieces small (λ r _. ended) (λ r _. ended) (length line - p) (suc (length line - q)) q next within
        (omega arith)
        (omega arith))
        ∙ search_turn scan_from template line pieces p last (search_steps e (drop p line)) inside (search e (drop p line))
