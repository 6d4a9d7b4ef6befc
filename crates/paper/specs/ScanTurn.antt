-- A turn of replace-all's scan: what a search that was made asks to copy and to put in, and where the scan goes on. No public promise cites this file.
use Rattle.std.specs.Prelude.{ℕ, ◌+◌, ◌≤◌, ◌<◌, ◌≡◌, Bool, true, false, cond, not, List, [], ◌++◌, ltb, length, drop}
use Rattle.std.proofs.Math.Option.{Option, none, some, map}
use Rattle.paper.specs.Pattern.{Pattern}
use Rattle.paper.specs.Check.{part}
use Rattle.paper.specs.Rows.{Rows, no_rows, row_start, row_end, RowsFit}
use Rattle.paper.specs.Match.{search}
use Rattle.paper.specs.Template.{Piece}
use Rattle.paper.specs.Replace.{moved, put_in, suppressed}

-- a turn of the scan, once its search is made: up to where the line is copied first, whether the template is put in and for which rows,
-- up to where the line is copied then, whether the scan goes on, and from where, after which non-empty match's end
pub record Turn : Type 0 where
  pub start : ℕ
  pub put : Bool
  pub rows : Rows
  pub upto : ℕ
  pub goes : Bool
  pub next : ℕ
  pub last : Option ℕ

-- the turn of a match: whether it is non-empty, whether a byte stands at its start, whether it is suppressed
abbrev pub turn_by : Bool → Bool → Bool → Rows → ℕ → ℕ → Option ℕ → Turn
turn_by true byte over rows start end last =
    record { start = start; put = not over; rows = rows; upto = start; goes = true; next = end; last = some end }
turn_by false true over rows start end last =
    record { start = start; put = not over; rows = rows; upto = start + 1; goes = true; next = start + 1; last = last }
turn_by false false over rows start end last =
    record { start = start; put = not over; rows = rows; upto = start; goes = false; next = start; last = last }

-- the turn of a search in a line with n bytes, by the rows that it finds in the whole line
abbrev pub turn_of : ℕ → Option ℕ → Option Rows → Turn
turn_of n last none = record { start = n; put = false; rows = no_rows; upto = n; goes = false; next = n; last = last }
turn_of n last (some rows) =
    let start = row_start 0 rows in
    let end = row_end 0 rows in
    turn_by (ltb start end) (ltb start n) (suppressed start end last) rows start end last

-- the turn that the scan makes at a position
abbrev pub turn_at : Pattern → List ℕ → ℕ → Option ℕ → Turn
turn_at e line p last = turn_of (length line) last (map (moved p) (search e (drop p line)))

-- what a turn from p writes
abbrev pub turn_bytes : List ℕ → List ℕ → List Piece → ℕ → Turn → List ℕ
turn_bytes template line pieces p t =
    part line p t.start ++ (cond t.put (put_in template line t.rows pieces) [] ++ part line t.start t.upto)

-- how a turn lies in the line: the first copy goes forward from p, the second from its end, and both inside the line; where the scan goes on it is past p, and the rows fit the line
pub record TurnFits (n p : ℕ) (t : Turn) : Type 0 where
  pub from : p ≤ t.start
  pub forward : t.start ≤ t.upto
  pub within : t.upto ≤ n
  pub further : t.goes ≡ true → (p < t.next) × (t.next ≤ n)
  pub rows_fit : RowsFit n t.rows
