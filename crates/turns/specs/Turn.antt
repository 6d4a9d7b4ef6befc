-- A turn of the scan as the code holds it, read as the definition's.
use Rattle.std.specs.Prelude.{ℕ, ◌≤◌, ◌≡◌, Option, Some, None}
use Rattle.std.specs.Option.{is_some, unwrap_or}
use Rattle.std.proofs.Math.Option as math
use Rattle.paper.specs.Limits.{line_bytes}
use Rattle.paper.specs.Rows.{Rows, no_rows, row_end}
use Rattle.paper.specs.ScanTurn as paper
use Rattle.turns.specs.declared.Turn.{Turn}

-- an option, read as `paper`'s
abbrev pub option_of : {A : Type 0} → Option A → math.Option A
option_of None = math.none
option_of (Some a) = math.some a

-- what a search in a line so long leaves: rows inside it, where there is a match
pub record Finds (size : ℕ) (found : Option Rows) : Type 0 where
  pub short : size ≤ line_bytes
  pub inside : (rows : Rows) → found ≡ Some rows → row_end 0 rows ≤ size

-- where the scan ends, it stands where the turn does
abbrev pub as_turn : Turn → paper.Turn
as_turn t =
    record {
      start = t.start;
      put = t.put;
      rows = unwrap_or t.found no_rows;
      upto = t.upto;
      goes = is_some t.goes;
      next = unwrap_or t.goes t.start;
      last = option_of t.last;
    }
