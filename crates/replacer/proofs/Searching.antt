-- From what a search gives to the turn that it makes: a match that is found lies ahead of where the search began, and inside the line.
use Prim.Native.Nat.{ℕ, ◌≤◌}
use mathlib.Core.Path.{◌≡◌, refl, sym, ap, subst, ◌∙◌}
use mathlib.Core.Bool.{true}
use mathlib.Core.List.{List}
use mathlib.Core.Option as math
use lib.ListN.{length, drop}
use Rattle.std.proofs.Common.{Option, Some, None}
use Rattle.paper.specs.Limits.{line_bytes}
use Rattle.paper.specs.Rows.{Rows, row_start, row_end}
use Rattle.paper.specs.Match.{search, search_steps}
use Rattle.paper.specs.Replace.{moved}
use Rattle.paper.specs.ScanTurn.{turn_of}
use Rattle.paper.proofs.reading.AnswerRows.{Answered}
use Rattle.paper.proofs.replacing.ScanTurns.{Ahead, match_ahead}
use Rattle.run.specs.declared.Ran.{Ran}
use Rattle.machine.specs.Machine.{Ready, Gives, SearchGives, found_of}
use Rattle.turns.specs.declared.Turn.{Turn}
use Rattle.turns.specs.Turn.{option_of, Finds, as_turn}
use Rattle.replacer.specs.Given.{tree_of}
use Rattle.replacer.specs.Scans.{Turns}
use Rattle.replacer.proofs.Scanning.{ready_accepts}

-- the rows that are found, read in either way
option_found : (rows : Option Rows) → option_of rows ≡ found_of rows
option_found (Some rows) = refl
option_found None = refl

-- the end of a match that is found lies inside the line
abbrev Ends : ℕ → math.Option Rows → Type 0
Ends n math.none = Unit {0}
Ends n (math.some rows) = row_end 0 rows ≤ n

ends_moved : (n p : ℕ) (o : math.Option Rows) → Answered (λ rows. Ahead n p (row_start 0 (moved p rows)) (row_end 0 (moved p rows))) o → Ends n (math.map (moved p) o)
ends_moved n p math.none a = tt
ends_moved n p (math.some rows) a = a.within

module _ {pattern code : List ℕ} {places deep : ℕ} (ready : Ready pattern code true places deep) (line : List ℕ) (from : ℕ) (ran : Ran)
    (gives : SearchGives pattern line from ran) (short : length line ≤ line_bytes) (inside : from ≤ length line) where
  abbrev given : Gives (math.map (moved from) (search (tree_of pattern) (drop from line))) (search_steps (tree_of pattern) (drop from line)) ran
  given = gives (tree_of pattern) (ready_accepts ready)

  abbrev found_is : option_of ran.rows ≡ math.map (moved from) (search (tree_of pattern) (drop from line))
  found_is = option_found ran.rows ∙ given.rows_are

  -- what a search from a position leaves
  pub search_finds : Finds (length line) ran.rows
  search_finds =
      record {
        short = short;
        inside = λ rows is.
            subst (Ends (length line)) (sym found_is ∙ ap option_of is)
            (ends_moved (length line) from (search (tree_of pattern) (drop from line)) (match_ahead (tree_of pattern) line from short inside));
      }

  -- and the turn that it makes
  pub search_turns : (last : Option ℕ) (t : Turn) → (as_turn t ≡ turn_of (length line) (option_of last) (option_of ran.rows)) × (t.steps ≡ ran.steps)
      → Turns pattern line from last t
  search_turns last t is =
      record {
        same = is.0 ∙ ap (turn_of (length line) (option_of last)) found_is;
        counted = is.1 ∙ given.steps_are;
      }
