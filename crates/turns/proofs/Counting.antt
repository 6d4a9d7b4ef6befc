-- What a turn writes can be counted: a length that begins at nothing has room for it, so measuring asks no more than the turn itself.
use Rattle.std.proofs.Common.{arith, ◌≤◌, ◌≡◌, ◌+◌, ◌-◌, ◌++◌, ◌∙◌, sym, ap, Bool, true, false, cond, List, [], ℕ, length}
use lib.ListN.{drop, length-append, length-take, length-drop}
use Rattle.paper.specs.Limits.{line_bytes}
use Rattle.paper.specs.Check.{part}
use Rattle.paper.specs.Template.{Piece}
use Rattle.paper.specs.Replace.{put_in}
use Rattle.paper.specs.ScanTurn.{Turn, turn_bytes, TurnFits}
use Rattle.paper.proofs.replacing.ScanLengths.{most_put, put_most, part_length}
use Rattle.turns.specs.Accepted.{pieces_of, Right}
use Rattle.turns.specs.Output.{CountRoom}

part_short : (l : List ℕ) (start end : ℕ) → length (part l start end) ≤ length l
part_short l start end = omega (arith, length-take (end - start) (drop start l), length-drop start l)

pub turn_counted : (template line : List ℕ) (from : ℕ) (turn : Turn) → Right template → length line ≤ line_bytes
    → CountRoom (record { bytes = 0 }) (turn_bytes template line (pieces_of template) from turn)
turn_counted template line from turn right small =
    let first = part line from turn.start in
    let puts = cond turn.put (put_in template line turn.rows (pieces_of template)) [] in
    let second = part line turn.start turn.upto in
    omega (
      arith,
      length-append first (puts ++ second),
      length-append puts second,
      part_short line from turn.start,
      part_short line turn.start turn.upto,
      put turn.put,
      small,
    )
  where
    put : (b : Bool) → length (cond b (put_in template line turn.rows (pieces_of template)) []) ≤ most_put
    put true = put_most template line turn.rows (pieces_of template) right small
    put false = omega arith

-- how many bytes a turn writes: two parts of the line, which meet, and what the template puts in between them
module _ (template line : List ℕ) (pieces : List Piece) (p : ℕ) (t : Turn) (fits : TurnFits (length line) p t) where
  abbrev puts : List ℕ
  puts = cond t.put (put_in template line t.rows pieces) []

  pub turn_counts : length (turn_bytes template line pieces p t) ≡ (t.upto - p) + length puts
  turn_counts =
      let first = part line p t.start in
      let second = part line t.start t.upto in
      omega (
        arith,
        length-append first (puts ++ second),
        length-append puts second,
        part_length line p t.start (omega (arith, fits.forward, fits.within)),
        part_length line t.start t.upto fits.within,
        fits.from,
        fits.forward,
      )

  pub turn_counts_put : t.put ≡ true → (t.upto - p) + length (put_in template line t.rows pieces) ≡ length (turn_bytes template line pieces p t)
  turn_counts_put is =
      sym (turn_counts ∙ ap (λ (b : Bool). (t.upto - p) + length (cond b (put_in template line t.rows pieces) [])) is)

  pub turn_counts_none : t.put ≡ false → t.upto - p ≡ length (turn_bytes template line pieces p t)
  turn_counts_none is =
      omega (arith, turn_counts ∙ ap (λ (b : Bool). (t.upto - p) + length (cond b (put_in template line t.rows pieces) [])) is)
