-- No range that was passed holds the byte: the others decide.
use Rattle.std.proofs.Common.{◌≡◌, drop}
use Rattle.std.specs.List.{list_any}
use Rattle.moves.proofs.Ranges.{holds_byte}
use Rattle.moves.proofs.in_set.Given as goal

abbrev pub invariant-loop-low : goal.invariant-loop-low
invariant-loop-low l = list_any (holds_byte l.byte) (drop l.low-index l.ranges) ≡ list_any (holds_byte l.byte) l.ranges
