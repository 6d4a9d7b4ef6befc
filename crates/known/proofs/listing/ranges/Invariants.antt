-- `listing::ranges` meets its contract: after a failed write nothing is gathered.
use Rattle.printer.specs.Gathered.{Gathered}
use Rattle.known.proofs.listing.ranges.Given as goal

abbrev pub invariant-loop-low : goal.invariant-loop-low
invariant-loop-low l = Gathered l.initial.p l.p
