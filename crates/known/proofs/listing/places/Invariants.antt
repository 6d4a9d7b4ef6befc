-- `listing::places` meets its contract: after a failed write nothing is gathered.
use Rattle.printer.specs.Gathered.{Gathered}
use Rattle.known.proofs.listing.places.Given as goal

abbrev pub invariant-loop-number : goal.invariant-loop-number
invariant-loop-number l = Gathered l.initial.p l.p
