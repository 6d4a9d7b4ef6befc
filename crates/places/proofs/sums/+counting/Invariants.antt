-- Records are added up one by one, and each by what stands inside it: the bytes between the two offsets fall.
use Rattle.std.proofs.Common.{◌+◌, ◌-◌, ◌*◌}
use Rattle.places.proofs.Adding.{Summing}
use Rattle.places.proofs.sums.+counting.Given as goal

abbrev pub decreases-Record::counted : goal.decreases-Record::counted
decreases-Record::counted l = 2 * (l.self.end - l.self.at)

abbrev pub decreases-Record::sums : goal.decreases-Record::sums
decreases-Record::sums l = 2 * (l.self.end - l.self.at) + 1

abbrev pub decreases-Records::sums : goal.decreases-Records::sums
decreases-Records::sums l = 2 * (l.self.stop - l.self.at) + 2

abbrev pub invariant-Records::sums-loop-record : goal.invariant-Records::sums-loop-record
invariant-Records::sums-loop-record l =
    (goal.iterator-Records::sums-loop-record).can_next l.record-iterator
    × (goal.iterator-Records::sums-loop-record).is_finite l.record-iterator
    × Summing l.self l.record-iterator l.sums
