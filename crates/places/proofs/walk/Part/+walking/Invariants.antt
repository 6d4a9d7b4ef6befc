-- The cycle of building: `one` calls what the kind of a record needs, and those `one` again on the records inside. The bytes between the two offsets fall.
use Rattle.std.proofs.Common.{◌+◌, ◌-◌, ◌*◌}
use Rattle.laying.specs.Lent.{Writes}
use Rattle.places.proofs.Rows.{Along}
use Rattle.places.proofs.walk.Part.+walking.Given as goal

abbrev pub decreases-captured : goal.decreases-captured
decreases-captured l = 4 * (l.self.now.stop - l.self.now.at) + 1

abbrev pub decreases-one : goal.decreases-one
decreases-one l = 4 * (l.self.now.stop - l.self.now.at)

abbrev pub decreases-group : goal.decreases-group
decreases-group l = 4 * (l.self.now.stop - (l.self.now.at + 4)) + 2

abbrev pub decreases-repeated : goal.decreases-repeated
decreases-repeated l = 4 * (l.self.now.stop - (l.self.now.at + 4))

abbrev pub decreases-row : goal.decreases-row
decreases-row l = 4 * (l.self.now.stop - (l.self.now.at + 4)) + 2

abbrev pub invariant-row-loop-end : goal.invariant-row-loop-end
invariant-row-loop-end l = Writes (Along l.self l.forks l.left l.end) l.initial.table l.table

abbrev pub decreases-row-loop-end : goal.decreases-row-loop-end
decreases-row-loop-end l = l.self.stop - l.left.at
