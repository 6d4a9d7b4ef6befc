-- The walk meets its contracts. The levels left fall from a record to what it holds; between two records stand the body, its kind's own function, and the
-- loop or the single record inside.
use Rattle.std.proofs.Common.{◌-◌, ◌+◌, ◌*◌}
use Rattle.paper.specs.Check.{walk_record}
use Rattle.pattern.specs.Walk.{members_of}
use Rattle.pattern.proofs.Turning.{Left}
use Rattle.pattern.proofs.walk.+reading.Given as goal

abbrev pub decreases-any_record : goal.decreases-any_record
decreases-any_record l = 4 * l.levels

abbrev pub decreases-Body::walk : goal.decreases-Body::walk
decreases-Body::walk l = 4 * l.self.left + 3

abbrev pub decreases-Body::group : goal.decreases-Body::group
decreases-Body::group l = 4 * l.self.left + 2

abbrev pub decreases-Body::repeat : goal.decreases-Body::repeat
decreases-Body::repeat l = 4 * l.self.left + 2

abbrev pub decreases-Body::several : goal.decreases-Body::several
decreases-Body::several l = 4 * l.self.left + 2

abbrev pub decreases-Body::one : goal.decreases-Body::one
decreases-Body::one l = 4 * l.self.left + 1

abbrev pub decreases-Body::all : goal.decreases-Body::all
decreases-Body::all l = 4 * l.self.left + 1

abbrev pub invariant-Body::all-loop-next : goal.invariant-Body::all-loop-next
invariant-Body::all-loop-next l =
    let walk = walk_record l.self.left l.self.s.now in
    Left walk l.self.s.now l.self.end l.self.left l.fn.before (members_of walk l.self.s.now l.self.at l.fn.before) l.next l.count l.places l.depth l.groups

abbrev pub decreases-Body::all-loop-next : goal.decreases-Body::all-loop-next
decreases-Body::all-loop-next l = l.self.end - l.next
