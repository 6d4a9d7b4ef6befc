-- Which of the carried threads a list must keep: of those with one place and level the first. The others lead to nothing, for their pair is seen by then
-- (`run_once`). Inner promises cite this file; no public promise does.
use Rattle.std.specs.Prelude.{cond, List, [], ◌∷◌}
use Rattle.paper.specs.Machine.{Thread, Pair, is_seen}

-- the pair of a thread
abbrev pub pair_of : Thread → Pair
pair_of t = record { place = t.place; level = t.level }

abbrev pub pairs_of : List Thread → List Pair
pairs_of [] = []
pairs_of (t ∷ ts) = pair_of t ∷ pairs_of ts

-- the threads whose pair is not among those given and stands nowhere before
abbrev pub once_without : List Pair → List Thread → List Thread
once_without ps [] = []
once_without ps (t ∷ ts) = cond (is_seen t.place t.level ps) (once_without ps ts) (t ∷ once_without (pair_of t ∷ ps) ts)

-- the first thread of each pair
abbrev pub once : List Thread → List Thread
once ts = once_without [] ts
