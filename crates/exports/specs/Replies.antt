-- The promises of the exported calls: those of the calls under them, told by a status and in `out`; and where lent memory is too short, nothing is touched.
use Rattle.std.specs.Prelude.{ℕ, ◌≤◌, ◌<◌, ◌≡◌, Bool, List, Result, length}
use Rattle.paper.specs.PieceCalls.{piece_call}
use Rattle.pattern.specs.declared.Numbers.{Numbers}
use Rattle.pattern.specs.declared.Refused as checking
use Rattle.pattern.specs.Answer.{answer_of, Checks}
use Rattle.matcher.specs.declared.Found as matching
use Rattle.matcher.specs.Answer as found
use Rattle.matcher.specs.Promise.{Matches, Searches, Answers}
use Rattle.replacer.specs.declared.Replaced as replacing
use Rattle.replacer.specs.Answer as replaced
use Rattle.replacer.specs.Promise.{Replaces}
use Rattle.telling.specs.Told.{answered, Tells, check_numbers, found_numbers, span_numbers, replaced_numbers, built_numbers}
use Rattle.memory.specs.Memory.{machine_numbers, scratch_numbers, searches_in, Memories, shortest, BuildsIn}

-- the status where lent memory is too short, which no answer has
abbrev pub too_short : ℕ
too_short = 255

-- refused as too short, `out` as it was
abbrev pub Untouched : List ℕ → ℕ → List ℕ → Type 0
Untouched out status after = (status ≡ too_short) × (after ≡ out)

-- `toj_check`: an answer that checking promises, told
pub record CheckReplies (pattern out : List ℕ) (status : ℕ) (after : List ℕ) : Type 0 where
  pub short : length out < 3 → Untouched out status after
  pub told : 3 ≤ length out → (r : Result Numbers checking.Refused) × Checks pattern r × Tells (check_numbers (answer_of r)) out status after

-- `toj_match`: an answer that a whole match promises, with the table afterwards, told
pub record MatchReplies (pattern line table table' out : List ℕ) (status : ℕ) (after : List ℕ) : Type 0 where
  pub short : length out < 2 → Untouched out status after × (table' ≡ table)
  pub told : 2 ≤ length out → (r : Result matching.Found checking.Refused) × Matches pattern line table r table' × Tells (found_numbers (found.answer_of r)) out status after

-- `toj_search`: the same of a search
pub record SearchReplies (pattern line table table' out : List ℕ) (status : ℕ) (after : List ℕ) : Type 0 where
  pub short : length out < 2 → Untouched out status after × (table' ≡ table)
  pub told : 2 ≤ length out → (r : Result matching.Found checking.Refused) × Searches pattern line table r table' × Tells (found_numbers (found.answer_of r)) out status after

-- `toj_replace`: an answer that replace-all promises, with the buffer afterwards, told
pub record ReplaceReplies (pattern template line buffer buffer' out : List ℕ) (status : ℕ) (after : List ℕ) : Type 0 where
  pub short : length out < 3 → Untouched out status after × (buffer' ≡ buffer)
  pub told : 3 ≤ length out
      → (r : Result replacing.Replaced checking.Refused) × Replaces pattern template line buffer r buffer' × Tells (replaced_numbers (replaced.answer_of r)) out status after

-- `toj_piece`: what a template record puts in, told
pub record PieceReplies (template line table : List ℕ) (number : ℕ) (out : List ℕ) (status : ℕ) (after : List ℕ) : Type 0 where
  pub short : length out < 3 → Untouched out status after
  pub told : 3 ≤ length out → Tells (span_numbers (piece_call template line table number)) out status after

-- `toj_build`: an answer that building promises, with the machine's memory afterwards, told
pub record BuildReplies (pattern : List ℕ) (searches : Bool) (machine machine' out : List ℕ) (status : ℕ) (after : List ℕ) : Type 0 where
  pub short : length out < 3 → Untouched out status after × (machine' ≡ machine)
  pub small : length machine < machine_numbers → Untouched out status after × (machine' ≡ machine)
  pub told : 3 ≤ length out → machine_numbers ≤ length machine
      → (r : Result Numbers checking.Refused) × BuildsIn pattern searches machine machine' r × Tells (built_numbers r) out status after

-- `toj_run`: what a whole match or a search promises, by what the machine was built for. An answer may leave anything in the four memories that it was run in;
-- any other status leaves them as they were
pub record RunReplies (pattern machine line : List ℕ) (lent lent' : Memories) (table table' out : List ℕ) (status : ℕ) (after : List ℕ) : Type 0 where
  pub short : length out < 2 → Untouched out status after × (table' ≡ table)
  pub small : length machine < machine_numbers → Untouched out status after × (table' ≡ table)
  pub narrow : shortest lent < scratch_numbers → Untouched out status after × (table' ≡ table)
  pub told : 2 ≤ length out → machine_numbers ≤ length machine → scratch_numbers ≤ shortest lent
      → (r : Result matching.Found checking.Refused) × Answers (searches_in machine) pattern line table r table' × Tells (found_numbers (found.answer_of r)) out status after
  pub kept : (status ≡ answered → ⊥) → lent' ≡ lent
