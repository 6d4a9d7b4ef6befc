-- What this crate's inner functions answer, in the words of `paper`: one record, the number of records, the references.
use Rattle.std.specs.Prelude.{ℕ, ◌≤◌, ◌<◌, ◌≡◌, List, [], ◌∷◌, length, drop, Option, Some, None, Result, Ok, Err}
use Rattle.paper.specs.Limits.{pattern_groups}
use Rattle.paper.specs.Refusal.{Checked, refused, accepted, ◌>>=◌, template_wrong}
use Rattle.paper.specs.Check.{body_end}
use Rattle.paper.specs.Template.{Piece, literal, reference, piece_at, template_of, within}
use Rattle.pattern.specs.declared.Refused.{Refused}
use Rattle.pattern.specs.Refusals.{number_of, checked_of}
use Rattle.template.specs.declared.Record.{Record}

-- where the next record stands
abbrev pub next_of : Record → ℕ
next_of (Record.Literal start end) = end
next_of (Record.Reference row next) = next

-- the piece that a record at an offset is
abbrev pub piece_of : ℕ → Record → Piece
piece_of at (Record.Literal start end) = literal at start end
piece_of at (Record.Reference row next) = reference at row

-- a literal has a byte behind its header, and a reference is to one of the rows
abbrev pub Fits : ℕ → Record → Type 0
Fits at (Record.Literal start end) = (at < start) × (start < end)
Fits at (Record.Reference row next) = row ≤ pattern_groups

-- the record at an offset is this one, and the next one stands where it says; or it is wrong
abbrev pub Shows : List ℕ → ℕ → Option Record → Type 0
Shows bs at None = piece_at bs at ≡ refused template_wrong at
Shows bs at (Some found) =
    (piece_at bs at ≡ accepted (piece_of at found)) × Fits at found × (at < next_of found) × (next_of found ≤ length bs) × (next_of found ≡ body_end bs at)

-- the records from an offset on are these: none at the end, else the first one stands there and the others behind it
abbrev pub From : List ℕ → ℕ → List Piece → Type 0
From bs at [] = length bs ≤ at
From bs at (piece ∷ rest) = (at < length bs) × (piece_at bs at ≡ accepted piece) × From bs (body_end bs at) rest

-- 9, or how many records there are
abbrev pub record_count : List ℕ → Checked ℕ
record_count bs = template_of bs >>= λ pieces. accepted (length pieces)

abbrev pub count_of : Result ℕ Refused → Checked ℕ
count_of r = checked_of (λ count. count) r

-- the record of a number is the piece of this number, and there is one where there is such a piece
abbrev pub IsNumbered : List Piece → ℕ → Option Record → Type 0
IsNumbered pieces number None = length pieces ≤ number
IsNumbered pieces number (Some found) = (at : ℕ) × (rest : List Piece) × (drop number pieces ≡ piece_of at found ∷ rest) × Fits at found

-- 9, or how many records there are, and the record of a number
abbrev pub TellsNumbered : List ℕ → ℕ → Result (ℕ × Option Record) Refused → Type 0
TellsNumbered bs number (Err r) = template_of bs ≡ refused (number_of r.refusal) r.place
TellsNumbered bs number (Ok (count, found)) =
    (pieces : List Piece) × (template_of bs ≡ accepted pieces) × (count ≡ length pieces) × IsNumbered pieces number found

-- 9, then 10
abbrev pub references_call : List ℕ → ℕ → Checked (Unit {0})
references_call bs groups = template_of bs >>= λ pieces. within pieces groups

abbrev pub references_of : Result (Unit {0}) Refused → Checked (Unit {0})
references_of r = checked_of (λ none. none) r

-- a template that is not refused
abbrev pub Lawful : List ℕ → Type 0
Lawful bs = (pieces : List Piece) × (template_of bs ≡ accepted pieces)
