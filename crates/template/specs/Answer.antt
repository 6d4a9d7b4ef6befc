-- What the two public calls answer, in the words of `paper`.
use Rattle.std.specs.Prelude.{ℕ, ◌+◌, ◌≤◌, ◌≡◌, List, length, Result}
use Rattle.std.specs.Borrow.{Bor}
use Rattle.paper.specs.Refusal.{Checked, refused, accepted}
use Rattle.paper.specs.PieceCalls as paper
use Rattle.paper.specs.PieceCalls.{from_template, from_line, source_bytes, part_call}
use Rattle.pattern.specs.declared.Refused.{Refused}
use Rattle.pattern.specs.Refusals.{checked_of}
use Rattle.template.specs.declared.Source.{Source}
use Rattle.template.specs.declared.Span.{Span}

-- the first call's answer: a refusal's number and place, or source, start and end
abbrev pub source_of : Source → paper.Source
source_of Source.Template = from_template
source_of Source.Line = from_line

abbrev pub span_of : Span → paper.Span
span_of span = record { source = source_of span.source; start = span.start; end = span.end }

abbrev pub answer_of : Result Span Refused → Checked paper.Span
answer_of r = checked_of span_of r

-- the slice that a source names, and where a part stands: so many bytes into that slice; where the call refuses, at the template's start
abbrev pub source_slice : paper.Source → Bor (List ℕ) → Bor (List ℕ) → Bor (List ℕ)
source_slice from_template template line = template
source_slice from_line template line = line

abbrev pub start_of : Checked paper.Span → Bor (List ℕ) → Bor (List ℕ) → ℕ × ℕ
start_of (refused number place) template line = template.ref_ptr
start_of (accepted span) template line =
    let slice = source_slice span.source template line in
    (slice.ref_ptr.0, slice.ref_ptr.1 + span.start)

-- what is answered lies in its source
abbrev pub Inside : List ℕ → List ℕ → paper.Span → Type 0
Inside template line span = (span.start ≤ span.end) × (span.end ≤ length (source_bytes span.source template line))

-- the second call's answer: the bytes that the first call's answer names, and they stand in the template or the line itself
pub record IsPart (answer : Checked paper.Span) (template line part : Bor (List ℕ)) : Type 0 where
  pub bytes : part.now ≡ part_call answer template.now line.now
  pub stands : part.ref_ptr ≡ start_of answer template line
