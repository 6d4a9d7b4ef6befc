-- Piece: which bytes a template record puts in, without copying.
use Rattle.std.specs.Prelude.{ℕ, zero, suc, Bool, cond, ◌&&◌, List, [], ◌∷◌, leb, eqb, length}
use Rattle.paper.specs.Limits.{absent}
use Rattle.paper.specs.Refusal.{Checked, refused, accepted, ◌>>=◌, ◌>>◌, holds, row_wrong, no_such_piece}
use Rattle.paper.specs.Check.{part}
use Rattle.paper.specs.Rows.{Rows, row_start, row_end}
use Rattle.paper.specs.Match.{line_and_table}
use Rattle.paper.specs.Template.{Piece, literal, reference, template_of}

-- Replace 3: out of the template or out of the line
pub data Source : Type 0 where
  from_template from_line : Source

-- Replace 3: source, start and end
pub record Span : Type 0 where
  pub source : Source
  pub start : ℕ
  pub end : ℕ

-- Reading 5: absent is 65,535 twice
abbrev pub is_absent : ℕ → ℕ → Bool
is_absent start end = eqb start absent && eqb end absent

-- Replace 3 and Refusals 1, table, 15: a row's part of the line; an absent one is the empty part at the line's start
abbrev pub row_span : ℕ → ℕ → ℕ → Checked Span
row_span size start end =
    cond (is_absent start end)
    (accepted (record { source = from_line; start = 0; end = 0 }))
    (holds (leb start end && leb end size) row_wrong 0 >> accepted (record { source = from_line; start = start; end = end }))

-- Replace 3: what one template record puts in
abbrev pub span_of : Piece → ℕ → Rows → Checked Span
span_of (literal at start end) size table = accepted (record { source = from_template; start = start; end = end })
span_of (reference at row) size table = row_span size (row_start row table) (row_end row table)

-- Replace 3 and Refusals 1, table, 16: pieces are counted from 0
abbrev pub span_at : List Piece → ℕ → ℕ → Rows → Checked Span
span_at [] n size table = refused no_such_piece 0
span_at (piece ∷ rest) zero size table = span_of piece size table
span_at (piece ∷ rest) (suc n) size table = span_at rest n size table

-- Refusals 3: piece refuses by 9, 11, 12, 16, 15, in this order
abbrev pub piece_call : List ℕ → List ℕ → List ℕ → ℕ → Checked Span
piece_call template line table n =
    template_of template >>= λ pieces. line_and_table line table >> span_at pieces n (length line) table

-- Replace 3: the part itself, out of the source named; where the call refuses, the empty part at the template's start
abbrev pub source_bytes : Source → List ℕ → List ℕ → List ℕ
source_bytes from_template t l = t
source_bytes from_line t l = l

abbrev pub part_call : Checked Span → List ℕ → List ℕ → List ℕ
part_call (refused number place) t l = []
part_call (accepted span) t l = part (source_bytes span.source t l) span.start span.end
