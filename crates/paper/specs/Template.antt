-- A template: its records, and refusals 9 and 10.
use Rattle.std.specs.Prelude.{ℕ, zero, suc, cond, ◌&&◌, List, [], ◌∷◌, leb, ltb, eqb, length}
use Rattle.paper.specs.Limits.{template_bytes, pattern_groups}
use Rattle.paper.specs.Refusal.{Checked, refused, accepted, ◌>>=◌, ◌>>◌, holds, template_wrong, reference_too_high}
use Rattle.paper.specs.Check.{number_at, body_length, kind_at, body_start, body_end}

-- Replace 1: what a template record puts in: its own bytes from a start to an end, or a row; `at` is the record's offset
pub data Piece : Type 0 where
  literal : ℕ → ℕ → ℕ → Piece
  reference : ℕ → ℕ → Piece

-- Replace 1: the two kinds
abbrev pub literal_kind : ℕ
literal_kind = 32

abbrev pub reference_kind : ℕ
reference_kind = 33

-- Replace 1: a literal has one or more bytes
abbrev pub literal_at : List ℕ → ℕ → Checked Piece
literal_at bs at = holds (leb 1 (body_length bs at)) template_wrong at >> accepted (literal at (body_start at) (body_end bs at))

-- Replace 1: a reference's body is one number, 0 to 9
abbrev pub reference_at : List ℕ → ℕ → Checked Piece
reference_at bs at =
    let row = number_at bs (body_start at) in
    holds (eqb (body_length bs at) 2 && leb row pattern_groups) template_wrong at >> accepted (reference at row)

abbrev pub piece_of_kind : List ℕ → ℕ → ℕ → Checked Piece
piece_of_kind bs at kind =
    cond (eqb kind literal_kind) (literal_at bs at) (cond (eqb kind reference_kind) (reference_at bs at) (refused template_wrong at))

-- Refusals 1, table, 9: a record that is cut, of another kind, or with a wrong body is refused at its place
abbrev pub piece_at : List ℕ → ℕ → Checked Piece
piece_at bs at = holds (leb (body_end bs at) (length bs)) template_wrong at >> piece_of_kind bs at (kind_at bs at)

-- Replace 1: the records from an offset on, in order. Each turn takes a byte at least, so as many turns as bytes are enough
abbrev pub pieces_from : ℕ → List ℕ → ℕ → Checked (List Piece)
pieces_from zero bs at = accepted []
pieces_from (suc turns) bs at =
    cond (ltb at (length bs))
    (piece_at bs at >>= λ piece.
    pieces_from turns bs (body_end bs at) >>= λ rest.
    accepted (piece ∷ rest))
    (accepted [])

-- Refusals 1, table, 9: too long is tested first, and refused at 0
abbrev pub template_of : List ℕ → Checked (List Piece)
template_of bs = holds (leb (length bs) template_bytes) template_wrong 0 >> pieces_from (length bs) bs 0

-- Refusals 1, table, 10: the first reference above the pattern's group count
abbrev pub within : List Piece → ℕ → Checked (Unit {0})
within [] groups = accepted tt
within (literal at start end ∷ rest) groups = within rest groups
within (reference at row ∷ rest) groups = holds (leb row groups) reference_too_high at >> within rest groups
