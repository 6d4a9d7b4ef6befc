-- Laws of putting in a template, record by record, into whatever output: each record's bytes come before those of the records behind it, so
-- what is appended and what is left make up the whole at each turn, and what is left has room.
use Prim.Native.Nat.{ℕ}
use mathlib.Core.Path.{◌≡◌, refl, sym, ap, subst, ◌∙◌}
use mathlib.Core.List.{List, [], ◌++◌, ◌∷◌, append-nil, append_assoc}
use Rattle.std.proofs.Common.{None, Some}
use Rattle.paper.specs.Check.{part}
use Rattle.paper.specs.Rows.{Rows}
use Rattle.paper.specs.Template.{Piece, literal, reference}
use Rattle.paper.specs.Replace.{row_bytes, put_in}
use Rattle.template.specs.declared.Record.{Record}
use Rattle.template.specs.declared.Records.{Records}
use Rattle.template.specs.Record.{From, piece_of}
use Rattle.template.specs.Records.{Start, Goes}
use Rattle.template.proofs.Reading.{from_template_law, walk_from, walk_none}
use Rattle.turns.specs.Accepted.{pieces_of, Right}

-- what one record puts in
abbrev pub piece_bytes : List ℕ → List ℕ → Rows → Piece → List ℕ
piece_bytes template line rows (literal at start end) = part template start end
piece_bytes template line rows (reference at row) = row_bytes line rows row

put_first : (template line : List ℕ) (rows : Rows) (piece : Piece) (rest : List Piece)
    → put_in template line rows (piece ∷ rest) ≡ piece_bytes template line rows piece ++ put_in template line rows rest
put_first template line rows (literal at start end) rest = refl
put_first template line rows (reference at row) rest = refl

module _ {S : Type 0} (room : S → List ℕ → Type 0) (appends : S → List ℕ → S → Type 0) (template line : List ℕ) (rows : Rows) (entry : S) where
  -- the records that are left, and the bytes of those before them appended
  pub record Putting (walk : Records) (output : S) : Type 0 where
    pub done : List ℕ
    pub left : List Piece
    pub bytes : walk.template.now ≡ template
    pub from : From template walk.at left
    pub same : done ++ put_in template line rows left ≡ put_in template line rows (pieces_of template)
    pub appended : appends entry done output
    pub has_room : room output (put_in template line rows left)

  pub put_start : appends entry [] entry → Right template → room entry (put_in template line rows (pieces_of template))
      → (walk : Records) → Start template walk → Putting walk entry
  put_start none right fits walk starts =
      record {
        done = [];
        left = pieces_of template;
        bytes = starts.0;
        from = subst (λ (n : ℕ). From template n (pieces_of template)) (sym starts.1) (from_template_law template (pieces_of template) right);
        same = refl;
        appended = none;
        has_room = fits;
      }

  module _ (walk next : Records) (output : S) (kept : Putting walk output) (at : ℕ) (found : Record) (goes : Goes walk (Some (at, found)) next) where
    abbrev bytes : List ℕ
    bytes = piece_bytes template line rows (piece_of at found)

    -- the record's bytes come first of what is left
    first : (rest : List Piece) × (put_in template line rows kept.left ≡ bytes ++ put_in template line rows rest) × From template next.at rest
    first =
        let (rest, split, behind) = walk_from template walk next kept.bytes kept.left at found kept.from goes in
        (rest, ap (put_in template line rows) split ∙ put_first template line rows (piece_of at found) rest, behind)

    pub put_room : ((s : S) (xs ys : List ℕ) → room s (xs ++ ys) → room s xs) → room output bytes
    put_room room_first = room_first output bytes (put_in template line rows first.0) (subst (room output) first.1 kept.has_room)

    pub put_more : ((s t u : S) (xs ys : List ℕ) → appends s xs t → appends t ys u → appends s (xs ++ ys) u)
        → ((s t : S) (xs ys : List ℕ) → room s (xs ++ ys) → appends s xs t → room t ys) → (after : S) → appends output bytes after → Putting next after
    put_more both room_second after appended =
        let (rest, split, behind) = first in
        record {
          done = kept.done ++ bytes;
          left = rest;
          bytes = goes.0 ∙ kept.bytes;
          from = behind;
          same = append_assoc kept.done bytes (put_in template line rows rest) ∙ ap (λ (l : List ℕ). kept.done ++ l) (sym split) ∙ kept.same;
          appended = both entry output after kept.done bytes kept.appended appended;
          has_room = room_second output after bytes (put_in template line rows rest) (subst (room output) split kept.has_room) appended;
        }

  pub put_end : (walk next : Records) (output : S) → Putting walk output → Goes walk None next → appends entry (put_in template line rows (pieces_of template)) output
  put_end walk next output kept goes =
      let none = walk_none template walk next kept.bytes kept.left kept.from goes in
      let all : kept.done ≡ put_in template line rows (pieces_of template) =
      sym (append-nil kept.done) ∙ ap (λ (l : List Piece). kept.done ++ put_in template line rows l) (sym none) ∙ kept.same in
      subst (λ (l : List ℕ). appends entry l output) all kept.appended
