-- What the functions are given: a template that was accepted.
use Rattle.std.specs.Prelude.{ℕ, ◌≡◌, List, []}
use Rattle.paper.specs.Refusal.{Checked, refused, accepted}
use Rattle.paper.specs.Template.{Piece, template_of}

-- what was accepted, or something else
abbrev pub accepted_or : {A : Type 0} → A → Checked A → A
accepted_or other (refused number place) = other
accepted_or other (accepted a) = a

-- a template's records
abbrev pub pieces_of : List ℕ → List Piece
pieces_of template = accepted_or [] (template_of template)

-- a template that was accepted
abbrev pub Right : List ℕ → Type 0
Right template = template_of template ≡ accepted (pieces_of template)
