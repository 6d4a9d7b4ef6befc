-- What the two promises of a piece shut out: one that refuses everything, and one whose part is always empty. The template has one record, a literal of one byte.
use Prim.Native.Nat.{ℕ}
use native.Mathlib.Omega.{arith}
use mathlib.Core.Path.{◌≡◌, sym, ap, ◌∙◌}
use mathlib.Core.Bool.{Bool, true, false, true≢false}
use mathlib.Core.List.{List, [], ◌∷◌}
use denote.Ref.{Bor}
use lib.ListN.{length}
use Rattle.paper.specs.Refusal.{Checked, refused, accepted}
use Rattle.paper.specs.Rows.{no_rows}
use Rattle.paper.specs.PieceCalls.{Span, piece_call, part_call}
use Rattle.std.specs.Prelude.{Err}
use Rattle.pattern.specs.declared.Refused.{Refused}
use Rattle.pattern.specs.Refusals.{number_of}
use Rattle.template.specs.Answer.{answer_of, IsPart}

abbrev is_accepted : Checked Span → Bool
is_accepted (refused number place) = false
is_accepted (accepted span) = true

-- the literal "-"
abbrev dash : List ℕ
dash = 1 ∷ 0 ∷ 32 ∷ 0 ∷ 45 ∷ []

-- the definition refuses nothing here
pub refuses_none : (number place : ℕ) → refused number place ≡ piece_call dash [] no_rows 0 → ⊥
refuses_none number place p = true≢false (sym (ap is_accepted p))

pub refuses_all : (r : Refused) → answer_of (Err r) ≡ piece_call dash [] no_rows 0 → ⊥
refuses_all r p = refuses_none (number_of r.refusal) r.place p

pub always_empty : (template line part : Bor (List ℕ)) → template.now ≡ dash → IsPart (piece_call dash [] no_rows 0) template line part → part.now ≡ [] → ⊥
always_empty template line part is p empty =
    let wrong : ◌≡◌ {A = ℕ} 0 1 =
    ap length (sym empty ∙ p.bytes) ∙ ap (λ (t : List ℕ). length (part_call (piece_call dash [] no_rows 0) t line.now)) is in
    omega arith
