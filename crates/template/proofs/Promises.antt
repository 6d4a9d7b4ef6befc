-- The two public promises: each allows one answer. Two answers are told apart by what they are read as, and a reference is what it points at
-- and what stands there.
use Prim.Native.Nat.{ℕ}
use mathlib.Core.Path.{◌≡◌, refl, sym, ◌∙◌, ap}
use mathlib.Core.List.{List}
use denote.Ref.{Bor}
use Rattle.std.proofs.Common.{Result}
use Rattle.paper.specs.Refusal.{Checked}
use Rattle.paper.specs.PieceCalls as paper
use Rattle.paper.specs.PieceCalls.{piece_call}
use Rattle.pattern.specs.declared.Refused.{Refused}
use Rattle.pattern.proofs.Differing.{checked_differ}
use Rattle.template.specs.declared.Source.{Source}
use Rattle.template.specs.declared.Span.{Span}
use Rattle.template.specs.Answer.{source_of, span_of, answer_of, IsPart}

-- ---- one answer each

-- no two sources are read alike
sources_differ : (a b : Source) → source_of a ≡ source_of b → a ≡ b
sources_differ Source.Template Source.Template is = refl
sources_differ Source.Template Source.Line is = cc
sources_differ Source.Line Source.Template is = cc
sources_differ Source.Line Source.Line is = refl

-- no two spans are read alike
spans_differ : (a b : Span) → span_of a ≡ span_of b → a ≡ b
spans_differ a b is =
    let source = sources_differ a.source b.source (ap (λ (s : paper.Span). s.source) is) in
    λ i. record { source = source i; start = ap (λ (s : paper.Span). s.start) is i; end = ap (λ (s : paper.Span). s.end) is i }

-- no two answers of the first call are read alike
pub answers_differ : (a b : Result Span Refused) → answer_of a ≡ answer_of b → a ≡ b
answers_differ a b is = checked_differ span_of spans_differ a b is

-- the first call's promise allows one answer
pub one_piece : (template line table : List ℕ) (number : ℕ) (a b : Result Span Refused)
    → answer_of a ≡ piece_call template line table number → answer_of b ≡ piece_call template line table number → a ≡ b
one_piece template line table number a b first second = answers_differ a b (first ∙ sym second)

-- the second call's promise allows one answer: the same place and the same bytes, which are all of a reference
pub one_part : (answer : Checked paper.Span) (template line a b : Bor (List ℕ))
    → IsPart answer template line a → IsPart answer template line b → (a.ref_ptr ≡ b.ref_ptr) × (a.now ≡ b.now)
one_part answer template line a b first second = (first.stands ∙ sym second.stands, first.bytes ∙ sym second.bytes)
