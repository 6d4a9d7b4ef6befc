-- The turns of the two walks over records: with as many turns as bytes are left, more turns change nothing, and the walk ends where the bytes end.
-- Each record takes four bytes at least, so each turn leaves fewer bytes, and turns are left over as long as bytes are.
use Prim.Native.Nat.{ℕ, zero, suc, ◌+◌, ◌-◌, ◌≤◌, ◌<◌}
use native.Mathlib.Omega.{arith}
use native.Mathlib.Nat.{le_antisymm}
use mathlib.Core.Path.{◌≡◌, refl, sym, ◌∙◌, ap, subst, subst₂}
use mathlib.Core.Bool.{Bool, true, false, cond}
use mathlib.Core.List.{List, [], ◌∷◌}
use lib.Dec.{leb, ltb}
use lib.ListN.{length}
use borrow.Author.Tests.{ltb-true, ltb-false, le-ltb, lt-ltb, leb-true}
use Rattle.paper.specs.Refusal.{Checked, accepted, ◌>>=◌, template_wrong}
use Rattle.paper.specs.Pattern.{Pattern, groups}
use Rattle.paper.specs.Check.{body_end, kind_at, Walk, walk_all}
use Rattle.paper.specs.Template.{Piece, piece_at, piece_of_kind, pieces_from}
use Rattle.paper.proofs.layout.Accepted.{accepted_injective, bind_accepted, holds_accepted, bind_same}

-- where so many records end that follow one another from an offset on
abbrev pub end_after : {A : Type 0} → List ℕ → ℕ → List A → ℕ
end_after bs at [] = at
end_after bs at (e ∷ es) = end_after bs (body_end bs at) es

-- ---- the records inside a sequence or an alternation

-- the answer where a record is left: that record, then those behind it
abbrev pub one_member_turn : ℕ → Walk → List ℕ → ℕ → ℕ → ℕ → Checked (List Pattern)
one_member_turn turns walk bs at stop before =
    walk at stop before >>= λ e.
    walk_all turns walk bs (body_end bs at) stop (before + groups e) >>= λ es.
    accepted (e ∷ es)

-- no bytes are left: no records
pub walk_all_none : (turns : ℕ) (walk : Walk) (bs : List ℕ) (at stop before : ℕ) → stop ≤ at → walk_all turns walk bs at stop before ≡ accepted []
walk_all_none zero walk bs at stop before h = refl
walk_all_none (suc turns) walk bs at stop before h =
    ap (λ (b : Bool). cond b (one_member_turn turns walk bs at stop before) (accepted [])) (le-ltb at stop h)

-- bytes are left: one more record
pub walk_all_more : (turns : ℕ) (walk : Walk) (bs : List ℕ) (at stop before : ℕ) → at < stop → walk_all (suc turns) walk bs at stop before ≡ one_member_turn turns walk bs at stop before
walk_all_more turns walk bs at stop before h =
    ap (λ (b : Bool). cond b (one_member_turn turns walk bs at stop before) (accepted [])) (lt-ltb at stop h)

-- any two numbers of turns that are no fewer than the bytes left give the same answer
pub walk_all_turns : (walk : Walk) (bs : List ℕ) (turns more at stop before : ℕ) → stop - at ≤ turns → stop - at ≤ more
    → walk_all turns walk bs at stop before ≡ walk_all more walk bs at stop before
walk_all_turns walk bs zero more at stop before enough also = sym (walk_all_none more walk bs at stop before (omega arith))
walk_all_turns walk bs (suc turns) zero at stop before enough also = walk_all_none (suc turns) walk bs at stop before (omega arith)
walk_all_turns walk bs (suc turns) (suc more) at stop before enough also =
    look (ltb at stop) refl
    (λ e. λ (left : at < stop). walk_all_turns walk bs turns more (body_end bs at) stop (before + groups e) (omega arith) (omega arith))
  where
    look : (b : Bool) → ltb at stop ≡ b
        → ((e : Pattern) → at < stop → walk_all turns walk bs (body_end bs at) stop (before + groups e) ≡ walk_all more walk bs (body_end bs at) stop (before + groups e))
        → cond b (one_member_turn turns walk bs at stop before) (accepted []) ≡ cond b (one_member_turn more walk bs at stop before) (accepted [])
    look true t same =
        bind_same (walk at stop before) (λ e. ap (λ (r : Checked (List Pattern)). r >>= λ es. accepted (e ∷ es)) (same e (ltb-true at stop t)))
    look false t same = refl

-- so with turns enough the walk obeys its rule without turns: while bytes are left, one more record
pub walk_all_rule : (walk : Walk) (bs : List ℕ) (turns at stop before : ℕ) → stop - at ≤ turns
    → walk_all turns walk bs at stop before ≡ cond (ltb at stop) (one_member_turn turns walk bs at stop before) (accepted [])
walk_all_rule walk bs turns at stop before enough = walk_all_turns walk bs turns (suc turns) at stop before enough (omega arith)

-- one more record is accepted before those behind it
pub walk_all_accepts : (walk : Walk) (bs : List ℕ) (turns at stop before : ℕ) (e : Pattern) (es : List Pattern) → stop - at ≤ turns → at < stop → walk at stop before ≡ accepted e
    → walk_all turns walk bs (body_end bs at) stop (before + groups e) ≡ accepted es → walk_all turns walk bs at stop before ≡ accepted (e ∷ es)
walk_all_accepts walk bs turns at stop before e es enough left first rest =
    walk_all_rule walk bs turns at stop before enough
    ∙ ap (λ (b : Bool). cond b (one_member_turn turns walk bs at stop before) (accepted [])) (lt-ltb at stop left)
    ∙ ap (λ (c : Checked Pattern). c >>= λ m. walk_all turns walk bs (body_end bs at) stop (before + groups m) >>= λ ms. accepted (m ∷ ms)) first
    ∙ ap (λ (c : Checked (List Pattern)). c >>= λ ms. accepted (e ∷ ms)) rest

-- a walk that accepts no record that runs past its holder
abbrev pub Within : List ℕ → Walk → Type 0
Within bs walk = (at stop before : ℕ) (e : Pattern) → walk at stop before ≡ accepted e → body_end bs at ≤ stop

-- what holds of no records at the holder's end, and of one more record before those it holds of, holds of all that the walk accepts
module _ (bs : List ℕ) (walk : Walk) (within : Within bs walk) (stop : ℕ) (P : ℕ → ℕ → List Pattern → Type 0) (none : (before : ℕ) → P stop before [])
    (one : (at before : ℕ) (e : Pattern) (es : List Pattern) → at < stop → walk at stop before ≡ accepted e → P (body_end bs at) (before + groups e) es → P at before (e ∷ es)) where
  at_stop : {at : ℕ} (before : ℕ) {es : List Pattern} → at ≡ stop → accepted [] ≡ accepted es → P at before es
  at_stop before {es} e f = subst₂ (λ (n : ℕ) (l : List Pattern). P n before l) (sym e) (accepted_injective f) (none before)

  pub walk_all_induction : (turns at before : ℕ) (es : List Pattern) → at ≤ stop → stop - at ≤ turns → walk_all turns walk bs at stop before ≡ accepted es → P at before es
  walk_all_induction zero at before es inside enough e = at_stop before (omega arith) e
  walk_all_induction (suc turns) at before es inside enough e =
      look (ltb at stop) refl e
      (λ before'. λ es'. λ (left : at < stop). λ (next : body_end bs at ≤ stop). walk_all_induction turns (body_end bs at) before' es' next (omega arith))
    where
      look : (b : Bool) → ltb at stop ≡ b → cond b (one_member_turn turns walk bs at stop before) (accepted []) ≡ accepted es
          → ((before' : ℕ) (es' : List Pattern) → at < stop → body_end bs at ≤ stop → walk_all turns walk bs (body_end bs at) stop before' ≡ accepted es' → P (body_end bs at) before' es')
          → P at before es
      look true t f rest =
          let left = ltb-true at stop t in
          let (m, first, f₁) = bind_accepted (walk at stop before) (λ m. walk_all turns walk bs (body_end bs at) stop (before + groups m) >>= λ ms. accepted (m ∷ ms)) f in
          let (ms, others, f₂) = bind_accepted (walk_all turns walk bs (body_end bs at) stop (before + groups m)) (λ ms. accepted (m ∷ ms)) f₁ in
          subst (P at before) (accepted_injective f₂) (one at before m ms left first (rest (before + groups m) ms left (within at stop before m first) others))
      look false t f rest = at_stop before (le_antisymm inside (ltb-false at stop t)) f

-- an accepting walk has read up to its holder's end: it did not stop for want of turns
pub walk_all_reaches : (bs : List ℕ) (walk : Walk) → Within bs walk → (turns at stop before : ℕ) (es : List Pattern) → at ≤ stop → stop - at ≤ turns
    → walk_all turns walk bs at stop before ≡ accepted es → end_after bs at es ≡ stop
walk_all_reaches bs walk within turns at stop before es =
    walk_all_induction bs walk within stop (λ from _ found. end_after bs from found ≡ stop) (λ _. refl) (λ _ _ _ _ _ _ done. done) turns at before es

-- ---- the records of a template

-- the answer where a record is left: that record, then those behind it
abbrev pub one_piece_turn : ℕ → List ℕ → ℕ → Checked (List Piece)
one_piece_turn turns bs at = piece_at bs at >>= λ piece. pieces_from turns bs (body_end bs at) >>= λ rest. accepted (piece ∷ rest)

-- no bytes are left: no records
pub pieces_none : (turns : ℕ) (bs : List ℕ) (at : ℕ) → length bs ≤ at → pieces_from turns bs at ≡ accepted []
pieces_none zero bs at h = refl
pieces_none (suc turns) bs at h = ap (λ (b : Bool). cond b (one_piece_turn turns bs at) (accepted [])) (le-ltb at (length bs) h)

-- bytes are left: one more record
pub pieces_more : (turns : ℕ) (bs : List ℕ) (at : ℕ) → at < length bs → pieces_from (suc turns) bs at ≡ one_piece_turn turns bs at
pieces_more turns bs at h = ap (λ (b : Bool). cond b (one_piece_turn turns bs at) (accepted [])) (lt-ltb at (length bs) h)

-- any two numbers of turns that are no fewer than the bytes left give the same answer
pub pieces_turns : (bs : List ℕ) (turns more at : ℕ) → length bs - at ≤ turns → length bs - at ≤ more → pieces_from turns bs at ≡ pieces_from more bs at
pieces_turns bs zero more at enough also = sym (pieces_none more bs at (omega arith))
pieces_turns bs (suc turns) zero at enough also = pieces_none (suc turns) bs at (omega arith)
pieces_turns bs (suc turns) (suc more) at enough also =
    look (ltb at (length bs)) refl (λ (left : at < length bs). pieces_turns bs turns more (body_end bs at) (omega arith) (omega arith))
  where
    look : (b : Bool) → ltb at (length bs) ≡ b → (at < length bs → pieces_from turns bs (body_end bs at) ≡ pieces_from more bs (body_end bs at))
        → cond b (one_piece_turn turns bs at) (accepted []) ≡ cond b (one_piece_turn more bs at) (accepted [])
    look true t same =
        bind_same (piece_at bs at) (λ piece. ap (λ (r : Checked (List Piece)). r >>= λ rest. accepted (piece ∷ rest)) (same (ltb-true at (length bs) t)))
    look false t same = refl

-- so with turns enough the records of a template obey their rule without turns
pub pieces_rule : (bs : List ℕ) (turns at : ℕ) → length bs - at ≤ turns → pieces_from turns bs at ≡ cond (ltb at (length bs)) (one_piece_turn turns bs at) (accepted [])
pieces_rule bs turns at enough = pieces_turns bs turns (suc turns) at enough (omega arith)

-- an accepted record of a template ends inside it
pub piece_within : (bs : List ℕ) (at : ℕ) (piece : Piece) → piece_at bs at ≡ accepted piece → body_end bs at ≤ length bs
piece_within bs at piece e =
    leb-true (body_end bs at) (length bs) (holds_accepted (leb (body_end bs at) (length bs)) template_wrong at (piece_of_kind bs at (kind_at bs at)) e).0

-- what holds of no records at the template's end, and of one more record before those it holds of, holds of all that are accepted
module _ (bs : List ℕ) (P : ℕ → List Piece → Type 0) (none : P (length bs) [])
    (one : (at : ℕ) (piece : Piece) (pieces : List Piece) → at < length bs → piece_at bs at ≡ accepted piece → P (body_end bs at) pieces → P at (piece ∷ pieces)) where
  at_end_law : {at : ℕ} {pieces : List Piece} → at ≡ length bs → accepted [] ≡ accepted pieces → P at pieces
  at_end_law e f = subst₂ P (sym e) (accepted_injective f) none

  pub pieces_induction : (turns at : ℕ) (pieces : List Piece) → at ≤ length bs → length bs - at ≤ turns → pieces_from turns bs at ≡ accepted pieces → P at pieces
  pieces_induction zero at pieces inside enough e = at_end_law (omega arith) e
  pieces_induction (suc turns) at pieces inside enough e =
      look (ltb at (length bs)) refl e
      (λ pieces'. λ (left : at < length bs). λ (next : body_end bs at ≤ length bs). pieces_induction turns (body_end bs at) pieces' next (omega arith))
    where
      look : (b : Bool) → ltb at (length bs) ≡ b → cond b (one_piece_turn turns bs at) (accepted []) ≡ accepted pieces
          → ((pieces' : List Piece) → at < length bs → body_end bs at ≤ length bs → pieces_from turns bs (body_end bs at) ≡ accepted pieces' → P (body_end bs at) pieces')
          → P at pieces
      look true t f rest =
          let left = ltb-true at (length bs) t in
          let (p, first, f₁) = bind_accepted (piece_at bs at) (λ p. pieces_from turns bs (body_end bs at) >>= λ ps. accepted (p ∷ ps)) f in
          let (ps, others, f₂) = bind_accepted (pieces_from turns bs (body_end bs at)) (λ ps. accepted (p ∷ ps)) f₁ in
          subst (P at) (accepted_injective f₂) (one at p ps left first (rest ps left (piece_within bs at p first) others))
      look false t f rest = at_end_law (le_antisymm inside (ltb-false at (length bs) t)) f

-- accepted records of a template go up to its end: they did not stop for want of turns
pub pieces_reach : (bs : List ℕ) (turns at : ℕ) (pieces : List Piece) → at ≤ length bs → length bs - at ≤ turns → pieces_from turns bs at ≡ accepted pieces
    → end_after bs at pieces ≡ length bs
pieces_reach bs = pieces_induction bs (λ from found. end_after bs from found ≡ length bs) refl (λ _ _ _ _ _ done. done)
