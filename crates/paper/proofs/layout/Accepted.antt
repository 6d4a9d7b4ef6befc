-- Taking an accepted answer apart: what a step of a checked chain must have been for the chain to accept.
use Prim.Native.Nat.{ℕ}
use mathlib.Core.Path.{◌≡◌, refl, sym, ◌∙◌, ap, subst}
use mathlib.Core.Logic.{◌⊎◌, inl, inr}
use mathlib.Core.Bool.{Bool, true, false, ◌&&◌, ◌||◌, false≢true}
use Rattle.paper.specs.Refusal.{Checked, refused, accepted, ◌>>=◌, ◌>>◌, holds}

abbrev IsAccepted : {A : Type 0} → Checked A → Type 0
IsAccepted (refused number place) = ⊥
IsAccepted (accepted a) = Unit {0}

-- a refusal is no acceptance
pub refused_not_accepted : {A : Type 0} {number place : ℕ} {a : A} → refused number place ≡ accepted a → ⊥
refused_not_accepted e = subst IsAccepted (sym e) tt

-- two acceptances of one thing accept the same
pub accepted_injective : {A : Type 0} {a b : A} → accepted a ≡ accepted b → a ≡ b
accepted_injective e = cc

-- a chain that accepts has an accepting first step, and its second step accepts
pub bind_accepted : {A B : Type 0} (first : Checked A) (next : A → Checked B) {b : B} → first >>= next ≡ accepted b → (a : A) × (first ≡ accepted a) × (next a ≡ accepted b)
bind_accepted (refused number place) next e = absurd (refused_not_accepted e)
bind_accepted (accepted a) next e = (a, refl, e)

-- a chain behind a test that accepts has a test that holds
pub holds_accepted : {B : Type 0} (test : Bool) (number place : ℕ) (next : Checked B) {b : B} → holds test number place >> next ≡ accepted b → (test ≡ true) × (next ≡ accepted b)
holds_accepted true number place next e = (refl, e)
holds_accepted false number place next e = absurd (refused_not_accepted e)

-- behind a test that holds the chain is what follows
pub holds_passes : {B : Type 0} {test : Bool} (number place : ℕ) (next : Checked B) → test ≡ true → holds test number place >> next ≡ next
holds_passes number place next e = ap (λ (t : Bool). holds t number place >> next) e

-- chains with the same first step and equal second steps are equal
pub bind_same : {A B : Type 0} (first : Checked A) {next other : A → Checked B} → ((a : A) → next a ≡ other a) → first >>= next ≡ first >>= other
bind_same (refused number place) same = refl
bind_same (accepted a) same = same a

-- both parts of a test that is an and
pub both_true : (a b : Bool) → a && b ≡ true → (a ≡ true) × (b ≡ true)
both_true true b e = (refl, e)
both_true false b e = absurd (false≢true e)

pub and_true : {a b : Bool} → a ≡ true → b ≡ true → a && b ≡ true
and_true {b} p q = ap (λ (t : Bool). t && b) p ∙ q

-- one part of a test that is an or
pub either_true : (a b : Bool) → a || b ≡ true → (a ≡ true) ⊎ (b ≡ true)
either_true true b e = inl refl
either_true false b e = inr e

pub or_true_left : {a : Bool} (b : Bool) → a ≡ true → a || b ≡ true
or_true_left b e = ap (λ (t : Bool). t || b) e
