-- More optional passes than the line has bytes left change nothing: each takes a byte at least, and past the line's end there is none.
use Prim.Native.Nat.{ℕ, zero, suc, ◌-◌, ◌≤◌, ◌<◌, max}
use mathlib.Core.Path.{◌≡◌, refl, sym, ap, fun_ext}
use mathlib.Core.Bool.{Bool, true, false, cond}
use mathlib.Core.List.{List, [], ◌∷◌, ◌++◌}
use lib.Dec.{eqb}
use lib.ListN.{length}
use native.Mathlib.Omega.{arith}
use borrow.Author.Tests.{eqb-false}
use Rattle.paper.specs.Pattern.{Mode, greedy, lazy, Pattern, no_end, groups}
use Rattle.paper.specs.Pattern.Pattern.{repeat}
use Rattle.paper.specs.Rows.{Rows}
use Rattle.paper.specs.Reading.{Outcome, Reading, here, bind, in_turn, unless_at, consuming, prefer, optional_passes, must_passes, repeated, pass_of, read}
use Rattle.paper.proofs.reading.Every.{Every, every_bind, bind_agree}
use Rattle.paper.proofs.reading.Invariant.{Sound}
use Rattle.paper.proofs.reading.Ends.{Within, pass_ends}

-- past p, and up to n where p is not past it
abbrev pub Beyond : ℕ → ℕ → ℕ → Rows → Type 0
Beyond n p q rows = (p < q) × (q ≤ max p n)

-- an outcome of a pass that consumes ends past where the pass began
pub consuming_ends : (n : ℕ) (pass : Reading) → Sound (Within n) pass → (p : ℕ) (rows : Rows) → Every (Beyond n p) (consuming pass p rows)
consuming_ends n pass s p rows =
    every_bind (Within n p rows) (Beyond n p) (pass p rows) (unless_at p) (s p rows) (λ q u g. keep q u g (eqb q p) refl)
  where
    keep : (q : ℕ) (u : Rows) → Within n p rows q u → (b : Bool) → eqb q p ≡ b → Every (Beyond n p) (cond b [] (here q u))
    keep q u g true e = tt
    keep q u g false e = ((let differ : q ≡ p → ⊥ = eqb-false q p e in omega arith), tt)

none_left : (n p : ℕ) (os : List Outcome) → n ≤ p → Every (Beyond n p) os → os ≡ []
none_left n p [] h g = refl
none_left n p (o ∷ os) h g = let b : (p < o.end) × (o.end ≤ max p n) = g.0 in absurd (omega arith)

prefer_agree : (mode : Mode) (f g stop : Reading) (p : ℕ) (rows : Rows) → f p rows ≡ g p rows → prefer mode f stop p rows ≡ prefer mode g stop p rows
prefer_agree greedy f g stop p rows e = ap (λ (os : List Outcome). os ++ stop p rows) e
prefer_agree lazy f g stop p rows e = ap (λ (os : List Outcome). stop p rows ++ os) e

prefer_nothing : (mode : Mode) (f : Reading) (p : ℕ) (rows : Rows) → f p rows ≡ [] → prefer mode f here p rows ≡ here p rows
prefer_nothing greedy f p rows e = ap (λ (os : List Outcome). os ++ here p rows) e
prefer_nothing lazy f p rows e = ap (λ (os : List Outcome). here p rows ++ os) e

module _ (n : ℕ) (mode : Mode) (pass : Reading) (s : Sound (Within n) pass) where
  no_pass : (m p : ℕ) (rows : Rows) → n ≤ p → optional_passes (suc m) mode pass p rows ≡ here p rows
  no_pass m p rows h =
      prefer_nothing mode (in_turn (consuming pass) (optional_passes m mode pass)) p rows
      (ap (λ (os : List Outcome). bind os (optional_passes m mode pass))
      (none_left n p (consuming pass p rows) h (consuming_ends n pass s p rows)))

  -- from p, two bounds on the optional passes give the same outcomes if both are n - p at least
  pub enough_passes : (m k p : ℕ) (rows : Rows) → n - p ≤ m → n - p ≤ k → optional_passes m mode pass p rows ≡ optional_passes k mode pass p rows
  enough_passes zero zero p rows h g = refl
  enough_passes zero (suc k) p rows h g = sym (no_pass k p rows (omega arith))
  enough_passes (suc m) zero p rows h g = no_pass m p rows (omega arith)
  enough_passes (suc m) (suc k) p rows h g =
      prefer_agree mode (in_turn (consuming pass) (optional_passes m mode pass)) (in_turn (consuming pass) (optional_passes k mode pass)) here p rows
      (bind_agree (Beyond n p) (consuming pass p rows) (optional_passes m mode pass) (optional_passes k mode pass)
      (consuming_ends n pass s p rows)
      (λ q u b. enough_passes m k q u (omega arith) (omega arith)))

  -- with passes enough, to make optional passes is to make one and then as many again, or none
  pub one_pass_then_all : (m p : ℕ) (rows : Rows) → n - p ≤ m
      → optional_passes m mode pass p rows ≡ prefer mode (in_turn (consuming pass) (optional_passes m mode pass)) here p rows
  one_pass_then_all m p rows h = enough_passes m (suc m) p rows h (omega arith)

-- in a repeat with no upper end, any bound on the optional passes that is not below the line's length gives the same outcomes
pub enough_for_no_end : (least : ℕ) (mode : Mode) (e : Pattern) (line : List ℕ) (first m : ℕ) → length line ≤ m
    → repeated least m mode (pass_of first (groups e) (read e line first)) ≡ read (repeat least no_end mode e) line first
enough_for_no_end least mode e line first m h =
    let pass = pass_of first (groups e) (read e line first) in
    ap (must_passes least pass)
    (fun_ext λ p. fun_ext λ rows. enough_passes (length line) mode pass (pass_ends e line first) m (length line) p rows (omega arith) (omega arith))
