-- Single places: a head, the fork of an optional pass, a set, and the four of an any-byte star.
use Prim.Native.Nat.{ℕ}
use mathlib.Core.Path.{◌≡◌, subst}
use mathlib.Core.List.{List}
use Rattle.paper.specs.Tables.{place_of}
use Rattle.laying.specs.Laid.{Holds}
use Rattle.laying.specs.Single.{Put, Head}
use Rattle.laying.proofs.Stores.{plain_holds}

-- a head that is written stands
pub head_stands : (bs : List ℕ) {kind a n base v w : ℕ} {t t1 : List ℕ} → v ≡ w → Head kind a n → Put t base kind v a n t1 → Holds t1 bs base (place_of bs kind w a n)
head_stands bs {kind} {a} {n} {base} {t1 = t1} ev h put = subst (λ (v : ℕ). Holds t1 bs base (place_of bs kind v a n)) ev (plain_holds bs put h.no_set)
