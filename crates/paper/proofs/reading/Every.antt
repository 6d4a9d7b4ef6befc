-- What holds of every outcome of a list, and how it passes through `++` and `bind`.
use Prim.Native.Nat.{ℕ}
use mathlib.Core.Path.{◌≡◌, refl, ap₂}
use mathlib.Core.List.{List, [], ◌∷◌, ◌++◌}
use Rattle.paper.specs.Rows.{Rows}
use Rattle.paper.specs.Reading.{Outcome, Reading, bind}

-- a property of outcomes: of the end and of the rows
abbrev pub Property : Type 1
Property = ℕ → Rows → Type 0

-- every outcome of the list has the property
abbrev pub Every : Property → List Outcome → Type 0
Every P [] = Unit {0}
Every P (o ∷ os) = P o.end o.rows × Every P os

-- what holds of all in two lists holds of all in both together
pub every_append : (P : Property) (os us : List Outcome) → Every P os → Every P us → Every P (os ++ us)
every_append P [] us h g = g
every_append P (o ∷ os) us h g = (h.0, every_append P os us h.1 g)

-- the outcomes of what follows have Q wherever those before have P
pub every_bind : (P Q : Property) (os : List Outcome) (next : Reading) → Every P os
    → ((p : ℕ) (rows : Rows) → P p rows → Every Q (next p rows)) → Every Q (bind os next)
every_bind P Q [] next h g = tt
every_bind P Q (o ∷ os) next h g =
    every_append Q (next o.end o.rows) (bind os next) (g o.end o.rows h.0) (every_bind P Q os next h.1 g)

-- a property may be weakened
pub every_weaken : (P Q : Property) (os : List Outcome) → Every P os → ((p : ℕ) (rows : Rows) → P p rows → Q p rows) → Every Q os
every_weaken P Q [] h g = tt
every_weaken P Q (o ∷ os) h g = (g o.end o.rows h.0, every_weaken P Q os h.1 g)

-- two properties of every outcome are one
pub every_both : (P Q : Property) (os : List Outcome) → Every P os → Every Q os → Every (λ p rows. P p rows × Q p rows) os
every_both P Q [] h g = tt
every_both P Q (o ∷ os) h g = ((h.0, g.0), every_both P Q os h.1 g.1)

-- two readings that agree wherever an outcome can lead agree after it
pub bind_agree : (P : Property) (os : List Outcome) (f g : Reading) → Every P os
    → ((p : ℕ) (rows : Rows) → P p rows → f p rows ≡ g p rows) → bind os f ≡ bind os g
bind_agree P [] f g h e = refl
bind_agree P (o ∷ os) f g h e =
    ap₂ (λ (a b : List Outcome). a ++ b) (e o.end o.rows h.0) (bind_agree P os f g h.1 e)
