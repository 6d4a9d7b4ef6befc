-- A place that is to be written, by its four numbers.
use Rattle.std.specs.Prelude.{ℕ, List}
use Rattle.laying.specs.Single.{Fitting, Put}
use Rattle.laying.specs.declared.Place.{Place}

abbrev pub four_numbers : ℕ → ℕ → ℕ → ℕ → Place
four_numbers kind next a n = record { kind = kind; next = next; a = a; n = n }

-- they fit at an index of the table
abbrev pub Fits : ℕ → Place → List ℕ → Type 0
Fits x p table = Fitting table x p.next p.a p.n

-- they stand there, and nothing else has changed
abbrev pub Puts : ℕ → Place → List ℕ → List ℕ → Type 0
Puts x p before after = Put before x p.kind p.next p.a p.n after
