-- A row of records written out has as many places as it should.
use Prim.Native.Nat.{ℕ, ◌+◌}
use mathlib.Core.Path.{◌≡◌, refl, ap}
use mathlib.Core.Bool.{Bool, true, false}
use mathlib.Core.List.{List, [], ◌∷◌}
use native.Mathlib.Omega.{arith}
use Rattle.paper.specs.Pattern.{Pattern, Members, groups}
use Rattle.paper.specs.Pattern.Members.{two, more}
use Rattle.paper.specs.Machine.{size, written_out, chained, forked, chain, either}
use Rattle.paper.proofs.layout.MemberList.{list_of}
use Rattle.paper.proofs.machine.Sizes.{size_written}
use Rattle.places.specs.Standing.{row_places, row_core}

-- members in a row are written out as the sequence, or the alternation, of them
pub row_chained : (ms : Members) (first : ℕ) → row_core false (list_of ms) first ≡ chained ms first
row_chained (two a b) first = refl
row_chained (more a (two b c)) first = refl
row_chained (more a (more b ms)) first = ap (chain (written_out a first)) (row_chained (more b ms) (first + groups a))

-- and as the alternation of them
pub row_forked : (ms : Members) (first : ℕ) → row_core true (list_of ms) first ≡ forked ms first
row_forked (two a b) first = refl
row_forked (more a (two b c)) first = refl
row_forked (more a (more b ms)) first = ap (either (written_out a first)) (row_forked (more b ms) (first + groups a))

-- a row has the places of its records, and an alternation's forks
pub row_size : (forks : Bool) (es : List Pattern) (first : ℕ) → size (row_core forks es first) ≡ row_places forks es
row_size false [] first = refl
row_size true [] first = refl
row_size false (e ∷ []) first = omega (arith, size_written e first)
row_size true (e ∷ []) first = omega (arith, size_written e first)
row_size false (e ∷ f ∷ es) first = omega (arith, size_written e first, row_size false (f ∷ es) (first + groups e))
row_size true (e ∷ f ∷ es) first = omega (arith, size_written e first, row_size true (f ∷ es) (first + groups e))
