-- The members of a sequence or an alternation as the plain list that the walk finds, and what is said of members as said of that list.
use Prim.Native.Nat.{ℕ, suc, ◌+◌, ◌≤◌}
use native.Mathlib.Omega.{arith}
use mathlib.Core.Path.{◌≡◌, refl, sym, ◌∙◌, ap}
use mathlib.Core.Logic.{◌↔◌}
use mathlib.Core.List.{List, [], ◌∷◌, ◌++◌, append-nil}
use Rattle.paper.specs.Refusal.{accepted, ◌>>=◌}
use Rattle.paper.specs.Pattern.{Pattern, Members, groups, groups_of_all, levels, levels_of_all}
use Rattle.paper.specs.Pattern.Pattern.{sequence, alternation}
use Rattle.paper.specs.Pattern.Members.{two, more}
use Rattle.paper.specs.Layout.{record_of, records_of, WellMade, AllWellMade}
use Rattle.paper.specs.Check.{members_from, at_least_two, Walk, several, body}
use Rattle.paper.proofs.layout.Accepted.{refused_not_accepted, accepted_injective}
use Rattle.paper.proofs.layout.TreeRecord.{kind_of, body_of}

-- the members in order
abbrev pub list_of : Members → List Pattern
list_of (two a b) = a ∷ b ∷ []
list_of (more a ms) = a ∷ list_of ms

-- the records of a list one behind the other, and the groups in them
abbrev pub joined : List Pattern → List ℕ
joined [] = []
joined (e ∷ es) = record_of e ++ joined es

abbrev pub groups_in : List Pattern → ℕ
groups_in [] = 0
groups_in (e ∷ es) = groups e + groups_in es

-- every element of a list has a property
abbrev pub Each : (Pattern → Type 0) → List Pattern → Type 0
Each P [] = Unit {0}
Each P (e ∷ es) = P e × Each P es

-- ---- members and lists

list_of_members : (a b : Pattern) (rest : List Pattern) → list_of (members_from a b rest) ≡ a ∷ b ∷ rest
list_of_members a b [] = refl
list_of_members a b (c ∷ cs) = ap (λ (l : List Pattern). a ∷ l) (list_of_members b c cs)

-- the members that are accepted from a list have that list
pub list_accepted : (es : List Pattern) (at : ℕ) (ms : Members) → at_least_two es at ≡ accepted ms → list_of ms ≡ es
list_accepted [] at ms e = absurd (refused_not_accepted e)
list_accepted (a ∷ []) at ms e = absurd (refused_not_accepted e)
list_accepted (a ∷ b ∷ rest) at ms e = ap list_of (sym (accepted_injective e)) ∙ list_of_members a b rest

-- a list that begins with two and that gives these members
record FromTwo (ms : Members) : Type 0 where
  first : Pattern
  second : Pattern
  rest : List Pattern
  listed : list_of ms ≡ first ∷ second ∷ rest
  made : members_from first second rest ≡ ms

from_two : (ms : Members) → FromTwo ms
from_two (two a b) = record { first = a; second = b; rest = []; listed = refl; made = refl }
from_two (more a ms) =
    let tail = from_two ms in
    record {
      first = a;
      second = tail.first;
      rest = tail.second ∷ tail.rest;
      listed = ap (λ (l : List Pattern). a ∷ l) tail.listed;
      made = ap (λ (m : Members). more a m) tail.made;
    }

-- from the list of members those members are accepted
pub members_accepted : (ms : Members) (at : ℕ) → at_least_two (list_of ms) at ≡ accepted ms
members_accepted ms at =
    let parts = from_two ms in
    ap (λ (l : List Pattern). at_least_two l at) parts.listed ∙ ap (λ (m : Members). accepted m) parts.made

-- ---- what is said of members, said of their list

pub records_joined : (ms : Members) → records_of ms ≡ joined (list_of ms)
records_joined (two a b) = ap (λ (l : List ℕ). record_of a ++ l) (sym (append-nil (record_of b)))
records_joined (more a ms) = ap (λ (l : List ℕ). record_of a ++ l) (records_joined ms)

pub groups_listed : (ms : Members) → groups_of_all ms ≡ groups_in (list_of ms)
groups_listed (two a b) = omega arith
groups_listed (more a ms) = ap (λ (n : ℕ). groups a + n) (groups_listed ms)

pub all_well_made : (ms : Members) → Each WellMade (list_of ms) → AllWellMade ms
all_well_made (two a b) each = (each.0, each.1.0)
all_well_made (more a ms) each = (each.0, all_well_made ms each.1)

pub levels_listed : (ms : Members) {left : ℕ} → Each (λ e. levels e ≤ left) (list_of ms) → levels_of_all ms ≤ left
levels_listed (two a b) each = omega (arith, each.0, each.1.0)
levels_listed (more a ms) each = omega (arith, each.0, levels_listed ms each.1)

-- ---- the two kinds that hold members

-- what a sequence and an alternation have in common: the body is the members' records, and what is counted is counted in the members
pub record Holder (tree : Members → Pattern) : Type 0 where
  pub inside : (ms : Members) → body_of (tree ms) ≡ records_of ms
  pub made : (ms : Members) → WellMade (tree ms) ↔ AllWellMade ms
  pub low : (ms : Members) → levels (tree ms) ≡ suc (levels_of_all ms)
  pub few : (ms : Members) → groups (tree ms) ≡ groups_of_all ms
  pub walked : (ms : Members) (walk : Walk) (bs : List ℕ) (at before : ℕ) → body (kind_of (tree ms)) walk bs at before ≡ several walk bs at before >>= λ found. accepted (tree found)

pub sequence_holds : Holder sequence
sequence_holds = record { inside = λ ms. refl; made = λ ms. (λ m. m, λ m. m); low = λ ms. refl; few = λ ms. refl; walked = λ ms walk bs at before. refl }

pub alternation_holds : Holder alternation
alternation_holds = record { inside = λ ms. refl; made = λ ms. (λ m. m, λ m. m); low = λ ms. refl; few = λ ms. refl; walked = λ ms walk bs at before. refl }
