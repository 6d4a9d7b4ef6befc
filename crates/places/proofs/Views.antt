-- Which tree stands where the number of its kind is known.
use Prim.Native.Nat.{ℕ, ◌+◌, ◌≤◌}
use mathlib.Core.Path.{◌≡◌, refl, sym}
use mathlib.Core.Bool.{Bool, true, false}
use mathlib.Core.List.{List}
use native.Mathlib.Omega.{arith}
use lib.ListN.{length}
use Rattle.paper.specs.Pattern.{Mode, Upper, Range, Pattern, places, groups}
use Rattle.paper.specs.Pattern.Pattern.{nothing, empty, bytes, group, sequence, alternation, repeat}
use Rattle.paper.specs.Check.{body_end, body_start, kind_at, repeat_head}
use Rattle.paper.specs.Machine.{written_out}
use Rattle.paper.proofs.layout.MemberList.{list_of}
use Rattle.pattern.specs.Walk.{groups_in}
use Rattle.places.specs.Standing.{Pairs, Passes, Stands, Row, row_places, row_core}
use Rattle.places.proofs.Adding.{members_row, members_places, members_groups, members_count, members_two}
use Rattle.places.proofs.Sizes.{row_chained, row_forked}

-- a byte set, and its pairs
pub record SetView (bs : List ℕ) (at : ℕ) (e : Pattern) : Type 0 where
  pub ranges : List Range
  pub is : e ≡ bytes ranges
  pub pairs : Pairs bs at ranges

-- a group, and the record inside
pub record GroupView (bs : List ℕ) (at : ℕ) (e : Pattern) : Type 0 where
  pub inner : Pattern
  pub is : e ≡ group inner
  pub stand : Stands bs (body_start at) inner
  pub end_is : body_end bs (body_start at) ≡ body_end bs at

-- a repeat, its numbers and the record inside
pub record RepeatView (bs : List ℕ) (at : ℕ) (e : Pattern) : Type 0 where
  pub least : ℕ
  pub upper : Upper
  pub mode : Mode
  pub inner : Pattern
  pub is : e ≡ repeat least upper mode inner
  pub numbers : Passes bs (body_start at) least upper mode
  pub stand : Stands bs (body_start at + repeat_head) inner
  pub end_is : body_end bs (body_start at + repeat_head) ≡ body_end bs at

-- a sequence or an alternation, and its members as a row
pub record RowView (bs : List ℕ) (at : ℕ) (forks : Bool) (e : Pattern) : Type 0 where
  pub records : List Pattern
  pub written : (first : ℕ) → written_out e first ≡ row_core forks records first
  pub stand : Row bs (body_start at) (body_end bs at) records
  pub several : 2 ≤ length records
  pub places_are : places e ≡ row_places forks records
  pub groups_are : groups e ≡ groups_in records

-- kind 0
pub nothing_view : (e : Pattern) (bs : List ℕ) (at : ℕ) → Stands bs at e → kind_at bs at ≡ 0 → e ≡ nothing
nothing_view nothing bs at h k = refl
nothing_view empty bs at h k = absurd (omega (arith, h))
nothing_view (bytes ranges) bs at h k = absurd (omega (arith, h.0))
nothing_view (group e) bs at h k = absurd (omega (arith, h.0))
nothing_view (sequence ms) bs at h k = absurd (omega (arith, h.0))
nothing_view (alternation ms) bs at h k = absurd (omega (arith, h.0))
nothing_view (repeat least upper mode e) bs at h k = absurd (omega (arith, h.0))

-- kind 2
pub set_view : (e : Pattern) (bs : List ℕ) (at : ℕ) → Stands bs at e → kind_at bs at ≡ 2 → SetView bs at e
set_view nothing bs at h k = absurd (omega (arith, h))
set_view empty bs at h k = absurd (omega (arith, h))
set_view (bytes ranges) bs at h k = record { ranges = ranges; is = refl; pairs = h.1 }
set_view (group e) bs at h k = absurd (omega (arith, h.0))
set_view (sequence ms) bs at h k = absurd (omega (arith, h.0))
set_view (alternation ms) bs at h k = absurd (omega (arith, h.0))
set_view (repeat least upper mode e) bs at h k = absurd (omega (arith, h.0))

-- kind 3
pub group_view : (e : Pattern) (bs : List ℕ) (at : ℕ) → Stands bs at e → kind_at bs at ≡ 3 → GroupView bs at e
group_view nothing bs at h k = absurd (omega (arith, h))
group_view empty bs at h k = absurd (omega (arith, h))
group_view (bytes ranges) bs at h k = absurd (omega (arith, h.0))
group_view (group e) bs at h k = record { inner = e; is = refl; stand = h.1; end_is = h.2 }
group_view (sequence ms) bs at h k = absurd (omega (arith, h.0))
group_view (alternation ms) bs at h k = absurd (omega (arith, h.0))
group_view (repeat least upper mode e) bs at h k = absurd (omega (arith, h.0))

-- kind 6
pub repeat_view : (e : Pattern) (bs : List ℕ) (at : ℕ) → Stands bs at e → kind_at bs at ≡ 6 → RepeatView bs at e
repeat_view nothing bs at h k = absurd (omega (arith, h))
repeat_view empty bs at h k = absurd (omega (arith, h))
repeat_view (bytes ranges) bs at h k = absurd (omega (arith, h.0))
repeat_view (group e) bs at h k = absurd (omega (arith, h.0))
repeat_view (sequence ms) bs at h k = absurd (omega (arith, h.0))
repeat_view (alternation ms) bs at h k = absurd (omega (arith, h.0))
repeat_view (repeat least upper mode e) bs at h k = record { least = least; upper = upper; mode = mode; inner = e; is = refl; numbers = h.1; stand = h.2; end_is = h.3 }

-- kind 1
pub empty_view : (e : Pattern) (bs : List ℕ) (at : ℕ) → Stands bs at e → kind_at bs at ≡ 1 → e ≡ empty
empty_view nothing bs at h k = absurd (omega (arith, h))
empty_view empty bs at h k = refl
empty_view (bytes ranges) bs at h k = absurd (omega (arith, h.0))
empty_view (group e) bs at h k = absurd (omega (arith, h.0))
empty_view (sequence ms) bs at h k = absurd (omega (arith, h.0))
empty_view (alternation ms) bs at h k = absurd (omega (arith, h.0))
empty_view (repeat least upper mode e) bs at h k = absurd (omega (arith, h.0))

-- kind 4
pub sequence_view : (e : Pattern) (bs : List ℕ) (at : ℕ) → Stands bs at e → kind_at bs at ≡ 4 → RowView bs at false e
sequence_view nothing bs at h k = absurd (omega (arith, h))
sequence_view empty bs at h k = absurd (omega (arith, h))
sequence_view (bytes ranges) bs at h k = absurd (omega (arith, h.0))
sequence_view (group e) bs at h k = absurd (omega (arith, h.0))
sequence_view (sequence ms) bs at h k =
    record {
      records = list_of ms;
      written = λ first. sym (row_chained ms first);
      stand = members_row ms bs _ _ h.1;
      several = members_two ms;
      places_are = sym (members_places ms);
      groups_are = sym (members_groups ms);
    }
sequence_view (alternation ms) bs at h k = absurd (omega (arith, h.0))
sequence_view (repeat least upper mode e) bs at h k = absurd (omega (arith, h.0))

-- kind 5
pub alternation_view : (e : Pattern) (bs : List ℕ) (at : ℕ) → Stands bs at e → kind_at bs at ≡ 5 → RowView bs at true e
alternation_view nothing bs at h k = absurd (omega (arith, h))
alternation_view empty bs at h k = absurd (omega (arith, h))
alternation_view (bytes ranges) bs at h k = absurd (omega (arith, h.0))
alternation_view (group e) bs at h k = absurd (omega (arith, h.0))
alternation_view (sequence ms) bs at h k = absurd (omega (arith, h.0))
alternation_view (alternation ms) bs at h k =
    record {
      records = list_of ms;
      written = λ first. sym (row_forked ms first);
      stand = members_row ms bs _ _ h.1;
      several = members_two ms;
      places_are = omega (arith, members_places ms, members_count ms);
      groups_are = sym (members_groups ms);
    }
alternation_view (repeat least upper mode e) bs at h k = absurd (omega (arith, h.0))
