-- The record of a tree as one record: its kind and its body, whatever its kind is.
use Prim.Native.Nat.{ℕ, ◌+◌, ◌<◌}
use native.Mathlib.Omega.{arith}
use mathlib.Core.Path.{◌≡◌, refl, ◌∙◌, ap, subst}
use mathlib.Core.List.{List, [], ◌++◌}
use lib.ListN.{length}
use Rattle.paper.specs.Pattern.{Pattern}
use Rattle.paper.specs.Pattern.Pattern.{nothing, empty, bytes, group, sequence, alternation, repeat}
use Rattle.paper.specs.Layout.{record_bytes, Kind, nothing_kind, empty_kind, bytes_kind, group_kind, sequence_kind, alternation_kind, repeat_kind, kind_number, range_bytes, repeat_bytes, record_of, records_of}
use Rattle.paper.specs.Check.{body_end}
use Rattle.paper.proofs.layout.Standing.{two_byte_end, Stands, Standing, record_standing}

abbrev pub kind_of : Pattern → Kind
kind_of nothing = nothing_kind
kind_of empty = empty_kind
kind_of (bytes ranges) = bytes_kind
kind_of (group e) = group_kind
kind_of (sequence ms) = sequence_kind
kind_of (alternation ms) = alternation_kind
kind_of (repeat least upper mode e) = repeat_kind

abbrev pub body_of : Pattern → List ℕ
body_of nothing = []
body_of empty = []
body_of (bytes ranges) = range_bytes ranges
body_of (group e) = record_of e
body_of (sequence ms) = records_of ms
body_of (alternation ms) = records_of ms
body_of (repeat least upper mode e) = repeat_bytes least upper mode ++ record_of e

pub record_of_body : (e : Pattern) → record_of e ≡ record_bytes (kind_number (kind_of e)) (body_of e)
record_of_body nothing = refl
record_of_body empty = refl
record_of_body (bytes ranges) = refl
record_of_body (group e) = refl
record_of_body (sequence ms) = refl
record_of_body (alternation ms) = refl
record_of_body (repeat least upper mode e) = refl

-- a tree's record is four bytes and its body
pub length_record : (e : Pattern) → length (record_of e) ≡ 4 + length (body_of e)
length_record e = ap length (record_of_body e) ∙ omega arith

kind_small : (k : Kind) → kind_number k < two_byte_end
kind_small nothing_kind = omega arith
kind_small empty_kind = omega arith
kind_small bytes_kind = omega arith
kind_small group_kind = omega arith
kind_small sequence_kind = omega arith
kind_small alternation_kind = omega arith
kind_small repeat_kind = omega arith

-- a tree's record that stands at an offset has its numbers and its body there
pub tree_standing : (bs : List ℕ) (at : ℕ) (e : Pattern) → length (record_of e) < two_byte_end → Stands bs at (record_of e) → Standing bs at (kind_number (kind_of e)) (body_of e)
tree_standing bs at e short s =
    record_standing bs at (kind_number (kind_of e)) (body_of e) (omega (arith, length_record e)) (kind_small (kind_of e))
    (subst (λ (l : List ℕ). Stands bs at l) (record_of_body e) s)

-- so it ends where its bytes end
pub end_standing : (bs : List ℕ) (at : ℕ) (e : Pattern) → length (record_of e) < two_byte_end → Stands bs at (record_of e) → body_end bs at ≡ at + length (record_of e)
end_standing bs at e short s = omega (arith, (tree_standing bs at e short s).size, length_record e)
