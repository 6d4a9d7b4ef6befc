-- The record of a tree that keeps the table is made of bytes: numbers are written as two bytes, and the ends of a set's pairs rise up to a last one below 256.
use Prim.Native.Nat.{ℕ, zero, suc, ◌/◌, ◌%◌, ◌<◌}
use native.Mathlib.Omega.{arith}
use mathlib.Core.Path.{sym, subst}
use mathlib.Core.List.{List, [], ◌∷◌, ◌++◌}
use lib.ListN.{length}
use Rattle.paper.specs.Pattern.{Mode, Upper, Range, Pattern, Members}
use Rattle.paper.specs.Pattern.Pattern.{nothing, empty, bytes, group, sequence, alternation, repeat}
use Rattle.paper.specs.Pattern.Members.{two, more}
use Rattle.paper.specs.Layout.{two_bytes, record_bytes, kind_number, upper_number, mode_number, repeat_bytes, range_bytes, record_of, records_of, Apart, WellMade, AllWellMade}
use Rattle.paper.proofs.layout.Standing.{Bytes}
use Rattle.paper.proofs.layout.TreeRecord.{kind_of, body_of, record_of_body}

bytes_none : Bytes []
bytes_none i = omega arith

bytes_cons : (x : ℕ) (xs : List ℕ) → x < 256 → Bytes xs → Bytes (x ∷ xs)
bytes_cons x xs small rest zero = small
bytes_cons x xs small rest (suc i) = rest i

-- bytes behind bytes are bytes
pub bytes_append : (xs ys : List ℕ) → Bytes xs → Bytes ys → Bytes (xs ++ ys)
bytes_append [] ys first second = second
bytes_append (x ∷ xs) ys first second = bytes_cons x (xs ++ ys) (first 0) (bytes_append xs ys (λ i. first (suc i)) second)

-- a number is written as bytes
pub bytes_two : (n : ℕ) → Bytes (two_bytes n)
bytes_two n = bytes_cons (n % 256) (n / 256 % 256 ∷ []) (omega arith) (bytes_cons (n / 256 % 256) [] (omega arith) bytes_none)

-- a record around bytes is bytes
bytes_record : (kind : ℕ) (body : List ℕ) → Bytes body → Bytes (record_bytes kind body)
bytes_record kind body inside =
    bytes_append (two_bytes (length body) ++ two_bytes kind) body (bytes_append (two_bytes (length body)) (two_bytes kind) (bytes_two (length body)) (bytes_two kind)) inside

bytes_around : (e : Pattern) → Bytes (body_of e) → Bytes (record_of e)
bytes_around e inside = subst Bytes (sym (record_of_body e)) (bytes_record (kind_number (kind_of e)) (body_of e) inside)

bytes_ranges : (ranges : List Range) → Apart ranges → Bytes (range_bytes ranges)
bytes_ranges [] apart = bytes_none
bytes_ranges (r ∷ []) apart = bytes_cons r.low (r.high ∷ []) (omega (arith, apart.0, apart.1)) (bytes_cons r.high [] apart.1 bytes_none)
bytes_ranges (r ∷ s ∷ rs) apart =
    let rest = bytes_ranges (s ∷ rs) apart.2 in
    let below : r.high < 256 = omega (arith, apart.1, rest 0) in
    bytes_cons r.low (r.high ∷ range_bytes (s ∷ rs)) (omega (arith, apart.0, below)) (bytes_cons r.high (range_bytes (s ∷ rs)) below rest)

bytes_numbers : (least : ℕ) (upper : Upper) (mode : Mode) → Bytes (repeat_bytes least upper mode)
bytes_numbers least upper mode =
    bytes_append (two_bytes least ++ two_bytes (upper_number upper)) (two_bytes (mode_number mode))
    (bytes_append (two_bytes least) (two_bytes (upper_number upper)) (bytes_two least) (bytes_two (upper_number upper)))
    (bytes_two (mode_number mode))

-- the record of a tree that keeps the table is bytes
mutual
  pub bytes_tree : (e : Pattern) → WellMade e → Bytes (record_of e)
  bytes_tree nothing made = bytes_around nothing bytes_none
  bytes_tree empty made = bytes_around empty bytes_none
  bytes_tree (bytes ranges) made = bytes_around (bytes ranges) (bytes_ranges ranges made.2)
  bytes_tree (group e) made = bytes_around (group e) (bytes_tree e made)
  bytes_tree (sequence ms) made = bytes_around (sequence ms) (bytes_members ms made)
  bytes_tree (alternation ms) made = bytes_around (alternation ms) (bytes_members ms made)
  bytes_tree (repeat least upper mode e) made =
      bytes_around (repeat least upper mode e) (bytes_append (repeat_bytes least upper mode) (record_of e) (bytes_numbers least upper mode) (bytes_tree e made.1))

  bytes_members : (ms : Members) → AllWellMade ms → Bytes (records_of ms)
  bytes_members (two a b) made = bytes_append (record_of a) (record_of b) (bytes_tree a made.0) (bytes_tree b made.1)
  bytes_members (more a ms) made = bytes_append (record_of a) (records_of ms) (bytes_tree a made.0) (bytes_members ms made.1)
