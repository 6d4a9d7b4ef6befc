-- How many places a pattern is laid out to, and how deep its optional passes stand inside one another: the numbers that the table of records gives.
use Prim.Native.Nat.{ℕ, zero, suc, ◌+◌, ◌-◌, ◌*◌, max, ◌<◌, ◌≤◌}
use native.Mathlib.Omega.{arith}
use native.Mathlib.Nat.{suc-mul, zero-mul}
use mathlib.Core.Path.{◌≡◌, refl, sym, ap, ap₂, subst, ◌∙◌}
use mathlib.Core.Bool.{Bool, true, false, cond}
use mathlib.Core.List.{[], ◌∷◌}
use lib.Dec.{ltb}
use lib.ListN.{length, length-append}
use borrow.Author.Tests.{ltb-false}
use Rattle.paper.specs.Pattern.{
  Mode,
  Upper,
  up_to,
  no_end,
  Pattern,
  Members,
  count,
  repeat_places,
  places,
  places_of_all,
  all_places,
  has_optional,
  depth,
  depth_of_all,
  groups,
  levels,
  levels_of_all,
}
use Rattle.paper.specs.Pattern.Pattern.{nothing, empty, bytes, group, sequence, alternation, repeat}
use Rattle.paper.specs.Pattern.Members.{two, more}
use Rattle.paper.specs.Machine.{
  Core,
  dead,
  skip,
  eats,
  captures,
  chain,
  either,
  must,
  maybe,
  star,
  musts,
  maybes,
  optionals,
  written_out,
  chained,
  forked,
  closing,
  size,
  entry,
  lay,
  places_of,
}
use Rattle.paper.specs.Match.{wrap}
use Rattle.paper.specs.Bounds.{search_places, search_depth}

-- how deep optional passes stand inside one another in a written-out pattern
abbrev pub nesting : Core → ℕ
nesting dead = 0
nesting skip = 0
nesting (eats ranges) = 0
nesting (captures k e) = nesting e
nesting (chain a b) = max (nesting a) (nesting b)
nesting (either a b) = max (nesting a) (nesting b)
nesting (must first n e next) = max (nesting e) (nesting next)
nesting (maybe mode first n e next) = max (suc (nesting e)) (nesting next)
nesting (star mode first n e) = suc (nesting e)

-- Sizes

-- a written-out pattern is laid out to as many places as its size
pub length_lay : (e : Core) (base next : ℕ) → length (lay e base next) ≡ size e
length_lay dead base next = refl
length_lay skip base next = refl
length_lay (eats ranges) base next = refl
length_lay (captures k e) base next =
    let inside = lay e (base + 1) (base + 1 + size e) in
    omega (arith, length-append inside (closing k next ∷ []), length_lay e (base + 1) (base + 1 + size e))
length_lay (chain a b) base next = simp length-append (omega (arith, length_lay a base (entry b (base + size a) next), length_lay b (base + size a) next))
length_lay (either a b) base next =
    simp length-append (omega (arith, length_lay a (base + 1) next, length_lay b (base + 1 + size a) next))
length_lay (must first n e then) base next =
    let after = base + 1 + size e in
    simp length-append (omega (arith, length_lay e (base + 1) (entry then after next), length_lay then after next))
length_lay (maybe mode first n e then) base next =
    let end = base + 2 + size e in
    simp length-append (omega (arith, length_lay e (base + 2) end, length_lay then (end + 1) next))
length_lay (star mode first n e) base next =
    let end = base + 2 + size e in
    simp length-append (omega (arith, length_lay e (base + 2) end))

pub size_musts : (k first n : ℕ) (e next : Core) → size (musts k first n e next) ≡ k * (1 + size e) + size next
size_musts zero first n e next = omega (arith, zero-mul (1 + size e))
size_musts (suc k) first n e next = omega (arith, suc-mul k (1 + size e), size_musts k first n e next)

pub size_maybes : (k : ℕ) (mode : Mode) (first n : ℕ) (e : Core) → size (maybes k mode first n e) ≡ k * (3 + size e)
size_maybes zero mode first n e = omega (arith, zero-mul (3 + size e))
size_maybes (suc k) mode first n e = omega (arith, suc-mul k (3 + size e), size_maybes k mode first n e)

size_optionals : (least : ℕ) (upper : Upper) (mode : Mode) (first n : ℕ) (e : Core)
    → least * (1 + size e) + size (optionals least upper mode first n e) ≡ repeat_places least upper (size e)
size_optionals least (up_to most) mode first n e = ap (λ (x : ℕ). least * (1 + size e) + x) (size_maybes (most - least) mode first n e)
size_optionals least no_end mode first n e = omega arith

some_members : (ms : Members) → 2 ≤ count ms
some_members (two a b) = omega arith
some_members (more a ms) = omega (arith, some_members ms)

-- a pattern written out has the size that the table says
mutual
  pub size_written : (e : Pattern) (first : ℕ) → size (written_out e first) ≡ places e
  size_written nothing first = refl
  size_written empty first = refl
  size_written (bytes ranges) first = refl
  size_written (group e) first = omega (arith, size_written e (suc first))
  size_written (sequence ms) first = size_chained ms first
  size_written (alternation ms) first = size_forked ms first
  size_written (repeat least upper mode e) first =
      let inside = written_out e first in
      size_musts least first (groups e) inside (optionals least upper mode first (groups e) inside)
      ∙ size_optionals least upper mode first (groups e) inside
      ∙ ap (repeat_places least upper) (size_written e first)

  size_chained : (ms : Members) (first : ℕ) → size (chained ms first) ≡ places_of_all ms
  size_chained (two a b) first = ap₂ ◌+◌ (size_written a first) (size_written b (first + groups a))
  size_chained (more a ms) first = ap₂ ◌+◌ (size_written a first) (size_chained ms (first + groups a))

  size_forked : (ms : Members) (first : ℕ) → size (forked ms first) ≡ places_of_all ms + (count ms - 1)
  size_forked (two a b) first = omega (arith, size_written a first, size_written b (first + groups a))
  size_forked (more a ms) first = omega (arith, size_written a first, size_forked ms (first + groups a), some_members ms)

-- the list of a pattern's places is as long as the table says
pub length_places : (e : Pattern) (first : ℕ) → length (places_of e first) ≡ all_places e
length_places e first =
    let core = written_out e first in
    simp length-append (omega (arith, length_lay core 0 (size core), size_written e first))

-- Depth

nesting_musts : (k first n : ℕ) (e next : Core) (deep : ℕ) → nesting e ≤ deep → nesting next ≤ deep → nesting (musts k first n e next) ≤ deep
nesting_musts zero first n e next deep h h' = h'
nesting_musts (suc k) first n e next deep h h' = omega (arith, nesting_musts k first n e next deep h h')

nesting_maybes : (k : ℕ) (mode : Mode) (first n : ℕ) (e : Core) → nesting (maybes k mode first n e) ≤ suc (nesting e)
nesting_maybes zero mode first n e = omega arith
nesting_maybes (suc k) mode first n e = omega (arith, nesting_maybes k mode first n e)

nesting_optionals : (least : ℕ) (upper : Upper) (mode : Mode) (first n : ℕ) (e : Core)
    → nesting (optionals least upper mode first n e) ≤ cond (has_optional least upper) (suc (nesting e)) (nesting e)
nesting_optionals least (up_to most) mode first n e = look (ltb least most) refl
  where
    look : (b : Bool) → ltb least most ≡ b → nesting (maybes (most - least) mode first n e) ≤ cond b (suc (nesting e)) (nesting e)
    look true h = nesting_maybes (most - least) mode first n e
    look false h =
        let none : most - least ≡ 0 = omega (arith, ltb-false least most h) in
        subst (λ (k : ℕ). nesting (maybes k mode first n e) ≤ nesting e) (sym none) (omega arith)
nesting_optionals least no_end mode first n e = omega arith

cond_up : (b : Bool) (k m : ℕ) → k ≤ m → (k ≤ cond b (suc m) m) × (cond b (suc k) k ≤ cond b (suc m) m)
cond_up true k m h = (omega arith, omega arith)
cond_up false k m h = (h, h)

-- a pattern written out nests no deeper than its depth
mutual
  pub nesting_written : (e : Pattern) (first : ℕ) → nesting (written_out e first) ≤ depth e
  nesting_written nothing first = omega arith
  nesting_written empty first = omega arith
  nesting_written (bytes ranges) first = omega arith
  nesting_written (group e) first = nesting_written e (suc first)
  nesting_written (sequence ms) first = nesting_chained ms first
  nesting_written (alternation ms) first = nesting_forked ms first
  nesting_written (repeat least upper mode e) first =
      let inside = written_out e first in
      let up = cond_up (has_optional least upper) (nesting inside) (depth e) (nesting_written e first) in
      let low : nesting (optionals least upper mode first (groups e) inside) ≤ cond (has_optional least upper) (suc (depth e)) (depth e)
      = omega (arith, nesting_optionals least upper mode first (groups e) inside, up.1) in
      nesting_musts least first (groups e) inside (optionals least upper mode first (groups e) inside)
      (cond (has_optional least upper) (suc (depth e)) (depth e))
      up.0
      low

  nesting_chained : (ms : Members) (first : ℕ) → nesting (chained ms first) ≤ depth_of_all ms
  nesting_chained (two a b) first = omega (arith, nesting_written a first, nesting_written b (first + groups a))
  nesting_chained (more a ms) first = omega (arith, nesting_written a first, nesting_chained ms (first + groups a))

  nesting_forked : (ms : Members) (first : ℕ) → nesting (forked ms first) ≤ depth_of_all ms
  nesting_forked (two a b) first = omega (arith, nesting_written a first, nesting_written b (first + groups a))
  nesting_forked (more a ms) first = omega (arith, nesting_written a first, nesting_forked ms (first + groups a))

cond_top : (b : Bool) (m : ℕ) → cond b (suc m) m ≤ suc m
cond_top true m = omega arith
cond_top false m = omega arith

-- a record's depth is below its levels
mutual
  pub depth_levels : (e : Pattern) → depth e < levels e
  depth_levels nothing = omega arith
  depth_levels empty = omega arith
  depth_levels (bytes ranges) = omega arith
  depth_levels (group e) = omega (arith, depth_levels e)
  depth_levels (sequence ms) = omega (arith, depth_levels_all ms)
  depth_levels (alternation ms) = omega (arith, depth_levels_all ms)
  depth_levels (repeat least upper mode e) =
      let top : cond (has_optional least upper) (suc (depth e)) (depth e) ≤ suc (depth e) = cond_top (has_optional least upper) (depth e) in
      omega (arith, depth_levels e)

  depth_levels_all : (ms : Members) → depth_of_all ms < levels_of_all ms
  depth_levels_all (two a b) = omega (arith, depth_levels a, depth_levels b)
  depth_levels_all (more a ms) = omega (arith, depth_levels a, depth_levels_all ms)

-- Search

-- a search has ten places more than the pattern
pub places_wrap : (e : Pattern) → all_places (wrap e) ≡ search_places e
places_wrap e = omega arith

-- and is at least one deep
pub depth_wrap : (e : Pattern) → depth (wrap e) ≡ search_depth e
depth_wrap e = omega arith
