-- Building a repeat: its passes, by the numbers that were read, lay it written out.
use Prim.Native.Nat.{ℕ, ◌+◌, ◌-◌, ◌≤◌}
use mathlib.Core.Path.{◌≡◌, refl, sym, ap, subst, ◌∙◌}
use mathlib.Core.Bool.{Bool, true, false, cond}
use mathlib.Core.List.{List}
use native.Mathlib.Omega.{arith}
use lib.Dec.{eqb}
use Rattle.paper.specs.Pattern.{Mode, up_to, no_end, places, repeat_places}
use Rattle.paper.specs.Pattern.Pattern.{repeat}
use Rattle.paper.specs.Check.{number_at, upper_of, mode_of, repeat_head}
use Rattle.paper.specs.Machine.{Core, written_out, musts, optionals}
use Rattle.paper.proofs.machine.Sizes.{size_written}
use Rattle.paper.proofs.layout.RepeatBody.{upper_of_number, mode_of_number}
use Rattle.pattern.specs.Walk.{optional_passes, pass_places}
use Rattle.pattern.proofs.Counting as counting
use Rattle.laying.specs.Laid.{Kept, Lays}
use Rattle.laying.specs.Copies.{in_place}
use Rattle.laying.specs.Repeats.{pass_core, inner_start, Repeating, PassesLaid, Passed, PassedInside}
use Rattle.laying.proofs.Stores.{kept_both}
use Rattle.laying.proofs.Entering.{passes_none, first_inner}
use Rattle.laying.proofs.Sizes.{optional_maybes}
use Rattle.places.specs.Walk.{One, OneLaid, Repeat, RepeatLaid}

-- they are the repeat written out
passes_core : (endless : Bool) (least most : ℕ) (mode : Mode) (first g : ℕ) (e : Core)
    → musts least first g e (optionals least (cond endless no_end (up_to most)) mode first g e) ≡ pass_core least endless (optional_passes least (cond endless no_end (up_to most)))
    mode first g e
passes_core true least most mode first g e = refl
passes_core false least most mode first g e = ap (musts least first g e) (sym (optional_maybes (most - least) mode first g e))

-- without an upper end there is one optional pass
optional_once : (endless : Bool) (least most : ℕ) → endless ≡ true → optional_passes least (cond endless no_end (up_to most)) ≤ 1
optional_once true least most is = omega arith
optional_once false least most is = let z : ◌≡◌ {A = ℕ} 0 1 = cc in absurd (omega arith)

-- the numbers that are read are the tree's
module _ {bs : List ℕ} {start stop base next first n g least most mode : ℕ} (m : Repeat bs start stop base next first n g)
    (el : least ≡ number_at bs start) (em : most ≡ number_at bs (start + 2)) (ed : mode ≡ number_at bs (start + 4)) where
  least_is : least ≡ m.least
  least_is = el ∙ m.numbers.least_is

  upper_is : upper_of most ≡ m.upper
  upper_is = ap upper_of (em ∙ m.numbers.upper_is) ∙ upper_of_number m.least m.upper m.numbers.right

  mode_is : mode_of mode ≡ m.mode
  mode_is = ap mode_of (ed ∙ m.numbers.mode_is) ∙ mode_of_number m.mode

  -- the places of the passes are the repeat's
  pub total : {may : ℕ} → may ≡ optional_passes least (upper_of most) → n ≡ pass_places least may (places m.tree)
  total {may} ey =
      let e : repeat_places m.least m.upper (places m.tree) ≡ repeat_places least (upper_of most) (places m.tree) = rw (least_is, upper_is) in
      m.places_are ∙ e ∙ sym (counting.repeat_passes least (upper_of most) (places m.tree)) ∙ ap (λ (k : ℕ). pass_places least k (places m.tree)) (sym ey)

  -- there is a pass
  pub some_pass : {may : ℕ} → may ≡ optional_passes least (upper_of most) → least + may ≡ 0 → ⊥
  some_pass {may} ey none = m.some (total ey ∙ passes_none least may (places m.tree) none)

  -- what the places inside are asked by
  abbrev pub passed_ask : {may : ℕ} → may ≡ optional_passes least (upper_of most) → Passed n least may
  passed_ask ey = record { inside = places m.tree; all_are = total ey; some = some_pass ey; small = m.small }

-- the places inside are the tree's
module _ {bs : List ℕ} {start stop base next first n g least most mode may p : ℕ} (m : Repeat bs start stop base next first n g)
    (el : least ≡ number_at bs start) (em : most ≡ number_at bs (start + 2)) (ed : mode ≡ number_at bs (start + 4))
    (ey : may ≡ optional_passes least (upper_of most)) (c : PassedInside n least may p) where
  pub places_is : p ≡ places m.tree
  places_is = c.same (passed_ask m el em ed ey)

  whole : n ≡ pass_places least may p
  whole = total m el em ed ey ∙ ap (λ (k : ℕ). pass_places least may k) (sym places_is)

  -- where the inner part of the first pass stands
  pub inner_room : (base ≤ inner_start least base) × (inner_start least base + p ≤ base + n)
  inner_room =
      let w = first_inner least may base p (some_pass m el em ed ey) in
      (w.0, omega (arith, w.1, whole))

  -- what laying it asks for
  abbrev pub inner_ask : {model : ℕ} → model ≡ inner_start least base → One bs (start + repeat_head) stop model (model + p) first p g
  inner_ask at =
      record {
        tree = m.tree;
        inside = m.inside;
        places_are = places_is;
        groups_are = m.groups_are;
        small = omega (arith, inner_room, m.small);
        room = omega (arith, at, inner_room, m.room);
        follows = omega (arith, at, inner_room, m.room);
      }

  -- what the passes are asked for
  pub passes_ask : {model : ℕ} → model ≡ inner_start least base → Repeating model p first g least may (eqb most 65535) base next
  passes_ask {model} at =
      record {
        first_small = omega (arith, m.inside.few);
        groups_small = omega (arith, m.inside.few, m.groups_are);
        once = λ is. omega (arith, ey, optional_once (eqb most 65535) least most is);
        room = omega (arith, m.room, whole);
        follows = m.follows;
        stands = in_place at;
      }

  -- the tree written out, by the numbers that were read
  written : written_out (repeat m.least m.upper m.mode m.tree) first
      ≡ pass_core least (eqb most 65535) may (mode_of mode) first g (written_out m.tree first)
  written =
      let e : written_out (repeat m.least m.upper m.mode m.tree) first
      ≡ musts least first g (written_out m.tree first) (optionals least (upper_of most) (mode_of mode) first g (written_out m.tree first)) =
      rw (least_is m el em ed, upper_is m el em ed, mode_is m el em ed, m.groups_are) in
      e ∙ passes_core (eqb most 65535) least most (mode_of mode) first g (written_out m.tree first)
      ∙ ap (λ (k : ℕ). pass_core least (eqb most 65535) k (mode_of mode) first g (written_out m.tree first)) (sym ey)

  -- the inner part and the passes keep what stands around the repeat
  passes_keep : {model : ℕ} {t t1 t2 : List ℕ} → model ≡ inner_start least base
      → OneLaid bs (start + repeat_head) stop model (model + p) first p g t t1 → PassesLaid model p first g least may (eqb most 65535) mode base next t1 t2
      → Kept base (base + n) t t2
  passes_keep at inner r =
      kept_both base (base + n) inner.kept r.kept (omega (arith, at, inner_room)) (omega (arith, at, inner_room)) (omega arith) (omega (arith, whole))

  -- and lay the repeat
  passes_lay : {model : ℕ} {t t1 t2 : List ℕ} → model ≡ inner_start least base
      → OneLaid bs (start + repeat_head) stop model (model + p) first p g t t1 → PassesLaid model p first g least may (eqb most 65535) mode base next t1 t2
      → Lays t2 bs (written_out (repeat m.least m.upper m.mode m.tree) first) base next
  passes_lay {model} {t} {t1} {t2} at inner r =
      let e = written_out m.tree first in
      subst (λ (c : Core). Lays t2 bs c base next) (sym written)
      (r.laid bs e (places_is ∙ sym (size_written m.tree first)) (λ more. inner.laid (inner_ask at)))

-- so they do for every tree that meets what was asked
pub repeat_passes : {bs : List ℕ} {start stop base next first n g least most mode may p model : ℕ} {t t1 t2 : List ℕ}
    → Repeat bs start stop base next first n g → least ≡ number_at bs start → most ≡ number_at bs (start + 2) → mode ≡ number_at bs (start + 4)
    → may ≡ optional_passes least (upper_of most) → PassedInside n least may p → model ≡ inner_start least base
    → OneLaid bs (start + repeat_head) stop model (model + p) first p g t t1
    → PassesLaid model p first g least may (eqb most 65535) mode base next t1 t2 → RepeatLaid bs start stop base next first n g t t2
repeat_passes m0 el em ed ey c at inner r =
    record { kept = passes_keep m0 el em ed ey c at inner r; laid = λ m. passes_lay m el em ed ey c at inner r }
