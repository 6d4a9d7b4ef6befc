-- What can be told of a pattern's places without a line: their followers and rows exist, and each place has a depth that no level there exceeds.
-- The depth of a place is the number of optional passes that it stands inside: only the begin of such a pass raises the level, and its end leads on only from level 0.
use Prim.Native.Nat.{ℕ, zero, suc, ◌+◌, ◌-◌, ◌≤◌, ◌<◌}
use native.Mathlib.Omega.{arith}
use native.Mathlib.Nat.{add-zero}
use mathlib.Core.Path.{◌≡◌, refl, sym, subst}
use mathlib.Core.Bool.{Bool, true, false, cond}
use mathlib.Core.List.{List, [], ◌∷◌, ◌++◌}
use lib.Dec.{eqb}
use lib.ListN.{length, get_or, length-append}
use lib.Seq.{get_or-append_seam, append_snoc}
use borrow.Author.Tests.{eqb-false}
use Rattle.paper.specs.Pattern.{Mode, greedy, lazy, Upper, up_to, no_end, Pattern, Members, groups, groups_of_all, all_places, depth}
use Rattle.paper.specs.Pattern.Pattern.{nothing, empty, bytes, group, sequence, alternation, repeat}
use Rattle.paper.specs.Pattern.Members.{two, more}
use Rattle.paper.specs.Machine.{Core, dead, skip, eats, captures, chain, either, must, maybe, star, musts, maybes, optionals, written_out, chained, forked, Place, one_of, stop, fork, opening, closing, begin, begin_optional, ending, accept, size, entry, pass_fork, lay, places_of}
use Rattle.paper.proofs.machine.Sizes.{nesting, length_lay, length_places, size_written, nesting_written}
use Rattle.paper.proofs.machine.Unfold.{entry_chain}

-- Lists whose elements stand one after another

-- each element has a property of its number, counted from `base` on
abbrev From : {A : Type 0} → (ℕ → A → Type 0) → ℕ → List A → Type 0
From P base [] = Unit {0}
From P base (x ∷ xs) = P base x × From P (suc base) xs

module _ {A : Type 0} (P : ℕ → A → Type 0) where
  append : (base : ℕ) (xs ys : List A) → From P base xs → From P (base + length xs) ys → From P base (xs ++ ys)
  append base [] ys f g = subst (λ (b : ℕ). From P b ys) (add-zero base) g
  append base (x ∷ xs) ys f g = (f.0, append (suc base) xs ys f.1 (subst (λ (b : ℕ). From P b ys) (omega arith) g))

  parts : (base : ℕ) (xs ys : List A) → From P base (xs ++ ys) → From P base xs × From P (base + length xs) ys
  parts base [] ys f = (tt, subst (λ (b : ℕ). From P b ys) (sym (add-zero base)) f)
  parts base (x ∷ xs) ys f =
      let later = parts (suc base) xs ys f.1 in
      ((f.0, later.0), subst (λ (b : ℕ). From P b ys) (omega arith) later.1)

  -- two stretches put together and taken apart, with their bases as they are written
  from_join : (base first second : ℕ) (xs ys : List A) → first ≡ base → second ≡ base + length xs → From P first xs → From P second ys
      → From P base (xs ++ ys)
  from_join base first second xs ys e e' f g =
      append base xs ys (subst (λ (b : ℕ). From P b xs) e f) (subst (λ (b : ℕ). From P b ys) e' g)

  from_split : (base first second : ℕ) (xs ys : List A) → first ≡ base → second ≡ base + length xs → From P base (xs ++ ys)
      → From P first xs × From P second ys
  from_split base first second xs ys e e' f =
      let both = parts base xs ys f in
      (subst (λ (b : ℕ). From P b xs) (sym e) both.0, subst (λ (b : ℕ). From P b ys) (sym e') both.1)

  from_at : (base : ℕ) (xs : List A) (i : ℕ) (other : A) → From P base xs → i < length xs → P (base + i) (get_or xs i other)
  from_at base [] i other f h = absurd (omega arith)
  from_at base (x ∷ xs) zero other f h = subst (λ (b : ℕ). P b x) (sym (add-zero base)) f.0
  from_at base (x ∷ xs) (suc i) other f h = subst (λ (b : ℕ). P b (get_or xs i other)) (omega arith) (from_at (suc base) xs i other f.1 (omega arith))

-- a list has its own elements
from_own : (pre xs : List ℕ) → From (λ i d. get_or (pre ++ xs) i 0 ≡ d) (length pre) xs
from_own pre [] = tt
from_own pre (x ∷ xs) =
    let longer : length (pre ++ (x ∷ [])) ≡ suc (length pre) = omega (arith, length-append pre (x ∷ [])) in
    let later = from_own (pre ++ (x ∷ [])) xs in (
      get_or-append_seam pre x xs 0,
      subst (λ (l : List ℕ). From (λ i d. get_or l i 0 ≡ d) (suc (length pre)) xs) (append_snoc pre x xs)
          (subst (λ (b : ℕ). From (λ i d. get_or (pre ++ (x ∷ []) ++ xs) i 0 ≡ d) b xs) longer later),
    )

-- Depths

-- the depths of the places of a written-out pattern that stands inside so many optional passes
abbrev pub depths : Core → ℕ → List ℕ
depths dead m = m ∷ []
depths skip m = []
depths (eats ranges) m = m ∷ []
depths (captures k e) m = m ∷ (depths e m ++ (m ∷ []))
depths (chain a b) m = depths a m ++ depths b m
depths (either a b) m = m ∷ (depths a m ++ depths b m)
depths (must first n e then) m = m ∷ (depths e m ++ depths then m)
depths (maybe mode first n e then) m = m ∷ m ∷ (depths e (suc m) ++ (suc m ∷ depths then m))
depths (star mode first n e) m = m ∷ m ∷ (depths e (suc m) ++ (suc m ∷ []))

length_depths : (e : Core) (m : ℕ) → length (depths e m) ≡ size e
length_depths dead m = refl
length_depths skip m = refl
length_depths (eats ranges) m = refl
length_depths (captures k e) m = simp length-append (omega (arith, length_depths e m))
length_depths (chain a b) m = simp length-append (omega (arith, length_depths a m, length_depths b m))
length_depths (either a b) m = simp length-append (omega (arith, length_depths a m, length_depths b m))
length_depths (must first n e then) m = simp length-append (omega (arith, length_depths e m, length_depths then m))
length_depths (maybe mode first n e then) m = simp length-append (omega (arith, length_depths e (suc m), length_depths then m))
length_depths (star mode first n e) m = simp length-append (omega (arith, length_depths e (suc m)))

-- none is greater than the passes around and the nesting inside
depths_most : (e : Core) (m base most : ℕ) → m + nesting e ≤ most → From (λ i d. d ≤ most) base (depths e m)
depths_most dead m base most h = (omega arith, tt)
depths_most skip m base most h = tt
depths_most (eats ranges) m base most h = (omega arith, tt)
depths_most (captures k e) m base most h =
    let second = suc base + length (depths e m) in
    (omega arith, append (λ i d. d ≤ most) (suc base) (depths e m) (m ∷ []) (depths_most e m (suc base) most h) (omega arith, tt))
depths_most (chain a b) m base most h =
    let second = base + length (depths a m) in
    append (λ i d. d ≤ most) base (depths a m) (depths b m)
    (depths_most a m base most (omega arith)) (depths_most b m second most (omega arith))
depths_most (either a b) m base most h =
    let second = suc base + length (depths a m) in (
      omega arith,
      append (λ i d. d ≤ most) (suc base) (depths a m) (depths b m)
          (depths_most a m (suc base) most (omega arith)) (depths_most b m second most (omega arith)),
    )
depths_most (must first n e then) m base most h =
    let second = suc base + length (depths e m) in (
      omega arith,
      append (λ i d. d ≤ most) (suc base) (depths e m) (depths then m)
          (depths_most e m (suc base) most (omega arith)) (depths_most then m second most (omega arith)),
    )
depths_most (maybe mode first n e then) m base most h =
    let second = suc (suc base) + length (depths e (suc m)) in (
      omega arith,
      (
        omega arith,
        append (λ i d. d ≤ most) (suc (suc base)) (depths e (suc m)) (suc m ∷ depths then m)
            (depths_most e (suc m) (suc (suc base)) most (omega arith)) (omega arith, depths_most then m (suc second) most (omega arith)),
      ),
    )
depths_most (star mode first n e) m base most h =
    let second = suc (suc base) + length (depths e (suc m)) in (
      omega arith,
      (
        omega arith,
        append (λ i d. d ≤ most) (suc (suc base)) (depths e (suc m)) (suc m ∷ [])
            (depths_most e (suc m) (suc (suc base)) most (omega arith)) (omega arith, tt),
      ),
    )

-- Rows

-- every row that a written-out pattern names is one of so many
abbrev Slotted : ℕ → Core → Type 0
Slotted rows dead = Unit {0}
Slotted rows skip = Unit {0}
Slotted rows (eats ranges) = Unit {0}
Slotted rows (captures k e) = (k < rows) × Slotted rows e
Slotted rows (chain a b) = Slotted rows a × Slotted rows b
Slotted rows (either a b) = Slotted rows a × Slotted rows b
Slotted rows (must first n e then) = (first + n ≤ rows) × Slotted rows e × Slotted rows then
Slotted rows (maybe mode first n e then) = (first + n ≤ rows) × Slotted rows e × Slotted rows then
Slotted rows (star mode first n e) = (first + n ≤ rows) × Slotted rows e

module _ (rows first n : ℕ) (inside : Core) (few : first + n ≤ rows) (slotted : Slotted rows inside) where
  slotted_musts : (k : ℕ) (then : Core) → Slotted rows then → Slotted rows (musts k first n inside then)
  slotted_musts zero then h = h
  slotted_musts (suc k) then h = (few, slotted, slotted_musts k then h)

  slotted_maybes : (k : ℕ) (mode : Mode) → Slotted rows (maybes k mode first n inside)
  slotted_maybes zero mode = tt
  slotted_maybes (suc k) mode = (few, slotted, slotted_maybes k mode)

  slotted_optionals : (least : ℕ) (upper : Upper) (mode : Mode) → Slotted rows (optionals least upper mode first n inside)
  slotted_optionals least (up_to most) mode = slotted_maybes (most - least) mode
  slotted_optionals least no_end mode = (few, slotted)

mutual
  slotted_written : (e : Pattern) (first rows : ℕ) → first + groups e ≤ rows → Slotted rows (written_out e first)
  slotted_written nothing first rows h = tt
  slotted_written empty first rows h = tt
  slotted_written (bytes ranges) first rows h = tt
  slotted_written (group e) first rows h = (omega arith, slotted_written e (suc first) rows (omega arith))
  slotted_written (sequence ms) first rows h = slotted_chained ms first rows h
  slotted_written (alternation ms) first rows h = slotted_forked ms first rows h
  slotted_written (repeat least upper mode e) first rows h =
      let inside = written_out e first in
      let slotted = slotted_written e first rows h in
      slotted_musts rows first (groups e) inside h slotted least (optionals least upper mode first (groups e) inside)
      (slotted_optionals rows first (groups e) inside h slotted least upper mode)

  slotted_chained : (ms : Members) (first rows : ℕ) → first + groups_of_all ms ≤ rows → Slotted rows (chained ms first)
  slotted_chained (two a b) first rows h = (slotted_written a first rows (omega arith), slotted_written b (first + groups a) rows (omega arith))
  slotted_chained (more a ms) first rows h = (slotted_written a first rows (omega arith), slotted_chained ms (first + groups a) rows (omega arith))

  slotted_forked : (ms : Members) (first rows : ℕ) → first + groups_of_all ms ≤ rows → Slotted rows (forked ms first)
  slotted_forked (two a b) first rows h = (slotted_written a first rows (omega arith), slotted_written b (first + groups a) rows (omega arith))
  slotted_forked (more a ms) first rows h = (slotted_written a first rows (omega arith), slotted_forked ms (first + groups a) rows (omega arith))

-- Places

-- a follower that exists, at whose depth such levels are allowed
abbrev pub LeadsTo : (ℕ → ℕ) → ℕ → ℕ → ℕ → Type 0
LeadsTo deep places level next = (next < places) × (level ≤ deep next)

-- what holds of a place at an index: its followers are places and no shallower, below the begin of an optional pass deeper; its rows exist
abbrev pub Static : (ℕ → ℕ) → ℕ → ℕ → ℕ → Place → Type 0
Static deep places rows x (one_of ranges next) = next < places
Static deep places rows x stop = Unit {0}
Static deep places rows x (fork a b) = LeadsTo deep places (deep x) a × LeadsTo deep places (deep x) b
Static deep places rows x (opening k next) = LeadsTo deep places (deep x) next × (k < rows)
Static deep places rows x (closing k next) = LeadsTo deep places (deep x) next × (k < rows)
Static deep places rows x (begin first n next) = LeadsTo deep places (deep x) next × (first + n ≤ rows)
Static deep places rows x (begin_optional first n next) = LeadsTo deep places (deep x + 1) next × (first + n ≤ rows)
Static deep places rows x (ending next) = next < places
Static deep places rows x accept = Unit {0}

module _ (deep : ℕ → ℕ) (places rows : ℕ) where
  -- the places from `base` on have these depths
  abbrev Deep : ℕ → List ℕ → Type 0
  Deep base ds = From (λ i d. deep i ≡ d) base ds

  -- a place that leads to levels up to m leads to levels up to its own depth, which is m
  own : (x m next : ℕ) → deep x ≡ m → LeadsTo deep places m next → LeadsTo deep places (deep x) next
  own x m next e h = (h.0, omega (arith, h.1))

  enters : (n base next m : ℕ) → deep base ≡ m → base + n ≤ places → LeadsTo deep places m next → LeadsTo deep places m (cond (eqb n 0) next base)
  enters n base next m e fits h = look (eqb n 0) refl
    where
      look : (b : Bool) → eqb n 0 ≡ b → LeadsTo deep places m (cond b next base)
      look true z = h
      look false z = let some = eqb-false n 0 z in (omega arith, omega arith)

  -- the entry of a written-out pattern can be led to as what follows it can
  entered : (e : Core) (base next m : ℕ) → Deep base (depths e m) → base + size e ≤ places → LeadsTo deep places m next
      → LeadsTo deep places m (entry e base next)
  entered dead base next m a fits h = enters 1 base next m a.0 fits h
  entered skip base next m a fits h = h
  entered (eats ranges) base next m a fits h = enters 1 base next m a.0 fits h
  entered (captures k e) base next m a fits h = enters (size (captures k e)) base next m a.0 fits h
  entered (chain a b) base next m d fits h =
      let second = base + size a in
      let both = from_split (λ i d. deep i ≡ d) base base second (depths a m) (depths b m) refl (omega (arith, length_depths a m)) d in
      subst (LeadsTo deep places m) (entry_chain a b base next)
      (entered a base (entry b second next) m both.0 (omega arith) (entered b second next m both.1 (omega arith) h))
  entered (either a b) base next m d fits h = enters (size (either a b)) base next m d.0 fits h
  entered (must first n e then) base next m a fits h = enters (size (must first n e then)) base next m a.0 fits h
  entered (maybe mode first n e then) base next m a fits h = enters (size (maybe mode first n e then)) base next m a.0 fits h
  entered (star mode first n e) base next m a fits h = enters (size (star mode first n e)) base next m a.0 fits h

  pass_fork_law : (mode : Mode) (x pass out : ℕ) → LeadsTo deep places (deep x) pass → LeadsTo deep places (deep x) out
      → Static deep places rows x (pass_fork mode pass out)
  pass_fork_law greedy x pass out h h' = (h, h')
  pass_fork_law lazy x pass out h h' = (h', h)

  abbrev AllStatic : ℕ → List Place → Type 0
  AllStatic base xs = From (Static deep places rows) base xs

  -- the places of a written-out pattern
  static_lay : (e : Core) (base next m : ℕ) → Deep base (depths e m) → base + size e ≤ places → LeadsTo deep places m next → Slotted rows e
      → AllStatic base (lay e base next)
  static_lay dead base next m d fits h s = (tt, tt)
  static_lay skip base next m d fits h s = tt
  static_lay (eats ranges) base next m d fits h s = (h.0, tt)
  static_lay (captures k e) base next m d fits h s =
      let inside = base + 1 in
      let close = inside + size e in
      let both = from_split (λ i d. deep i ≡ d) (suc base) inside close (depths e m) (m ∷ []) (omega arith) (omega (arith, length_depths e m)) d.1 in
      let closes : LeadsTo deep places m close = (omega arith, omega (arith, both.1.0)) in (
        (own base m (entry e inside close) d.0 (entered e inside close m both.0 (omega arith) closes), s.0),
        from_join (Static deep places rows) (suc base) inside close (lay e inside close) (closing k next ∷ []) (omega arith) (omega (arith, length_lay e inside close))
            (static_lay e inside close m both.0 (omega arith) closes s.1)
            ((own close m next both.1.0 h, s.0), tt),
      )
  static_lay (chain a b) base next m d fits h s =
      let second = base + size a in
      let both = from_split (λ i d. deep i ≡ d) base base second (depths a m) (depths b m) refl (omega (arith, length_depths a m)) d in
      let then = entered b second next m both.1 (omega arith) h in
      from_join (Static deep places rows) base base second (lay a base (entry b second next)) (lay b second next) refl
      (omega (arith, length_lay a base (entry b second next)))
      (static_lay a base (entry b second next) m both.0 (omega arith) then s.0)
      (static_lay b second next m both.1 (omega arith) h s.1)
  static_lay (either a b) base next m d fits h s =
      let first = base + 1 in
      let second = first + size a in
      let both = from_split (λ i d. deep i ≡ d) (suc base) first second (depths a m) (depths b m) (omega arith) (omega (arith, length_depths a m)) d.1 in (
        (
          own base m (entry a first next) d.0 (entered a first next m both.0 (omega arith) h),
          own base m (entry b second next) d.0 (entered b second next m both.1 (omega arith) h),
        ),
        from_join (Static deep places rows) (suc base) first second (lay a first next) (lay b second next) (omega arith) (omega (arith, length_lay a first next))
            (static_lay a first next m both.0 (omega arith) h s.0)
            (static_lay b second next m both.1 (omega arith) h s.1),
      )
  static_lay (must first n e then) base next m d fits h s =
      let inside = base + 1 in
      let after = inside + size e in
      let out = entry then after next in
      let both = from_split (λ i d. deep i ≡ d) (suc base) inside after (depths e m) (depths then m) (omega arith) (omega (arith, length_depths e m)) d.1 in
      let leaves = entered then after next m both.1 (omega arith) h in (
        (own base m (entry e inside out) d.0 (entered e inside out m both.0 (omega arith) leaves), s.0),
        from_join (Static deep places rows) (suc base) inside after (lay e inside out) (lay then after next) (omega arith) (omega (arith, length_lay e inside out))
            (static_lay e inside out m both.0 (omega arith) leaves s.1)
            (static_lay then after next m both.1 (omega arith) h s.2),
      )
  static_lay (maybe mode first n e then) base next m d fits h s =
      let inside = base + 2 in
      let end = inside + size e in
      let after = end + 1 in
      let both = from_split (λ i d. deep i ≡ d) (suc (suc base)) inside end (depths e (suc m)) (suc m ∷ depths then m) (omega arith) (omega (arith, length_depths e (suc m))) d.1.1 in
      let begin-deep : deep (base + 1) ≡ m = subst (λ (y : ℕ). deep y ≡ m) (omega arith) d.1.0 in
      let ends : LeadsTo deep places (suc m) end = (omega arith, omega (arith, both.1.0)) in
      let rest : Deep after (depths then m) = subst (λ (b : ℕ). Deep b (depths then m)) (omega arith) both.1.1 in
      let begins = entered e inside end (suc m) both.0 (omega arith) ends in (
        pass_fork_law mode base (base + 1) next (omega arith, omega (arith, d.0)) (own base m next d.0 h),
        (
          ((begins.0, omega (arith, begins.1, d.1.0)), s.0),
          from_join (Static deep places rows) (suc (suc base)) inside end (lay e inside end) (ending (entry then after next) ∷ lay then after next)
              (omega arith) (omega (arith, length_lay e inside end))
              (static_lay e inside end (suc m) both.0 (omega arith) ends s.1) (
                (entered then after next m rest (omega arith) h).0,
                subst (λ (b : ℕ). AllStatic b (lay then after next)) (omega arith) (static_lay then after next m rest (omega arith) h s.2),
              ),
        ),
      )
  static_lay (star mode first n e) base next m d fits h s =
      let inside = base + 2 in
      let end = inside + size e in
      let both = from_split (λ i d. deep i ≡ d) (suc (suc base)) inside end (depths e (suc m)) (suc m ∷ []) (omega arith) (omega (arith, length_depths e (suc m))) d.1.1 in
      let begin-deep : deep (base + 1) ≡ m = subst (λ (y : ℕ). deep y ≡ m) (omega arith) d.1.0 in
      let ends : LeadsTo deep places (suc m) end = (omega arith, omega (arith, both.1.0)) in
      let begins = entered e inside end (suc m) both.0 (omega arith) ends in (
        pass_fork_law mode base (base + 1) next (omega arith, omega (arith, d.0)) (own base m next d.0 h),
        (
          ((begins.0, omega (arith, begins.1, d.1.0)), s.0),
          from_join (Static deep places rows) (suc (suc base)) inside end (lay e inside end) (ending base ∷ []) (omega arith) (omega (arith, length_lay e inside end))
              (static_lay e inside end (suc m) both.0 (omega arith) ends s.1)
              (omega arith, tt),
        ),
      )

-- the depths of all places of a pattern; the accepting one stands inside no pass
abbrev all_depths : Pattern → ℕ → List ℕ
all_depths e first = depths (written_out e first) 0 ++ (0 ∷ [])

-- the depth of the place at an index
abbrev pub deep_at : Pattern → ℕ → ℕ → ℕ
deep_at e first x = get_or (all_depths e first) x 0

length_all : (e : Pattern) (first : ℕ) → length (all_depths e first) ≡ all_places e
length_all e first = simp length-append (omega (arith, length_depths (written_out e first) 0, size_written e first))

get_d_most : (ds : List ℕ) (base most x : ℕ) → From (λ i d. d ≤ most) base ds → get_or ds x 0 ≤ most
get_d_most [] base most x f = omega arith
get_d_most (d ∷ ds) base most zero f = f.0
get_d_most (d ∷ ds) base most (suc x) f = get_d_most ds (suc base) most x f.1

-- it is at most the pattern's depth
pub deep_most : (e : Pattern) (first x : ℕ) → deep_at e first x ≤ depth e
deep_most e first x =
    let core = written_out e first in
    get_d_most (all_depths e first) 0 (depth e) x
    (append (λ i d. d ≤ depth e) 0 (depths core 0) (0 ∷ [])
    (depths_most core 0 0 (depth e) (omega (arith, nesting_written e first)))
    (omega arith, tt))

-- every place of a pattern leads to places of the pattern, within their depths, and touches rows that exist
pub places_static : (e : Pattern) (first rows : ℕ) → first + groups e ≤ rows → (x : ℕ) → x < all_places e
    → Static (deep_at e first) (all_places e) rows x (get_or (places_of e first) x stop)
places_static e first rows few x inside =
    let core = written_out e first in
    let deep = deep_at e first in
    let both = from_split (λ i d. deep i ≡ d) 0 0 (size core) (depths core 0) (0 ∷ []) refl (omega (arith, length_depths core 0)) (from_own [] (all_depths e first)) in
    subst (λ (y : ℕ). Static deep (all_places e) rows y (get_or (places_of e first) x stop)) (omega arith)
    (from_at (Static deep (all_places e) rows) 0 (places_of e first) x stop
    (from_join (Static deep (all_places e) rows) 0 0 (size core) (lay core 0 (size core)) (accept ∷ []) refl (omega (arith, length_lay core 0 (size core)))
    (static_lay deep (all_places e) rows core 0 (size core) 0 both.0 (omega (arith, size_written e first))
    (omega (arith, size_written e first), omega arith) (slotted_written e first rows few))
    (tt, tt))
    (omega (arith, length_places e first)))
