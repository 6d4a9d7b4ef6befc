-- The places of a pattern unfold to its tree: from the entry, on a level, at a position, the moves of the places are the nodes of the tree, one for one.
-- A place, level and position unfold to one tree only, since the move there is one only.
use Prim.Native.Nat.{ℕ, zero, suc, ◌+◌, ◌<◌, ◌≤◌}
use native.Mathlib.Omega.{arith}
use native.Mathlib.Nat.{add-zero, zero-add, suc-add}
use mathlib.Core.Path.{◌≡◌, refl, sym, ap, ap₂, subst, ◌∙◌, fun_ext}
use mathlib.Core.Bool.{Bool, true, false, cond}
use mathlib.Core.List.{List, [], ◌∷◌, ◌++◌}
use lib.Dec.{eqb, eqb-suc-zero}
use lib.ListN.{length, get_or, length-append}
use lib.Seq.{get_or-append_seam, append_snoc}
use Rattle.paper.specs.Pattern.{Mode, greedy, lazy}
use Rattle.paper.specs.Rows.{Rows, no_rows, set_end, clear}
use Rattle.paper.specs.Reading.{takes}
use Rattle.paper.specs.Machine.{
  Core,
  dead,
  skip,
  eats,
  captures,
  chain,
  either,
  must,
  maybe,
  star,
  Place,
  one_of,
  stop,
  fork,
  opening,
  closing,
  begin,
  begin_optional,
  ending,
  size,
  entry,
  pass_fork,
  lay,
  Thread,
  at,
  Move,
  die,
  win,
  eat,
  split,
  lead,
  move_at,
}
use Rattle.paper.proofs.machine.Tree.{Tree, no_way, done, byte, choice, act, Rest, ways, at_end, loops, grow, After, stay, on, after_after}
use Rattle.paper.proofs.machine.Grown.{takes_inside}
use Rattle.paper.proofs.machine.Sizes.{nesting, length_lay}

-- Places that stand in a list of places

-- from `base` on the list has these places
abbrev pub Holds : List Place → ℕ → List Place → Type 0
Holds code base [] = Unit {0}
Holds code base (x ∷ xs) = (base < length code) × (get_or code base stop ≡ x) × Holds code (suc base) xs

-- two stretches one after the other
pub holds_append : (code : List Place) (base : ℕ) (xs ys : List Place) → Holds code base (xs ++ ys)
    → Holds code base xs × Holds code (base + length xs) ys
holds_append code base [] ys h = (tt, subst (λ (b : ℕ). Holds code b ys) (sym (add-zero base)) h)
holds_append code base (x ∷ xs) ys h =
    let later = holds_append code (suc base) xs ys h.2 in
    let same : suc base + length xs ≡ base + suc (length xs) = omega arith in
    ((h.0, h.1, later.0), subst (λ (b : ℕ). Holds code b ys) same later.1)

-- the same with the two stretches' bases as they are written
pub holds_both : (code : List Place) (base first second : ℕ) (xs ys : List Place) → base ≡ first → base + length xs ≡ second
    → Holds code base (xs ++ ys) → Holds code first xs × Holds code second ys
holds_both code base first second xs ys e e' h =
    let both = holds_append code base xs ys h in
    (subst (λ (b : ℕ). Holds code b xs) e both.0, subst (λ (b : ℕ). Holds code b ys) e' both.1)

-- a list has its own places
pub holds_behind : (pre xs : List Place) → Holds (pre ++ xs) (length pre) xs
holds_behind pre [] = tt
holds_behind pre (x ∷ xs) =
    let longer : length (pre ++ (x ∷ [])) ≡ suc (length pre) = omega (arith, length-append pre (x ∷ [])) in
    let later : Holds (pre ++ (x ∷ []) ++ xs) (suc (length pre)) xs =
    subst (λ (b : ℕ). Holds (pre ++ (x ∷ []) ++ xs) b xs) longer (holds_behind (pre ++ (x ∷ [])) xs) in (
      omega (arith, length-append pre (x ∷ xs)),
      get_or-append_seam pre x xs stop,
      subst (λ (l : List Place). Holds l (suc (length pre)) xs) (append_snoc pre x xs) later,
    )

-- the entry of one pattern that is followed by another
pub entry_chain : (a b : Core) (base next : ℕ) → entry a base (entry b (base + size a) next) ≡ entry (chain a b) base next
entry_chain a b base next = numbers (size a) (size b)
  where
    numbers : (x y : ℕ) → cond (eqb x 0) (cond (eqb y 0) next (base + x)) base ≡ cond (eqb (x + y) 0) next base
    numbers zero zero = refl
    numbers zero (suc y) = rw (zero-add (suc y), eqb-suc-zero y) (add-zero base)
    numbers (suc x) y = rw (suc-add x y, eqb-suc-zero x, eqb-suc-zero (x + y))

-- Unfolding

module _ (code : List Place) (line : List ℕ) (deepest : ℕ) where
  -- a place in the list, a level within the depth, and the move there
  pub record Stands (p place level : ℕ) (move : Rows → Move) : Type 0 where
    pub inside : place < length code
    pub low : level ≤ deepest
    pub moves : (rows : Rows) → move_at (get_or code place stop) line p level rows ≡ move rows

  -- a place, on a level, at a position, unfolds to a tree
  pub data Unfolds : Tree → ℕ → ℕ → ℕ → Type 0 where
    dies : {p place level : ℕ} → Stands p place level (λ rows. die) → Unfolds no_way p place level
    accepts : {p place level : ℕ} → Stands p place level (λ rows. win) → p ≡ length line → Unfolds done p place level
    carries : {t : Tree} {p place level : ℕ} (next : ℕ) → Stands p place level (λ rows. eat next) → p < length line
        → Unfolds t (suc p) next 0 → Unfolds (byte t) p place level
    splits : {a b : Tree} {p place level : ℕ} (x y : ℕ) → Stands p place level (λ rows. split x y)
        → Unfolds a p x level → Unfolds b p y level → Unfolds (choice a b) p place level
    goes_on : {change : Rows → Rows} {t : Tree} {p place level : ℕ} (x m : ℕ) → Stands p place level (λ rows. lead (at x m (change rows)))
        → Unfolds t p x m → Unfolds (act change t) p place level

  one_move : {p place level : ℕ} {f g : Rows → Move} → Stands p place level f → Stands p place level g → (rows : Rows) → f rows ≡ g rows
  one_move a b rows = sym (a.moves rows) ∙ b.moves rows

  -- one tree only
  pub unfolds_once : {t u : Tree} {p place level : ℕ} → Unfolds t p place level → Unfolds u p place level → t ≡ u
  unfolds_once (dies h) (dies h') = refl
  unfolds_once (dies h) (accepts h' e) = cc (one_move h h' no_rows)
  unfolds_once (dies h) (carries y h' b d') = cc (one_move h h' no_rows)
  unfolds_once (dies h) (splits x y h' c' d') = cc (one_move h h' no_rows)
  unfolds_once (dies h) (goes_on x m h' d') = cc (one_move h h' no_rows)
  unfolds_once (accepts h e) (dies h') = cc (one_move h h' no_rows)
  unfolds_once (accepts h e) (accepts h' e') = refl
  unfolds_once (accepts h e) (carries y h' b d') = cc (one_move h h' no_rows)
  unfolds_once (accepts h e) (splits x y h' c' d') = cc (one_move h h' no_rows)
  unfolds_once (accepts h e) (goes_on x m h' d') = cc (one_move h h' no_rows)
  unfolds_once (carries x h b d) (dies h') = cc (one_move h h' no_rows)
  unfolds_once (carries x h b d) (accepts h' e) = cc (one_move h h' no_rows)
  unfolds_once {p} (carries x h b d) (carries {t = u} y h' b' d') =
      let same : x ≡ y = cc (one_move h h' no_rows) in
      ap byte (unfolds_once d (subst (λ (z : ℕ). Unfolds u (suc p) z 0) (sym same) d'))
  unfolds_once (carries x h b d) (splits v y h' c' d') = cc (one_move h h' no_rows)
  unfolds_once (carries x h b d) (goes_on y m h' d') = cc (one_move h h' no_rows)
  unfolds_once (splits w x h c d) (dies h') = cc (one_move h h' no_rows)
  unfolds_once (splits w x h c d) (accepts h' e) = cc (one_move h h' no_rows)
  unfolds_once (splits w x h c d) (carries y h' b d') = cc (one_move h h' no_rows)
  unfolds_once {p} {level} (splits w x h c d) (splits {a = u} {b = v} y z h' c' d') =
      let same : w ≡ y = cc (one_move h h' no_rows) in
      let same' : x ≡ z = cc (one_move h h' no_rows) in
      ap₂ choice (unfolds_once c (subst (λ (q : ℕ). Unfolds u p q level) (sym same) c'))
      (unfolds_once d (subst (λ (q : ℕ). Unfolds v p q level) (sym same') d'))
  unfolds_once (splits w x h c d) (goes_on y m h' d') = cc (one_move h h' no_rows)
  unfolds_once (goes_on x m h d) (dies h') = cc (one_move h h' no_rows)
  unfolds_once (goes_on x m h d) (accepts h' e) = cc (one_move h h' no_rows)
  unfolds_once (goes_on x m h d) (carries y h' b d') = cc (one_move h h' no_rows)
  unfolds_once (goes_on x m h d) (splits v y h' c' d') = cc (one_move h h' no_rows)
  unfolds_once {p} (goes_on {change = f} x m h d) (goes_on {change = g} {t = u} y k h' d') =
      let threads : (rows : Rows) → at x m (f rows) ≡ at y k (g rows) = λ rows. cc (one_move h h' rows) in
      let change : f ≡ g = fun_ext (λ rows. ap (λ (t : Thread). t.rows) (threads rows)) in
      let place : x ≡ y = ap (λ (t : Thread). t.place) (threads no_rows) in
      let level : m ≡ k = ap (λ (t : Thread). t.level) (threads no_rows) in
      ap₂ act change (unfolds_once d (subst (λ (q : ℕ). Unfolds u p q m) (sym place) (subst (λ (l : ℕ). Unfolds u p y l) (sym level) d')))

  -- The places of a pattern unfold to its tree

  -- where a pattern followed by the place `next` is left, that place unfolds to what follows
  abbrev pub Goes : ℕ → ℕ → ℕ → Rest → Type 0
  Goes p level next rest = (q m : ℕ) → After (length line) p level q m → Unfolds (rest q m) q next m

  -- how a place is found to stand: by what the list has there and the move of that
  pub stand : {move : Rows → Move} (p level place : ℕ) (x : Place) → place < length code → get_or code place stop ≡ x → level ≤ deepest
      → ((rows : Rows) → move_at x line p level rows ≡ move rows) → Stands p place level move
  stand p level place x inside here low move =
      record { inside = inside; low = low; moves = λ rows. ap (λ (y : Place). move_at y line p level rows) here ∙ move rows }

  -- a level never rises from entry to exit
  pub after_level : {n p level q m : ℕ} → After n p level q m → m ≤ level
  after_level stay = omega arith
  after_level (on h bound) = omega arith

  -- the ending of an optional pass: nothing taken dies there, and a byte taken goes on to what comes after
  end_unfolds : (end after p level : ℕ) (next : ℕ → Tree) → Holds code end (ending after ∷ []) → suc level ≤ deepest
      → ((q : ℕ) → p < q → q ≤ length line → Unfolds (next q) q after 0) → Goes p (suc level) end (at_end next)
  end_unfolds end after p level next h low goes q m stay =
      rw (eqb-suc-zero level) (dies (stand p (suc level) end (ending after) h.0 h.1 low (λ rows. rw (eqb-suc-zero level))))
  end_unfolds end after p level next h low goes q m (on further bound) =
      goes_on after 0 (stand q 0 end (ending after) h.0 h.1 (omega arith) (λ rows. refl)) (goes q further bound)

  -- with no byte left every arrival at the ending dies
  end_dies : (end after p level : ℕ) → Holds code end (ending after ∷ []) → suc level ≤ deepest → length line ≤ p
      → Goes p (suc level) end (λ q m. no_way)
  end_dies end after p level h low over q m stay =
      dies (stand p (suc level) end (ending after) h.0 h.1 low (λ rows. rw (eqb-suc-zero level)))
  end_dies end after p level h low over q m (on further bound) = absurd (omega arith)

  -- the fork and the begin of an optional pass
  pass_unfolds : (mode : Mode) (base out inner first n p level : ℕ) (behind : List Place) (t stopping : Tree)
      → Holds code base (pass_fork mode (base + 1) out ∷ begin_optional first n inner ∷ behind) → suc level ≤ deepest
      → Unfolds t p inner (suc level) → Unfolds stopping p out level → Unfolds (ways mode (act (clear first n) t) stopping) p base level
  pass_unfolds mode base out inner first n p level behind t stopping h low d d' = by mode h.1
    where
      second : suc base ≡ base + 1
      second = omega arith

      begins : Unfolds (act (clear first n) t) p (base + 1) level
      begins =
          subst (λ (place : ℕ). Unfolds (act (clear first n) t) p place level) second
          (goes_on inner (suc level) (stand p level (suc base) (begin_optional first n inner) h.2.0 h.2.1 (omega arith) (λ rows. refl)) d)

      by : (mode : Mode) → get_or code base stop ≡ pass_fork mode (base + 1) out → Unfolds (ways mode (act (clear first n) t) stopping) p base level
      by greedy here = splits (base + 1) out (stand p level base (fork (base + 1) out) h.0 here (omega arith) (λ rows. refl)) begins d'
      by lazy here = splits out (base + 1) (stand p level base (fork out (base + 1)) h.0 here (omega arith) (λ rows. refl)) d' begins

  loops_unfold : (e : Core) (mode : Mode) (base out inner end first n : ℕ) (behind : List Place)
      → Holds code base (pass_fork mode (base + 1) out ∷ begin_optional first n inner ∷ behind) → Holds code end (ending base ∷ [])
      → ((p level : ℕ) (rest : Rest) → level + nesting e ≤ deepest → Goes p level end rest → Unfolds (grow line e p level rest) p inner level)
      → (k p level : ℕ) (rest : Rest) → length line ≤ p + k → level + suc (nesting e) ≤ deepest → Goes p level out rest
      → Unfolds (loops k mode first n (grow line e) p level rest) p base level
  loops_unfold e mode base out inner end first n behind h h' inside zero p level rest enough low goes =
      pass_unfolds mode base out inner first n p level behind (grow line e p (suc level) (λ q m. no_way)) (rest p level) h (omega arith)
      (inside p (suc level) (λ q m. no_way) (omega arith) (end_dies end base p level h' (omega arith) (omega arith)))
      (goes p level stay)
  loops_unfold e mode base out inner end first n behind h h' inside (suc k) p level rest enough low goes =
      let again : ℕ → Tree = λ q. loops k mode first n (grow line e) q 0 rest in
      pass_unfolds mode base out inner first n p level behind (grow line e p (suc level) (at_end again)) (rest p level) h (omega arith)
      (inside p (suc level) (at_end again) (omega arith)
      (end_unfolds end base p level again h' (omega arith)
      (λ q further bound.
      loops_unfold e mode base out inner end first n behind h h' inside k q 0 rest (omega arith) (omega arith)
      (λ q' m' after'. goes q' m' (after_after (on further bound) after')))))
      (goes p level stay)

  -- a written-out pattern, laid out at its base and followed by a place that unfolds to what follows, unfolds to its tree
  pub unfolds : (e : Core) (base next p level : ℕ) (rest : Rest) → Holds code base (lay e base next) → level + nesting e ≤ deepest
      → Goes p level next rest → Unfolds (grow line e p level rest) p (entry e base next) level
  unfolds dead base next p level rest h low goes = dies (stand p level base stop h.0 h.1 (omega arith) (λ rows. refl))
  unfolds skip base next p level rest h low goes = goes p level stay
  unfolds (eats ranges) base next p level rest h low goes = look (takes ranges line p) refl
    where
      look : (b : Bool) → takes ranges line p ≡ b → Unfolds (cond b (byte (rest (suc p) 0)) no_way) p base level
      look true taken =
          let inside : p < length line = takes_inside ranges line p taken in
          let further : p < suc p = omega arith in
          carries next
          (stand p level base (one_of ranges next) h.0 h.1 (omega arith) (λ rows. ap (λ (b : Bool). cond b (eat next) die) taken))
          inside
          (goes (suc p) 0 (on further inside))
      look false taken =
          dies (stand p level base (one_of ranges next) h.0 h.1 (omega arith) (λ rows. ap (λ (b : Bool). cond b (eat next) die) taken))
  unfolds (captures k e) base next p level rest h low goes =
      let close = base + 1 + size e in
      let both = holds_both code (suc base) (base + 1) close (lay e (base + 1) close) (closing k next ∷ [])
      (omega arith) (omega (arith, length_lay e (base + 1) close)) h.2 in
      rw (eqb-suc-zero (size e + 1))
      (goes_on (entry e (base + 1) close) level
      (stand p level base (opening k (entry e (base + 1) close)) h.0 h.1 (omega arith) (λ rows. refl))
      (unfolds e (base + 1) close p level (λ q m. act (set_end k q) (rest q m)) both.0 low
      (λ q m after.
      goes_on next m (stand q m close (closing k next) both.1.0 both.1.1 (omega (arith, after_level after)) (λ rows. refl)) (goes q m after))))
  unfolds (chain a b) base next p level rest h low goes =
      let second = base + size a in
      let both = holds_both code base base second (lay a base (entry b second next)) (lay b second next)
      refl (ap (λ (x : ℕ). base + x) (length_lay a base (entry b second next))) h in
      subst (λ (place : ℕ). Unfolds (grow line (chain a b) p level rest) p place level) (entry_chain a b base next)
      (unfolds a base (entry b second next) p level (λ q m. grow line b q m rest) both.0 (omega arith)
      (λ q m after.
      unfolds b second next q m rest both.1 (omega (arith, after_level after)) (λ q' m' after'. goes q' m' (after_after after after'))))
  unfolds (either a b) base next p level rest h low goes =
      let first = base + 1 in
      let second = first + size a in
      let both = holds_both code (suc base) first second (lay a first next) (lay b second next)
      (omega arith) (omega (arith, length_lay a first next)) h.2 in
      rw (eqb-suc-zero (size a + size b))
      (splits (entry a first next) (entry b second next)
      (stand p level base (fork (entry a first next) (entry b second next)) h.0 h.1 (omega arith) (λ rows. refl))
      (unfolds a first next p level rest both.0 (omega arith) goes)
      (unfolds b second next p level rest both.1 (omega arith) goes))
  unfolds (must first n e then) base next p level rest h low goes =
      let inside = base + 1 in
      let after = inside + size e in
      let both = holds_both code (suc base) inside after (lay e inside (entry then after next)) (lay then after next)
      (omega arith) (omega (arith, length_lay e inside (entry then after next))) h.2 in
      rw (eqb-suc-zero (size e + size then))
      (goes_on (entry e inside (entry then after next)) level
      (stand p level base (begin first n (entry e inside (entry then after next))) h.0 h.1 (omega arith) (λ rows. refl))
      (unfolds e inside (entry then after next) p level (λ q m. grow line then q m rest) both.0 (omega arith)
      (λ q m left.
      unfolds then after next q m rest both.1 (omega (arith, after_level left)) (λ q' m' left'. goes q' m' (after_after left left')))))
  unfolds (maybe mode first n e then) base next p level rest h low goes =
      let inside = base + 2 in
      let end = inside + size e in
      let after = end + 1 in
      let both = holds_both code (suc (suc base)) inside end (lay e inside end) (ending (entry then after next) ∷ lay then after next)
      (omega arith) (omega (arith, length_lay e inside end)) h.2.2 in
      let behind : Holds code after (lay then after next)
      = subst (λ (b : ℕ). Holds code b (lay then after next)) (omega arith) both.1.2 in
      let comes : ℕ → Tree = λ q. grow line then q 0 rest in
      rw (eqb-suc-zero (suc (size e + suc (size then))))
      (pass_unfolds mode base next (entry e inside end) first n p level
      (lay e inside end ++ (ending (entry then after next) ∷ lay then after next))
      (grow line e p (suc level) (at_end comes)) (rest p level) h (omega arith)
      (unfolds e inside end p (suc level) (at_end comes) both.0 (omega arith)
      (end_unfolds end (entry then after next) p level comes (both.1.0, both.1.1, tt) (omega arith)
      (λ q further bound.
      unfolds then after next q 0 rest behind (omega arith) (λ q' m' left'. goes q' m' (after_after (on further bound) left')))))
      (goes p level stay))
  unfolds (star mode first n e) base next p level rest h low goes =
      let inside = base + 2 in
      let end = inside + size e in
      let both = holds_both code (suc (suc base)) inside end (lay e inside end) (ending base ∷ [])
      (omega arith) (omega (arith, length_lay e inside end)) h.2.2 in
      rw (eqb-suc-zero (suc (size e + 1)))
      (loops_unfold e mode base next (entry e inside end) end first n (lay e inside end ++ (ending base ∷ [])) h both.1
      (λ p level rest low goes. unfolds e inside end p level rest both.0 low goes)
      (length line) p level rest (omega arith) low goes)
