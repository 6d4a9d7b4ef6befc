-- How deep visits nest at one position: at most twice the number of places. On one chain the level rises from 0 and falls back only at an ending on level 0;
-- above 0 no ending is passed, so the places only go forward, and on level 0 no place comes twice, since it would be a pair seen before.
use Prim.Native.Nat.{ℕ, zero, suc, ◌+◌, ◌-◌, ◌*◌, ◌<◌, ◌≤◌}
use native.Mathlib.Omega.{arith}
use native.Mathlib.Nat.{le_refl, mul-one, add-zero, zero-add}
use mathlib.Core.Path.{◌≡◌, refl, sym, ap, subst, ◌∙◌}
use mathlib.Core.Bool.{Bool, true, false, cond, ◌||◌, ◌&&◌}
use mathlib.Core.List.{List, [], ◌∷◌, ◌++◌}
use mathlib.Core.Option.{Option, none, some}
use lib.Dec.{eqb, ltb, eqb-suc-zero}
use lib.ListN.{length, get_or, get_or-eq_default}
use borrow.Author.Tests.{ltb-true, ltb-false, eq-eqb, ne_eqb}
use Rattle.paper.specs.Pattern.{Mode, greedy, lazy, Pattern, all_places}
use Rattle.paper.specs.Rows.{Rows, no_rows, set_start, set_end, clear}
use Rattle.paper.specs.Reading.{takes}
use Rattle.paper.specs.Machine.{Core, dead, skip, eats, captures, chain, either, must, maybe, star, Place, one_of, stop, fork, opening, closing, begin, begin_optional, ending, accept, size, entry, pass_fork, written_out, lay, places_of, Thread, at, Move, die, win, eat, split, lead, move_at, Pair, State, fresh, is_seen, is_won, blocked, mark, follow, arrive, visit, visits, settle, run, pairs, machine}
use Rattle.paper.proofs.machine.Sizes.{length_lay, length_places}
use Rattle.paper.proofs.machine.Unseen.{total, total_less, total_constant, unseen_at}
use Rattle.paper.proofs.machine.Visit.{or_neither}
use Rattle.paper.proofs.machine.Bound.{machine_turns}

-- Forward places

-- whatever may follow a place above level 0 stands behind it
abbrev pub Forward : ℕ → Place → Type 0
Forward q (one_of ranges next) = Unit {0}
Forward q stop = Unit {0}
Forward q (fork a b) = (q < a) × (q < b)
Forward q (opening k next) = q < next
Forward q (closing k next) = q < next
Forward q (begin first n next) = q < next
Forward q (begin_optional first n next) = q < next
Forward q (ending next) = Unit {0}
Forward q accept = Unit {0}

abbrev AllForward : ℕ → List Place → Type 0
AllForward base [] = Unit {0}
AllForward base (x ∷ xs) = Forward base x × AllForward (suc base) xs

forward_append : (base : ℕ) (xs ys : List Place) → AllForward base xs → AllForward (base + length xs) ys → AllForward base (xs ++ ys)
forward_append base [] ys f g = subst (λ (b : ℕ). AllForward b ys) (add-zero base) g
forward_append base (x ∷ xs) ys f g =
    (f.0, forward_append (suc base) xs ys f.1 (subst (λ (b : ℕ). AllForward b ys) (omega arith) g))

-- two stretches with their bases as they are written
forward_both : (base first second : ℕ) (xs ys : List Place) → first ≡ base → second ≡ base + length xs → AllForward first xs → AllForward second ys
    → AllForward base (xs ++ ys)
forward_both base first second xs ys e e' f g =
    forward_append base xs ys (subst (λ (b : ℕ). AllForward b xs) e f) (subst (λ (b : ℕ). AllForward b ys) e' g)

-- an entry stands no further in front than its base or its follower
entry_least : (q : ℕ) (e : Core) (base next : ℕ) → q ≤ base → q ≤ next → q ≤ entry e base next
entry_least q e base next h h' = look (eqb (size e) 0)
  where
    look : (b : Bool) → q ≤ cond b next base
    look true = h'
    look false = h

forward_fork : (mode : Mode) (q a b : ℕ) → q < a → q < b → Forward q (pass_fork mode a b)
forward_fork greedy q a b h h' = (h, h')
forward_fork lazy q a b h h' = (h', h)

-- the places of a pattern go forward
forward_lay : (e : Core) (base next : ℕ) → base + size e ≤ next → AllForward base (lay e base next)
forward_lay dead base next h = (tt, tt)
forward_lay skip base next h = tt
forward_lay (eats ranges) base next h = (tt, tt)
forward_lay (captures k e) base next h =
    let inside = base + 1 in
    let close = inside + size e in
    let closes : close < next = omega arith in (
      entry_least (suc base) e inside close (omega arith) (omega arith),
      forward_both (suc base) inside close (lay e inside close) (closing k next ∷ []) (omega arith) (omega (arith, length_lay e inside close))
          (forward_lay e inside close (le_refl close)) (closes, tt),
    )
forward_lay (chain a b) base next h =
    let second = base + size a in
    forward_both base base second (lay a base (entry b second next)) (lay b second next) refl
    (ap (λ (n : ℕ). base + n) (sym (length_lay a base (entry b second next))))
    (forward_lay a base (entry b second next) (entry_least second b second next (le_refl second) (omega arith))) (forward_lay b second next (omega arith))
forward_lay (either a b) base next h =
    let first = base + 1 in
    let second = first + size a in (
      (entry_least (suc base) a first next (omega arith) (omega arith), entry_least (suc base) b second next (omega arith) (omega arith)),
      forward_both (suc base) first second (lay a first next) (lay b second next) (omega arith) (omega (arith, length_lay a first next))
          (forward_lay a first next (omega arith)) (forward_lay b second next (omega arith)),
    )
forward_lay (must first n e then) base next h =
    let inside = base + 1 in
    let after = inside + size e in
    let behind : after ≤ entry then after next = entry_least after then after next (le_refl after) (omega arith) in (
      entry_least (suc base) e inside (entry then after next) (omega arith) (omega arith),
      forward_both (suc base) inside after (lay e inside (entry then after next)) (lay then after next) (omega arith)
          (omega (arith, length_lay e inside (entry then after next)))
          (forward_lay e inside (entry then after next) behind) (forward_lay then after next (omega arith)),
    )
forward_lay (maybe mode first n e then) base next h =
    let inside = base + 2 in
    let end = inside + size e in
    let after = end + 1 in (
      forward_fork mode base (base + 1) next (omega arith) (omega arith),
      (
        entry_least (suc (suc base)) e inside end (omega arith) (omega arith),
        forward_both (suc (suc base)) inside end (lay e inside end) (ending (entry then after next) ∷ lay then after next)
            (omega arith) (omega (arith, length_lay e inside end))
            (forward_lay e inside end (le_refl end))
            (tt, subst (λ (b : ℕ). AllForward b (lay then after next)) (omega arith) (forward_lay then after next (omega arith))),
      ),
    )
forward_lay (star mode first n e) base next h =
    let inside = base + 2 in
    let end = inside + size e in (
      forward_fork mode base (base + 1) next (omega arith) (omega arith),
      (
        entry_least (suc (suc base)) e inside end (omega arith) (omega arith),
        forward_both (suc (suc base)) inside end (lay e inside end) (ending base ∷ []) (omega arith) (omega (arith, length_lay e inside end))
            (forward_lay e inside end (le_refl end)) (tt, tt),
      ),
    )

-- the place at an index goes forward
forward_at : (base : ℕ) (xs : List Place) (q : ℕ) → AllForward base xs → Forward (base + q) (get_or xs q stop)
forward_at base [] q f = tt
forward_at base (x ∷ xs) zero f = subst (λ (b : ℕ). Forward b x) (sym (add-zero base)) f.0
forward_at base (x ∷ xs) (suc q) f =
    subst (λ (b : ℕ). Forward b (get_or xs q stop)) (omega arith) (forward_at (suc base) xs q f.1)

-- The turns that a visit needs

total_most : (n : ℕ) (f g : ℕ → ℕ) → ((j : ℕ) → f j ≤ g j) → total n f ≤ total n g
total_most zero f g h = le_refl 0
total_most (suc n) f g h = omega (arith, h n, total_most n f g h)

-- the places not seen on level 0
level0 : ℕ → List Pair → ℕ
level0 places seen = total places (unseen_at seen 0)

level0_most : (places : ℕ) (seen : List Pair) → level0 places seen ≤ places
unfolding level0
level0_most places seen =
    let all : total places (λ j. 1) ≡ places = total_constant places 1 ∙ mul-one places in
    omega (arith, total_most places (unseen_at seen 0) (λ j. 1) (λ j. low (is_seen j 0 seen)))
  where
    low : (b : Bool) → cond b 0 1 ≤ 1
    low true = omega arith
    low false = omega arith

-- seeing a pair leaves no more
level0_fewer : (places : ℕ) (q : Pair) (seen : List Pair) → level0 places (q ∷ seen) ≤ level0 places seen
unfolding level0
level0_fewer places q seen = total_most places (unseen_at (q ∷ seen) 0) (unseen_at seen 0)
    (λ j. down (eqb q.place j && eqb q.level 0) (is_seen j 0 seen))
  where
    down : (b c : Bool) → cond (b || c) 0 1 ≤ cond c 0 1
    down true c = omega arith
    down false c = le_refl (cond c 0 1)

-- and on level 0 fewer
level0_mark : (places place : ℕ) (seen : List Pair) → place < places → is_seen place 0 seen ≡ false
    → level0 places (record { place = place; level = 0 } ∷ seen) < level0 places seen
unfolding level0
level0_mark places place seen inside new =
    let marked : List Pair = record { place = place; level = 0 } ∷ seen in
    let less = total_less places place (unseen_at seen 0) (unseen_at marked 0) inside
    (rw (eq-eqb place place refl, new)) (λ x other. rw (ne_eqb place x (λ e. other (sym e)))) in
    omega arith

-- the same with the level as it is written
level0_marked : (places place level : ℕ) (seen : List Pair) → place < places → level ≡ 0 → is_seen place level seen ≡ false
    → level0 places (record { place = place; level = level } ∷ seen) < level0 places seen
level0_marked places place level seen inside ground =
    subst (λ (l : ℕ). is_seen place l seen ≡ false → level0 places (record { place = place; level = l } ∷ seen) < level0 places seen) (sym ground)
    (level0_mark places place seen inside)

follow_fewer : (places : ℕ) (v : Thread → State → State) → ((t : Thread) (s : State) → level0 places (v t s).seen ≤ level0 places s.seen)
    → (t : Thread) (m : Move) (s : State) → level0 places (follow v t m s).seen ≤ level0 places s.seen
follow_fewer places v fewer t die s = le_refl (level0 places s.seen)
follow_fewer places v fewer t win s = le_refl (level0 places s.seen)
follow_fewer places v fewer t (eat next) s = le_refl (level0 places s.seen)
follow_fewer places v fewer t (split x y) s =
    let s' = v (at x t.level t.rows) s in
    omega (arith, fewer (at x t.level t.rows) s, fewer (at y t.level t.rows) s')
follow_fewer places v fewer t (lead u) s = fewer u s

-- a visit leaves no more places unseen
visit_fewer : (places turns : ℕ) (code : List Place) (line : List ℕ) (p : ℕ) (t : Thread) (s : State)
    → level0 places (visit turns code line p t s).seen ≤ level0 places s.seen
visit_fewer places zero code line p t s = le_refl (level0 places s.seen)
visit_fewer places (suc turns) code line p t s = look (visit_fewer places turns code line p) (blocked t s)
  where
    look : ((t : Thread) (s : State) → level0 places (visit turns code line p t s).seen ≤ level0 places s.seen) → (b : Bool)
        → level0 places (arrive (visit turns code line p) code line p b t s).seen ≤ level0 places s.seen
    look fewer true = le_refl (level0 places s.seen)
    look fewer false =
        omega (
          arith,
          follow_fewer places (visit turns code line p) fewer t (move_at (get_or code t.place stop) line p t.level t.rows) (mark t s),
          level0_fewer places (record { place = t.place; level = t.level }) s.seen,
        )

-- turns enough for a thread: on level 0 by the places unseen there and all places once more, above it by the places behind
abbrev Enough : ℕ → ℕ → ℕ → ℕ → ℕ → Type 0
Enough places turns unseen place zero = unseen + places < turns
Enough places turns unseen place (suc level) = places - place < turns

-- enough for a follower behind, on the same level
enough_same : (places turns unseen unseen' place next level : ℕ) → (level ≡ 0 → unseen' < unseen) → place < next → place < places
    → Enough places (suc turns) unseen place level → Enough places turns unseen' next level
enough_same places turns unseen unseen' place next zero fewer ahead inside h = omega (arith, fewer refl)
enough_same places turns unseen unseen' place next (suc level) fewer ahead inside h = omega arith

-- enough for a follower behind, one level up
enough_up : (places turns unseen unseen' place next level : ℕ) → (level ≡ 0 → unseen' < unseen) → place < next → place < places
    → Enough places (suc turns) unseen place level → Enough places turns unseen' next (suc level)
enough_up places turns unseen unseen' place next zero fewer ahead inside h = omega (arith, fewer refl)
enough_up places turns unseen unseen' place next (suc level) fewer ahead inside h = omega arith

enough_some : (places unseen place level : ℕ) → Enough places 0 unseen place level → ⊥
enough_some places unseen place zero h = omega arith
enough_some places unseen place (suc level) h = omega arith

-- any turns that are enough are as good as any others
module _ (code : List Place) (line : List ℕ) (p : ℕ) (forward : AllForward 0 code) where
  -- the places of the list not seen on level 0
  abbrev fresh0 : State → ℕ
  fresh0 s = level0 (length code) s.seen

  -- the turns suit a thread in a state
  abbrev Suits : ℕ → Thread → State → Type 0
  Suits turns t s = Enough (length code) turns (fresh0 s) t.place t.level

  -- one arrival, given that what it leads to is the same with both numbers of turns
  module _ (turns more : ℕ)
      (next_same : (t : Thread) (s : State) → Suits turns t s → Suits more t s → visit turns code line p t s ≡ visit more code line p t s) where
    followed : (place level : ℕ) (rows : Rows) (s m : State) → Suits (suc turns) (at place level rows) s → Suits (suc more) (at place level rows) s
        → (level ≡ 0 → fresh0 m < fresh0 s) → place < length code → (x : Place) → Forward place x
        → follow (visit turns code line p) (at place level rows) (move_at x line p level rows) m
        ≡ follow (visit more code line p) (at place level rows) (move_at x line p level rows) m
    followed place level rows s m h h' fewer inside (one_of ranges next) f = look (takes ranges line p)
      where
        look : (b : Bool) → follow (visit turns code line p) (at place level rows) (cond b (eat next) die) m
            ≡ follow (visit more code line p) (at place level rows) (cond b (eat next) die) m
        look true = refl
        look false = refl
    followed place level rows s m h h' fewer inside stop f = refl
    followed place level rows s m h h' fewer inside (fork a b) f =
        let s' : State = visit more code line p (at a level rows) m in
        let fewer' : level ≡ 0 → fresh0 s' < fresh0 s
        = λ e. omega (arith, fewer e, visit_fewer (length code) more code line p (at a level rows) m) in
        ap (visit turns code line p (at b level rows))
        (next_same (at a level rows) m (enough_same (length code) turns (fresh0 s) (fresh0 m) place a level fewer f.0 inside h)
        (enough_same (length code) more (fresh0 s) (fresh0 m) place a level fewer f.0 inside h'))
        ∙ next_same (at b level rows) s' (enough_same (length code) turns (fresh0 s) (fresh0 s') place b level fewer' f.1 inside h)
        (enough_same (length code) more (fresh0 s) (fresh0 s') place b level fewer' f.1 inside h')
    followed place level rows s m h h' fewer inside (opening k next) f =
        next_same (at next level (set_start k p rows)) m
        (enough_same (length code) turns (fresh0 s) (fresh0 m) place next level fewer f inside h)
        (enough_same (length code) more (fresh0 s) (fresh0 m) place next level fewer f inside h')
    followed place level rows s m h h' fewer inside (closing k next) f =
        next_same (at next level (set_end k p rows)) m
        (enough_same (length code) turns (fresh0 s) (fresh0 m) place next level fewer f inside h)
        (enough_same (length code) more (fresh0 s) (fresh0 m) place next level fewer f inside h')
    followed place level rows s m h h' fewer inside (begin first n next) f =
        next_same (at next level (clear first n rows)) m
        (enough_same (length code) turns (fresh0 s) (fresh0 m) place next level fewer f inside h)
        (enough_same (length code) more (fresh0 s) (fresh0 m) place next level fewer f inside h')
    followed place level rows s m h h' fewer inside (begin_optional first n next) f =
        next_same (at next (suc level) (clear first n rows)) m
        (enough_up (length code) turns (fresh0 s) (fresh0 m) place next level fewer f inside h)
        (enough_up (length code) more (fresh0 s) (fresh0 m) place next level fewer f inside h')
    followed place zero rows s m h h' fewer inside (ending next) f =
        next_same (at next 0 rows) m (omega (arith, fewer refl)) (omega (arith, fewer refl))
    followed place (suc level) rows s m h h' fewer inside (ending next) f = rw (eqb-suc-zero level)
    followed place level rows s m h h' fewer inside accept f = look (eqb p (length line))
      where
        look : (b : Bool) → follow (visit turns code line p) (at place level rows) (cond b win die) m
            ≡ follow (visit more code line p) (at place level rows) (cond b win die) m
        look true = refl
        look false = refl

    arrived : (t : Thread) (s : State) → Suits (suc turns) t s → Suits (suc more) t s → (b : Bool) → blocked t s ≡ b
        → arrive (visit turns code line p) code line p b t s ≡ arrive (visit more code line p) code line p b t s
    arrived t s h h' true e = refl
    arrived t s h h' false e = look (ltb t.place (length code)) refl
      where
        new : is_seen t.place t.level s.seen ≡ false
        new = (or_neither (is_won s.won) (is_seen t.place t.level s.seen) e).1

        look : (b : Bool) → ltb t.place (length code) ≡ b
            → follow (visit turns code line p) t (move_at (get_or code t.place stop) line p t.level t.rows) (mark t s)
            ≡ follow (visit more code line p) t (move_at (get_or code t.place stop) line p t.level t.rows) (mark t s)
        look true in_List =
            let inside : t.place < length code = ltb-true t.place (length code) in_List in
            followed t.place t.level t.rows s (mark t s) h h'
            (λ ground. level0_marked (length code) t.place t.level s.seen inside ground new)
            inside
            (get_or code t.place stop)
            (subst (λ (q : ℕ). Forward q (get_or code t.place stop)) (zero-add t.place) (forward_at 0 code t.place forward))
        look false beyond =
            subst (λ (x : Place).
            follow (visit turns code line p) t (move_at x line p t.level t.rows) (mark t s)
            ≡ follow (visit more code line p) t (move_at x line p t.level t.rows) (mark t s))
            (sym (get_or-eq_default code stop (ltb-false t.place (length code) beyond)))
            refl

  steady : (turns more : ℕ) (t : Thread) (s : State) → Suits turns t s → Suits more t s → visit turns code line p t s ≡ visit more code line p t s
  steady zero more t s h h' = absurd (enough_some (length code) (fresh0 s) t.place t.level h)
  steady (suc turns) zero t s h h' = absurd (enough_some (length code) (fresh0 s) t.place t.level h')
  steady (suc turns) (suc more) t s h h' = arrived turns more (steady turns more) t s h h' (blocked t s) refl

  -- twice the places are enough for every thread
  suits_twice : (turns : ℕ) (t : Thread) (s : State) → 2 * length code < turns → Suits turns t s
  suits_twice turns t s h = by t.level
    where
      by : (level : ℕ) → Enough (length code) turns (fresh0 s) t.place level
      by zero = omega (arith, level0_most (length code) s.seen)
      by (suc level) = omega arith

  visits_steady : (turns more : ℕ) → 2 * length code < turns → 2 * length code < more → (ts : List Thread) (s : State)
      → visits turns code line p ts s ≡ visits more code line p ts s
  visits_steady turns more h h' [] s = refl
  visits_steady turns more h h' (t ∷ ts) s =
      ap (visits turns code line p ts) (steady turns more t s (suits_twice turns t s h) (suits_twice more t s h'))
      ∙ visits_steady turns more h h' ts (visit more code line p t s)

run_steady : (code : List Place) (line : List ℕ) → AllForward 0 code → (turns more : ℕ) → 2 * length code < turns → 2 * length code < more
    → (positions p : ℕ) (ts : List Thread) (steps : ℕ) → run positions turns code line p ts steps ≡ run positions more code line p ts steps
run_steady code line forward turns more h h' zero p ts steps = refl
run_steady code line forward turns more h h' (suc positions) p ts steps =
    let s : State = visits more code line p ts (fresh steps) in
    ap (λ (x : State). settle (run positions turns code line (suc p)) x.won x.carried x.steps)
    (visits_steady code line p forward turns more h h' ts (fresh steps))
    ∙ settled (run_steady code line forward turns more h h' positions (suc p)) s.won s.carried s.steps
  where
    settled : ((ts : List Thread) (steps : ℕ) → run positions turns code line (suc p) ts steps ≡ run positions more code line (suc p) ts steps)
        → (won : Option Rows) (carried : List Thread) (made : ℕ)
        → settle (run positions turns code line (suc p)) won carried made ≡ settle (run positions more code line (suc p)) won carried made
    settled again (some rows) carried made = refl
    settled again none [] made = refl
    settled again none (t ∷ ts) made = again (t ∷ ts) made

-- The places of a pattern

forward_places : (e : Pattern) (first : ℕ) → AllForward 0 (places_of e first)
forward_places e first =
    let core = written_out e first in
    forward_append 0 (lay core 0 (size core)) (accept ∷ []) (forward_lay core 0 (size core) (omega arith)) (tt, tt)

pub places_forward : (e : Pattern) (first x : ℕ) → Forward x (get_or (places_of e first) x stop)
places_forward e first x = subst (λ (q : ℕ). Forward q (get_or (places_of e first) x stop)) (zero-add x) (forward_at 0 (places_of e first) x (forward_places e first))

-- nested visits: from twice the places on, any numbers of turns do the same, for every thread and state
pub visit_turns : (e : Pattern) (first : ℕ) (line : List ℕ) (p turns more : ℕ) (t : Thread) (s : State)
    → suc (2 * all_places e) ≤ turns → suc (2 * all_places e) ≤ more
    → visit turns (places_of e first) line p t s ≡ visit more (places_of e first) line p t s
visit_turns e first line p turns more t s h h' =
    let code = places_of e first in
    steady code line p (forward_places e first) turns more t s
    (suits_twice code line p (forward_places e first) turns t s (omega (arith, length_places e first)))
    (suits_twice code line p (forward_places e first) more t s (omega (arith, length_places e first)))

-- T8, sharper: twice the places are turns enough for the machine
pub machine_nested : (e : Pattern) (first : ℕ) (line : List ℕ) (positions turns : ℕ) → suc (length line) ≤ positions → suc (2 * all_places e) ≤ turns
    → run positions turns (places_of e first) line 0 (at 0 0 no_rows ∷ []) 0 ≡ machine e first line
machine_nested e first line positions turns h h' =
    let more : ℕ = suc (pairs e) + turns in
    run_steady (places_of e first) line (forward_places e first) turns more
    (omega (arith, length_places e first)) (omega (arith, length_places e first)) positions 0 (at 0 0 no_rows ∷ []) 0
    ∙ machine_turns e first line positions more h (omega arith)
