-- One position of the machine is a search of the trees of its threads, in order, that skips a pair seen before. Nothing is lost by that: a pair seen before
-- either was followed wholly, and then what its tree can win something carried before wins, or is still under way, and then its tree would be inside itself.
use Prim.Native.Nat.{ℕ, zero, suc, ◌+◌, ◌<◌, ◌≤◌}
use native.Mathlib.Omega.{arith}
use native.Mathlib.Nat.{le_of_eq}
use mathlib.Core.Path.{◌≡◌, refl, sym, ap, subst, ◌∙◌}
use mathlib.Core.Logic.{◌⊎◌, inl, inr}
use mathlib.Core.Bool.{Bool, true, false, ◌&&◌, ◌||◌}
use mathlib.Core.List.{List, [], ◌∷◌, ◌++◌}
use mathlib.Core.Option.{Option, none, some}
use lib.Dec.{eqb}
use lib.ListN.{length, get_or}
use borrow.Author.Tests.{eqb-true}
use Rattle.paper.specs.Rows.{Rows}
use Rattle.paper.specs.Machine.{
  Place,
  stop,
  Thread,
  at,
  Move,
  move_at,
  Pair,
  State,
  is_seen,
  is_won,
  blocked,
  mark,
  carry,
  stop_with,
  follow,
  arrive,
  visit,
  visits,
}
use Rattle.paper.proofs.reading.First.{before, before_none, before_assoc}
use Rattle.paper.proofs.machine.Tree.{Tree, no_way, choice, act, best, wins, wins_best, height}
use Rattle.paper.proofs.machine.Unfold.{Stands, Unfolds, dies, accepts, carries, splits, goes_on, unfolds_once}
use Rattle.paper.proofs.machine.Unseen.{unseen, unseen_mark}

-- trees that are under way, with one more
abbrev pub Also : Tree → (Tree → Type 0) → Tree → Type 0
Also t underway u = (u ≡ t) ⊎ underway u

-- no tree is under way
abbrev pub none_underway : Tree → Type 0
none_underway t = ⊥

-- a first that is there whenever the second is makes the second idle
before_kept : (a b : Option Rows) → (is_won b ≡ true → is_won a ≡ true) → before a b ≡ a
before_kept none none h = refl
before_kept none (some rows) h = let z : false ≡ true = h refl in cc
before_kept (some rows) b h = refl

won_left : (a b : Option Rows) → is_won a ≡ true → is_won (before a b) ≡ true
won_left none b h = let z : ◌≡◌ {A = ℕ} 0 1 = cc in absurd (omega arith)
won_left (some rows) b h = refl

won_right : (a b : Option Rows) → is_won b ≡ true → is_won (before a b) ≡ true
won_right none b h = h
won_right (some rows) b h = refl

not_won : (o : Option Rows) → is_won o ≡ false → o ≡ none
not_won none h = refl
not_won (some rows) h = let z : ◌≡◌ {A = ℕ} 0 1 = cc in absurd (omega arith)

-- two pairs that are one, or a pair seen before
seen_cases : (b c d : Bool) → ((b && c) || d) ≡ true → ((b ≡ true) × (c ≡ true)) ⊎ (d ≡ true)
seen_cases true true d h = inl (refl, refl)
seen_cases true false d h = inr h
seen_cases false c d h = inr h

or_cases : (b c : Bool) → (b || c) ≡ true → (b ≡ true) ⊎ (c ≡ true)
or_cases true c h = inl refl
or_cases false c h = inr h

-- neither of two tests
pub or_neither : (b c : Bool) → (b || c) ≡ false → (b ≡ false) × (c ≡ false)
or_neither true c h = let z : ◌≡◌ {A = ℕ} 0 1 = cc in absurd (omega arith)
or_neither false c h = (refl, h)

module _ (code : List Place) (line : List ℕ) (deepest : ℕ) where
  -- these threads, taken from a position on, give this
  abbrev pub Gives : ℕ → List Thread → Option Rows → Type 0
  Gives p [] o = o ≡ none
  Gives p (t ∷ ts) o =
      (u : Tree) × (later : Option Rows) × (t.level ≡ 0) × Unfolds code line deepest u p t.place 0
      × (o ≡ before (best u t.rows) later) × Gives p ts later

  -- one thread more, behind the others
  gives_more : (p : ℕ) (ts : List Thread) (o : Option Rows) (t : Tree) (place : ℕ) (rows : Rows) → Gives p ts o
      → Unfolds code line deepest t p place 0 → Gives p (ts ++ (at place 0 rows ∷ [])) (before o (best t rows))
  gives_more p [] o t place rows gives d =
      (t, none, refl, d, ap (λ (a : Option Rows). before a (best t rows)) gives ∙ sym (before_none (best t rows)), refl)
  gives_more p (x ∷ xs) o t place rows gives d =
      let u = gives.0 in
      let later = gives.1 in (
        u,
        before later (best t rows),
        gives.2,
        gives.3,
        ap (λ (a : Option Rows). before a (best t rows)) gives.4 ∙ before_assoc (best u x.rows) later (best t rows),
        gives_more p xs later t place rows gives.5 d,
      )

  -- the pairs not seen yet
  abbrev pub left : State → ℕ
  left s = unseen (length code) deepest s.seen

  -- why a pair may be skipped: its tree wins nothing that is not won without it, or it is under way
  abbrev Covered : ℕ → (Tree → Type 0) → Option Rows → ℕ → ℕ → Type 0
  Covered p underway o place level =
      (u : Tree) × Unfolds code line deepest u p place level × ((wins u ≡ true → is_won o ≡ true) ⊎ underway u)

  -- a state at a position that has come to give this
  pub record Good (p : ℕ) (underway : Tree → Type 0) (s : State) (o : Option Rows) : Type 0 where
    pub later : Option Rows
    pub carried : Gives (suc p) s.carried later
    pub sum : o ≡ before s.won later
    pub last : p ≡ length line → s.carried ≡ []
    pub seen : (place level : ℕ) → is_seen place level s.seen ≡ true → Covered p underway o place level

  -- what a visit does to a state, by the number of turns: it comes to give this, each pair newly seen is one step, and more turns change nothing
  pub record Leads (p : ℕ) (underway : Tree → Type 0) (s : State) (after : ℕ → State) (turns : ℕ) (o : Option Rows) : Type 0 where
    pub good : Good p underway (after turns) o
    pub counted : (after turns).steps + left (after turns) ≡ s.steps + left s
    pub fewer : left (after turns) ≤ left s
    pub same : (more : ℕ) → left s < more → after more ≡ after turns

  module _ (p : ℕ) where
    -- a blocked thread's tree wins nothing new
    blocked_covered : {t : Tree} {place level : ℕ} {underway : Tree → Type 0} {s : State} {o : Option Rows} (rows : Rows)
        → Unfolds code line deepest t p place level → Good p underway s o → ((u : Tree) → underway u → height t < height u)
        → blocked (at place level rows) s ≡ true → wins t ≡ true → is_won o ≡ true
    blocked_covered {t} {place} {level} {underway} {s} {o} rows d good bigger h w =
        by (or_cases (is_won s.won) (is_seen place level s.seen) h)
      where
        twice : Covered p underway o place level → is_won o ≡ true
        twice covered = decide covered.2
          where
            one : covered.0 ≡ t
            one = unfolds_once code line deepest covered.1 d

            decide : ((wins covered.0 ≡ true → is_won o ≡ true) ⊎ underway covered.0) → is_won o ≡ true
            decide (inl c) = c (ap wins one ∙ w)
            decide (inr a) = absurd (omega (arith, bigger covered.0 a, ap height one))

        by : (is_won s.won ≡ true) ⊎ (is_seen place level s.seen ≡ true) → is_won o ≡ true
        by (inl x) = ap is_won good.sum ∙ won_left s.won good.later x
        by (inr x) = twice (good.seen place level x)

    -- a thread marked: its tree is under way
    good_mark : {t : Tree} {place level : ℕ} {underway : Tree → Type 0} {s : State} {o : Option Rows} (rows : Rows)
        → Unfolds code line deepest t p place level → Good p underway s o → Good p (Also t underway) (mark (at place level rows) s) o
    good_mark {t} {place} {level} {underway} {s} {o} rows d good =
        record {
          later = good.later;
          carried = good.carried;
          sum = good.sum;
          last = good.last;
          seen = λ x m h. by x m (seen_cases (eqb place x) (eqb level m) (is_seen x m s.seen) h);
        }
      where
        by : (x m : ℕ) → ((eqb place x ≡ true) × (eqb level m ≡ true)) ⊎ (is_seen x m s.seen ≡ true)
            → Covered p (Also t underway) o x m
        by x m (inl e) = (
          t,
          subst (λ (y : ℕ). Unfolds code line deepest t p y m) (eqb-true place x e.0)
              (subst (λ (l : ℕ). Unfolds code line deepest t p place l) (eqb-true level m e.1) d),
          inr (inl refl),
        )
        by x m (inr h) = let c = good.seen x m h in (c.0, c.1, wider c.2)
          where
            wider : {A : Type 0} {u : Tree} → A ⊎ underway u → A ⊎ Also t underway u
            wider (inl a) = inl a
            wider (inr b) = inr (inr b)

    -- a state changed otherwise than in its pairs: what is won only grows
    good_grown : {underway : Tree → Type 0} {s : State} {o : Option Rows} (s' : State) (o' later : Option Rows) → Good p underway s o
        → s'.seen ≡ s.seen → Gives (suc p) s'.carried later → o' ≡ before s'.won later → (p ≡ length line → s'.carried ≡ [])
        → (is_won o ≡ true → is_won o' ≡ true) → Good p underway s' o'
    good_grown {underway} {s} {o} s' o' later good same gives sum last grows =
        record {
          later = later;
          carried = gives;
          sum = sum;
          last = last;
          seen = λ x m h.
              let c = good.seen x m (subst (λ (l : List Pair). is_seen x m l ≡ true) same h) in
              (c.0, c.1, up c.2);
        }
      where
        up : {u : Tree} → ((wins u ≡ true → is_won o ≡ true) ⊎ underway u) → ((wins u ≡ true → is_won o' ≡ true) ⊎ underway u)
        up (inl a) = inl (λ w. grows (a w))
        up (inr b) = inr b

    -- a thread followed wholly: its tree is under way no more
    good_close : {underway : Tree → Type 0} {s : State} {o : Option Rows} (t : Tree) → Good p (Also t underway) s o
        → (wins t ≡ true → is_won o ≡ true) → Good p underway s o
    good_close {underway} {s} {o} t good covers =
        record {
          later = good.later;
          carried = good.carried;
          sum = good.sum;
          last = good.last;
          seen = λ x m h. let c = good.seen x m h in (c.0, c.1, down c.0 c.2);
        }
      where
        down : (u : Tree) → ((wins u ≡ true → is_won o ≡ true) ⊎ Also t underway u) → ((wins u ≡ true → is_won o ≡ true) ⊎ underway u)
        down u (inl a) = inl a
        down u (inr (inl e)) = inl (λ w. covers (sym (ap wins e) ∙ w))
        down u (inr (inr b)) = inr b

    -- an arrival, given what following the move leads to
    arrived : {t : Tree} {place level : ℕ} {underway : Tree → Type 0} (s : State) (o : Option Rows) (rows : Rows) (turns : ℕ)
        → Unfolds code line deepest t p place level → place < length code → level ≤ deepest
        → Good p underway s o → ((u : Tree) → underway u → height t < height u) → left s < suc turns
        → ((m : State) → Good p (Also t underway) m o → is_won m.won ≡ false → left m < turns
        → Leads p (Also t underway) m
        (λ k. follow (visit k code line p) (at place level rows) (move_at (get_or code place stop) line p level rows) m)
        turns (before o (best t rows)))
        → Leads p underway s (λ k. visit k code line p (at place level rows) s) (suc turns) (before o (best t rows))
    arrived {t} {place} {level} {underway} s o rows turns d inside low good bigger few follows = look (blocked here s) refl
      where
        here : Thread
        here = at place level rows

        won : wins t ≡ true → is_won (best t rows) ≡ true
        won w = wins_best t rows ∙ w

        look : (b : Bool) → blocked here s ≡ b
            → Leads p underway s (λ k. visit k code line p here s) (suc turns) (before o (best t rows))
        look true stopped =
            let idle : before o (best t rows) ≡ o
            = before_kept o (best t rows) (λ w. blocked_covered rows d good bigger stopped (sym (wins_best t rows) ∙ w)) in
            record {
              good = subst (λ (x : State). Good p underway x (before o (best t rows))) (sym (after turns))
                  (subst (λ (a : Option Rows). Good p underway s a) (sym idle) good);
              counted = ap (λ (x : State). x.steps + left x) (after turns);
              fewer = le_of_eq (ap left (after turns));
              same = still;
            }
          where
            after : (k : ℕ) → visit (suc k) code line p here s ≡ s
            after k = ap (λ (b : Bool). arrive (visit k code line p) code line p b here s) stopped

            still : (k : ℕ) → left s < k → visit k code line p here s ≡ visit (suc turns) code line p here s
            still zero h = absurd (omega arith)
            still (suc k) h = after k ∙ sym (after turns)
        look false free =
            record {
              good = subst (λ (x : State). Good p underway x (before o (best t rows))) (sym (after turns))
                  (good_close t led.good (λ w. won_right o (best t rows) (won w)));
              counted = ap (λ (x : State). x.steps + left x) (after turns) ∙ led.counted ∙ omega (arith, one);
              fewer = omega (arith, one, ap left (after turns), led.fewer);
              same = still;
            }
          where
            marked : State
            marked = mark here s

            move : Move
            move = move_at (get_or code place stop) line p level rows

            neither : (is_won s.won ≡ false) × (is_seen place level s.seen ≡ false)
            neither = or_neither (is_won s.won) (is_seen place level s.seen) free

            one : left s ≡ suc (left marked)
            one = unseen_mark (length code) deepest place level s.seen inside low neither.1

            led : Leads p (Also t underway) marked (λ k. follow (visit k code line p) here move marked) turns (before o (best t rows))
            led = follows marked (good_mark rows d good) neither.0 (omega (arith, one))

            after : (k : ℕ) → visit (suc k) code line p here s ≡ follow (visit k code line p) here move marked
            after k = ap (λ (b : Bool). arrive (visit k code line p) code line p b here s) free

            still : (k : ℕ) → left s < k → visit k code line p here s ≡ visit (suc turns) code line p here s
            still zero h = absurd (omega arith)
            still (suc k) h = after k ∙ led.same k (omega (arith, one)) ∙ sym (after turns)

    -- the move at a place is the one that its tree says
    moved : {place level : ℕ} {move : Rows → Move} {underway : Tree → Type 0} (m : State) (o : Option Rows) (rows : Rows) (turns : ℕ)
        → Stands code line deepest p place level move
        → Leads p underway m (λ k. follow (visit k code line p) (at place level rows) (move rows) m) turns o
        → Leads p underway m (λ k. follow (visit k code line p) (at place level rows) (move_at (get_or code place stop) line p level rows) m) turns o
    moved {place} {level} {underway = underway} m o rows turns h led =
        subst (λ (x : Move). Leads p underway m (λ k. follow (visit k code line p) (at place level rows) x m) turns o)
        (sym (h.moves rows)) led

    -- a change that sees no pair and makes no step
    idle : {underway : Tree → Type 0} {m : State} {turns : ℕ} (s : State) (o : Option Rows) → Good p underway s o
        → s.seen ≡ m.seen → s.steps ≡ m.steps → Leads p underway m (λ k. s) turns o
    idle {m = m} s o good seen steps =
        let few : left s ≡ left m = ap (unseen (length code) deepest) seen in
        record { good = good; counted = omega arith; fewer = omega arith; same = λ k h. refl }

    -- two visits, one after the other
    both : {underway : Tree → Type 0} {s : State} {o o' : Option Rows} {turns : ℕ} (first : ℕ → State) (second : ℕ → State → State)
        → Leads p underway s first turns o → Leads p underway (first turns) (λ k. second k (first turns)) turns o'
        → Leads p underway s (λ k. second k (first k)) turns o'
    both {s = s} {turns = turns} first second led led' =
        record {
          good = led'.good;
          counted = led'.counted ∙ led.counted;
          fewer = omega (arith, led.fewer, led'.fewer);
          same = λ k h. ap (second k) (led.same k h) ∙ led'.same k (omega (arith, led.fewer));
        }

    -- what is under way stays bigger
    bigger_still : {underway : Tree → Type 0} (c t : Tree) → height c < height t → ((u : Tree) → underway u → height t < height u)
        → (u : Tree) → Also t underway u → height c < height u
    bigger_still c t less bigger u (inl e) = omega (arith, ap height e)
    bigger_still c t less bigger u (inr a) = omega (arith, bigger u a)

    -- a visit comes to give what the state gave, and behind it what the tree gives
    pub visited : {t : Tree} {place level : ℕ} → Unfolds code line deepest t p place level
        → (turns : ℕ) {underway : Tree → Type 0} (s : State) (o : Option Rows) (rows : Rows)
        → Good p underway s o → ((u : Tree) → underway u → height t < height u) → left s < turns
        → Leads p underway s (λ k. visit k code line p (at place level rows) s) turns (before o (best t rows))
    visited d zero s o rows good bigger few = absurd (omega arith)
    visited (dies h) (suc turns) {underway} s o rows good bigger few =
        arrived s o rows turns (dies h) h.inside h.low good bigger few
        (λ m g free few.
        moved m (before o none) rows turns h
        (idle m (before o none) (subst (λ (a : Option Rows). Good p (Also no_way underway) m a) (sym (before_none o)) g) refl refl))
    visited (accepts h end) (suc turns) s o rows good bigger few =
        arrived s o rows turns (accepts h end) h.inside h.low good bigger few
        (λ m g free few.
        let alone : g.later ≡ none = subst (λ (ts : List Thread). Gives (suc p) ts g.later) (g.last end) g.carried in
        let first : o ≡ none = g.sum ∙ ap (λ (w : Option Rows). before w g.later) (not_won m.won free) ∙ alone in
        moved m (before o (some rows)) rows turns h
        (idle (stop_with rows m) (before o (some rows))
        (good_grown (stop_with rows m) (before o (some rows)) g.later g refl g.carried
        (ap (λ (w : Option Rows). before w (some rows)) first) g.last (won_left o (some rows)))
        refl
        refl))
    visited (carries {t = t} next h inside d) (suc turns) s o rows good bigger few =
        arrived s o rows turns (carries next h inside d) h.inside h.low good bigger few
        (λ m g free few.
        moved m (before o (best t rows)) rows turns h
        (idle (carry next rows m) (before o (best t rows))
        (good_grown (carry next rows m) (before o (best t rows)) (before g.later (best t rows)) g refl
        (gives_more (suc p) m.carried g.later t next rows g.carried d)
        (ap (λ (a : Option Rows). before a (best t rows)) g.sum ∙ before_assoc m.won g.later (best t rows))
        (λ end. absurd (omega arith))
        (won_left o (best t rows)))
        refl
        refl))
    visited {level = level} (splits {a = a} {b = b} x y h c d) (suc turns) {underway} s o rows good bigger few =
        arrived s o rows turns (splits x y h c d) h.inside h.low good bigger few
        (λ m g free few.
        let preferred : ℕ → State = λ k. visit k code line p (at x level rows) m in
        let led : Leads p (Also (choice a b) underway) m preferred turns (before o (best a rows))
        = visited c turns m o rows g (bigger_still a (choice a b) (omega arith) bigger) few in
        let few' : left (preferred turns) < turns = omega (arith, led.fewer) in
        let led' : Leads p (Also (choice a b) underway) (preferred turns) (λ k. visit k code line p (at y level rows) (preferred turns)) turns
        (before (before o (best a rows)) (best b rows))
        = visited d turns (preferred turns) (before o (best a rows)) rows led.good (bigger_still b (choice a b) (omega arith) bigger) few' in
        moved m (before o (before (best a rows) (best b rows))) rows turns h
        (subst (λ (w : Option Rows).
        Leads p (Also (choice a b) underway) m (λ k. visit k code line p (at y level rows) (preferred k)) turns w)
        (before_assoc o (best a rows) (best b rows))
        (both preferred (λ k. visit k code line p (at y level rows)) led led')))
    visited (goes_on {change = change} {t = t} x n h d) (suc turns) s o rows good bigger few =
        arrived s o rows turns (goes_on x n h d) h.inside h.low good bigger few
        (λ m g free few.
        moved m (before o (best t (change rows))) rows turns h
        (visited d turns m o (change rows) g (bigger_still t (act change t) (omega arith) bigger) few))

    -- the threads of a position in order
    pub visited_all : (ts : List Thread) (later : Option Rows) → Gives p ts later → (turns : ℕ) (s : State) (o : Option Rows)
        → Good p none_underway s o → left s < turns → Leads p none_underway s (λ k. visits k code line p ts s) turns (before o later)
    visited_all [] later gives turns s o good few =
        idle s (before o later)
        (subst (λ (a : Option Rows). Good p none_underway s a) (sym (ap (before o) gives ∙ before_none o)) good) refl refl
    visited_all (t ∷ ts) later gives turns s o good few =
        let u = gives.0 in
        let d : Unfolds code line deepest u p t.place t.level
        = subst (λ (l : ℕ). Unfolds code line deepest u p t.place l) (sym gives.2) gives.3 in
        let first : ℕ → State = λ k. visit k code line p t s in
        let led : Leads p none_underway s first turns (before o (best u t.rows))
        = visited d turns s o t.rows good (λ u no. absurd no) few in
        let few' : left (first turns) < turns = omega (arith, led.fewer) in
        let led' = visited_all ts gives.1 gives.5 turns (first turns) (before o (best u t.rows)) led.good few' in
        subst (λ (w : Option Rows). Leads p none_underway s (λ k. visits k code line p ts (first k)) turns w)
        (before_assoc o (best u t.rows) gives.1 ∙ sym (ap (before o) gives.4))
        (both first (λ k. visits k code line p ts) led led')
