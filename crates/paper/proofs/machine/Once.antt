-- A second thread at a place and level that a position has visited before leads to nothing there, so a list of threads can keep each pair once:
-- the first visit leaves the pair seen, or something has won, and neither is ever undone.
use Prim.Native.Nat.{ℕ, zero, suc}
use mathlib.Core.Path.{◌≡◌, refl, sym, ap, ◌∙◌}
use mathlib.Core.Bool.{Bool, true, false, cond, ◌&&◌, ◌||◌}
use mathlib.Core.List.{List, [], ◌∷◌, ◌++◌}
use mathlib.Core.Option.{none}
use lib.Dec.{eqb}
use borrow.Author.Tests.{eqb-true, eq-eqb}
use Rattle.paper.specs.Machine.{Place, Thread, at, Pair, State, Move, die, win, eat, split, lead, is_seen, is_won, blocked, mark, follow, arrive, visit, visits, settle, run, move_at, stop}
use Rattle.paper.specs.Once.{pair_of, pairs_of, once_without, once}

-- ---- one thread more

or_none : (a : Bool) (x y : List Thread) → cond a x y ≡ cond (a || false) x y
or_none true x y = refl
or_none false x y = refl

dropped : (a b c : Bool) → (a ≡ true → b ≡ true) → (x y : List Thread) → cond (b || c) x y ≡ cond (b || (a || c)) x y
dropped true true c h x y = refl
dropped true false c h x y = ap (λ (d : Bool). cond (d || c) x y) (h refl)
dropped false b c h x y = refl

kept : (a b c : Bool) (u : Thread) (x y : List Thread) → u ∷ cond ((a || b) || c) x y ≡ cond (b || (a || c)) (u ∷ x) (u ∷ y)
kept true true c u x y = refl
kept true false c u x y = refl
kept false true c u x y = refl
kept false false true u x y = refl
kept false false false u x y = refl

and_left : (a b : Bool) → (a && b) ≡ true → a ≡ true
and_left true b h = refl
and_left false b h = h

and_right : (a b : Bool) → (a && b) ≡ true → b ≡ true
and_right true b h = h
and_right false b h = cc

-- whether a pair is seen goes by its two numbers
same_seen : (x l y m : ℕ) (ps : List Pair) → (eqb x y && eqb l m) ≡ true → is_seen x l ps ≡ true → is_seen y m ps ≡ true
same_seen x l y m ps e h =
    ap (λ (z : ℕ). is_seen z m ps) (sym (eqb-true x y (and_left (eqb x y) (eqb l m) e)))
    ∙ (ap (λ (z : ℕ). is_seen x z ps) (sym (eqb-true l m (and_right (eqb x y) (eqb l m) e))) ∙ h)

-- a thread behind the others is kept exactly where its pair stands nowhere before
pub once_snoc : (ps : List Pair) (ts : List Thread) (t : Thread)
    → once_without ps (ts ++ (t ∷ []))
    ≡ cond (is_seen t.place t.level ps || is_seen t.place t.level (pairs_of ts)) (once_without ps ts) (once_without ps ts ++ (t ∷ []))
once_snoc ps [] t = or_none (is_seen t.place t.level ps) [] (t ∷ [])
once_snoc ps (u ∷ ts) t = look (is_seen u.place u.level ps) refl (once_snoc ps ts t) (once_snoc (pair_of u ∷ ps) ts t)
  where
    same : Bool
    same = eqb u.place t.place && eqb u.level t.level

    before : Bool
    before = is_seen t.place t.level ps

    among : Bool
    among = is_seen t.place t.level (pairs_of ts)

    look : (b : Bool) → is_seen u.place u.level ps ≡ b
        → once_without ps (ts ++ (t ∷ [])) ≡ cond (before || among) (once_without ps ts) (once_without ps ts ++ (t ∷ []))
        → once_without (pair_of u ∷ ps) (ts ++ (t ∷ []))
        ≡ cond ((same || before) || among) (once_without (pair_of u ∷ ps) ts) (once_without (pair_of u ∷ ps) ts ++ (t ∷ []))
        → cond b (once_without ps (ts ++ (t ∷ []))) (u ∷ once_without (pair_of u ∷ ps) (ts ++ (t ∷ [])))
        ≡ cond (before || (same || among)) (cond b (once_without ps ts) (u ∷ once_without (pair_of u ∷ ps) ts))
        (cond b (once_without ps ts) (u ∷ once_without (pair_of u ∷ ps) ts) ++ (t ∷ []))
    look true e here deeper =
        here ∙ dropped same before among (λ h. same_seen u.place u.level t.place t.level ps h e) (once_without ps ts) (once_without ps ts ++ (t ∷ []))
    look false e here deeper =
        ap (λ (r : List Thread). u ∷ r) deeper
        ∙ kept same before among u (once_without (pair_of u ∷ ps) ts) (once_without (pair_of u ∷ ps) ts ++ (t ∷ []))

-- ---- a pair that is seen, or a winner, stays

-- whether an arrival at this pair is dropped
abbrev pub blocked_at : ℕ → ℕ → State → Bool
blocked_at x l s = is_won s.won || is_seen x l s.seen

or_right : (a b : Bool) → b ≡ true → (a || b) ≡ true
or_right true b h = refl
or_right false b h = h

or_more : (a b c : Bool) → (a || c) ≡ true → (a || (b || c)) ≡ true
or_more true b c h = refl
or_more false true c h = refl
or_more false false c h = h

or_apart : (a b c : Bool) → (a ≡ true → c ≡ true) → (b ≡ true → c ≡ true) → (a || b) ≡ true → c ≡ true
or_apart true b c f g h = f refl
or_apart false b c f g h = g h

follow_keeps : (x l : ℕ) (f : Thread → State → State) → ((t : Thread) (s : State) → blocked_at x l s ≡ true → blocked_at x l (f t s) ≡ true)
    → (t : Thread) (m : Move) (s : State) → blocked_at x l s ≡ true → blocked_at x l (follow f t m s) ≡ true
follow_keeps x l f keeps t die s h = h
follow_keeps x l f keeps t win s h = refl
follow_keeps x l f keeps t (eat next) s h = h
follow_keeps x l f keeps t (split a b) s h =
    keeps (at b t.level t.rows) (f (at a t.level t.rows) s) (keeps (at a t.level t.rows) s h)
follow_keeps x l f keeps t (lead u) s h = keeps u s h

module _ (code : List Place) (line : List ℕ) (p : ℕ) where
  -- the move of a thread at this position
  abbrev pub move_of : Thread → Move
  move_of t = move_at (lib.ListN.get_or code t.place stop) line p t.level t.rows

  -- a visit undoes nothing that is seen or won
  pub visit_keeps : (k x l : ℕ) (t : Thread) (s : State) → blocked_at x l s ≡ true → blocked_at x l (visit k code line p t s) ≡ true
  visit_keeps zero x l t s h = h
  visit_keeps (suc k) x l t s h = look (blocked t s)
      (follow_keeps x l (visit k code line p) (visit_keeps k x l) t (move_of t) (mark t s)
      (or_more (is_won s.won) (eqb t.place x && eqb t.level l) (is_seen x l s.seen) h))
    where
      look : (b : Bool) → blocked_at x l (arrive (visit k code line p) code line p false t s) ≡ true
          → blocked_at x l (arrive (visit k code line p) code line p b t s) ≡ true
      look true e = h
      look false e = e

  -- a blocked arrival changes nothing
  pub visit_blocked : (k : ℕ) (t : Thread) (s : State) → blocked t s ≡ true → visit k code line p t s ≡ s
  visit_blocked zero t s h = refl
  visit_blocked (suc k) t s h = ap (λ (b : Bool). arrive (visit k code line p) code line p b t s) h

  -- after a visit of a pair an arrival there is blocked
  visit_covers : (k : ℕ) (t : Thread) (s : State) → blocked_at t.place t.level (visit (suc k) code line p t s) ≡ true
  visit_covers k t s = look (blocked t s) refl
    where
      marked : blocked_at t.place t.level (mark t s) ≡ true
      marked = or_right (is_won s.won) (is_seen t.place t.level (mark t s).seen)
          (ap (λ (b : Bool). (b && eqb t.level t.level) || is_seen t.place t.level s.seen) (eq-eqb t.place t.place refl)
          ∙ ap (λ (b : Bool). b || is_seen t.place t.level s.seen) (eq-eqb t.level t.level refl))

      look : (b : Bool) → blocked t s ≡ b → blocked_at t.place t.level (arrive (visit k code line p) code line p b t s) ≡ true
      look true e = e
      look false e = follow_keeps t.place t.level (visit k code line p) (visit_keeps k t.place t.level) t (move_of t) (mark t s) marked

  visits_none : (ts : List Thread) (s : State) → visits zero code line p ts s ≡ s
  visits_none [] s = refl
  visits_none (t ∷ ts) s = visits_none ts s

  without : (k : ℕ) (ps : List Pair) (ts : List Thread) (s : State)
      → ((x l : ℕ) → is_seen x l ps ≡ true → blocked_at x l s ≡ true)
      → visits (suc k) code line p (once_without ps ts) s ≡ visits (suc k) code line p ts s
  without k ps [] s covered = refl
  without k ps (t ∷ ts) s covered = look (is_seen t.place t.level ps) refl (without k ps ts s covered)
      (without k (pair_of t ∷ ps) ts (visit (suc k) code line p t s)
      (λ x l. or_apart (eqb t.place x && eqb t.level l) (is_seen x l ps) (blocked_at x l (visit (suc k) code line p t s))
      (λ e. ap (λ (z : ℕ). blocked_at z l (visit (suc k) code line p t s)) (sym (eqb-true t.place x (and_left (eqb t.place x) (eqb t.level l) e)))
      ∙ (ap (λ (z : ℕ). blocked_at t.place z (visit (suc k) code line p t s)) (sym (eqb-true t.level l (and_right (eqb t.place x) (eqb t.level l) e)))
      ∙ visit_covers k t s))
      (λ e. visit_keeps (suc k) x l t s (covered x l e))))
    where
      look : (b : Bool) → is_seen t.place t.level ps ≡ b
          → visits (suc k) code line p (once_without ps ts) s ≡ visits (suc k) code line p ts s
          → visits (suc k) code line p (once_without (pair_of t ∷ ps) ts) (visit (suc k) code line p t s)
          ≡ visits (suc k) code line p ts (visit (suc k) code line p t s)
          → visits (suc k) code line p (cond b (once_without ps ts) (t ∷ once_without (pair_of t ∷ ps) ts)) s
          ≡ visits (suc k) code line p ts (visit (suc k) code line p t s)
      look true e here deeper = here ∙ ap (visits (suc k) code line p ts) (sym (visit_blocked (suc k) t s (covered t.place t.level e)))
      look false e here deeper = deeper

  -- visiting the first thread of each pair is visiting them all
  pub visits_once : (k : ℕ) (ts : List Thread) (s : State) → visits k code line p (once ts) s ≡ visits k code line p ts s
  visits_once zero ts s = visits_none (once ts) s ∙ sym (visits_none ts s)
  visits_once (suc k) ts s = without k [] ts s (λ x l e. cc)

-- running from the first thread of each pair is running from them all: the same answer, rows and steps
pub run_once : (n k : ℕ) (code : List Place) (line : List ℕ) (p : ℕ) (ts : List Thread) (steps : ℕ)
    → run n k code line p (once ts) steps ≡ run n k code line p ts steps
run_once zero k code line p ts steps = refl
run_once (suc n) k code line p ts steps =
    ap (λ (s : State). settle (run n k code line (suc p)) s.won s.carried s.steps)
    (visits_once code line p k ts (record { seen = []; carried = []; won = none; steps = steps }))
