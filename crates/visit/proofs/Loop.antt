-- What holds whenever a visit's loop is at its test, and that each of the ways round keeps it. Each new pair is one entry less without the stamp:
-- that bounds the turns, the steps and the branches that wait.
use Prim.Native.Nat.{ℕ, zero, suc, ◌+◌, ◌*◌, ◌≤◌, ◌<◌, ◌^◌}
use mathlib.Core.Path.{◌≡◌, refl, sym, ap, ◌∙◌, subst, subst₂}
use mathlib.Core.Bool.{Bool, true, false, cond, not}
use mathlib.Core.List.{List, [], ◌∷◌}
use native.Mathlib.Omega.{arith}
use native.Mathlib.Nat.{suc-mul, zero-mul}
use native.Mathlib.Decide.{ℕ_discrete}
use borrow.Author.Tests.{not-true, not-false, ne_eqb}
use lib.Dec.{eqb, eqb-suc-zero}
use lib.ListN.{length, get_or, set, drop, length-set, length-drop}
use lib.Seq.{length-take-le}
use Rattle.paper.specs.Rows.{Rows}
use Rattle.paper.specs.Machine.{Thread, at, State, visit}
use Rattle.paper.specs.Tables.{decode, place_kind_at}
use Rattle.threads.specs.Threads.{lacking, waited, rows_from, Under}
use Rattle.moves.specs.Shows.{AheadIn, Shows, Carried}
use Rattle.moves.specs.Moves.{Slots, level_after, Leads, Settling, Settles}
use Rattle.visit.specs.Wired.{Wired}
use Rattle.visit.specs.Visits.{Arrives, Visits}
use Rattle.threads.proofs.Stamps.{lacking_mark, mark_same, under_mark}
use Rattle.visit.proofs.Cells.{cell_inside, deep_after}
use Rattle.visit.proofs.Waiting.{lacking_low, low_most, low_mark, low_other, reach, Waits, waits_fewer, waited_long, waits_more, Taken, waits_less, waits_none}
use Rattle.std.specs.Prelude.{Option, Some, None}
use Rattle.visit.proofs.Turns.{Stands, Reads, stands_seen, stands_lead, stands_end, stands_settle, stands_won, stands_fork}

-- the same table for as many entries
abbrev pub rewire : {code pattern : List ℕ} {places cells : ℕ} (more : ℕ) → cells ≡ more → Wired code pattern places cells → Wired code pattern places more
rewire {places = places} more e w = record {
  deep = w.deep;
  few = w.few;
  long = w.long;
  room = λ x h. subst (λ (c : ℕ). w.deep x * places + x < c) e (w.room x h);
  follows = w.follows;
  forks = w.forks;
  deeper = w.deeper;
  deeper_other = w.deeper_other;
  raised = w.raised;
  ahead = w.ahead;
  ahead_other = w.ahead_other;
  slots = w.slots;
  ranges = w.ranges;
}

-- ---- how far a branch has come

reach_high : (level x : ℕ) → reach (suc level) x ≡ x
reach_high level x = ap (λ (b : Bool). cond b 0 x) (eqb-suc-zero level)

reach_most : (level x : ℕ) → reach level x ≤ x
reach_most zero x = omega arith
reach_most (suc level) x = omega (arith, reach_high level x)

-- ---- what holds at the loop's test

-- of the tables at entry (₀) and now, of the thread that is next, and of the branches that wait
pub record Turn (code pattern : List ℕ) (ahead : Option ℕ) (places p : ℕ) (seen₀ taken₀ list₀ pending₀ : List ℕ) (x₀ : ℕ) (rows₀ : Rows) (count₀ steps₀ : ℕ)
    (seen taken list pending : List ℕ) (x floor : ℕ) (rows : Rows) (count steps waiting : ℕ) (alive : Bool) : Type 0 where
  pub asked : Arrives code pattern places p x₀ seen₀ taken₀ list₀ pending₀ count₀ steps₀
  pub level : ℕ
  pub waiters : List Thread
  pub inside : x < places
  pub low : level ≤ asked.wired.deep x
  pub rows_long : length rows ≡ 20
  pub floor_is : floor ≡ level * places
  pub long : length seen ≡ length seen₀
  pub pending_long : length pending ≡ length pending₀
  pub under : Under (p + 1) seen
  pub carried : Carried places (p + 1) taken list count
  pub each : steps + lacking (p + 1) seen ≡ steps₀ + lacking (p + 1) seen₀
  pub fewer : lacking (p + 1) seen ≤ lacking (p + 1) seen₀
  pub waits : Waits places asked.wired.deep pending (lacking_low places (p + 1) seen) waiting waiters
  pub bounded : alive ≡ true → waiting + lacking_low places (p + 1) seen ≤ places + reach level x
  pub stands : (line : List ℕ) → AheadIn line p ahead → (k : ℕ) (s : State) → Shows places (p + 1) seen₀ taken₀ list₀ count₀ steps₀ false s → lacking (p + 1) seen₀ < k
      → Stands code pattern line places p seen taken list count steps (cond alive (at x level rows ∷ waiters) waiters)
      (visit k (decode code pattern places) line p (at x₀ 0 rows₀) s)

-- how far the loop can still go
abbrev pub turns : ℕ → List ℕ → ℕ → ℕ
turns p seen waiting = 2 * lacking (p + 1) seen + waiting

never : {A : Type 0} → false ≡ true → A
never f =
    let one : ◌≡◌ {A = ℕ} 0 1 = ap (λ (b : Bool). cond b 1 0) f in
    absurd (omega arith)

-- it holds at the start
pub turn_first : (code pattern : List ℕ) (ahead : Option ℕ) (places p : ℕ) (seen taken list pending : List ℕ) (x : ℕ) (rows : Rows) (count steps : ℕ)
    → length rows ≡ 20 → Arrives code pattern places p x seen taken list pending count steps
    → Turn code pattern ahead places p seen taken list pending x rows count steps seen taken list pending x 0 rows count steps 0 true
turn_first code pattern ahead places p seen taken list pending x rows count steps rows_long asked = record {
  asked = asked;
  level = 0;
  waiters = [];
  inside = asked.inside;
  low = omega arith;
  rows_long = rows_long;
  floor_is = sym (zero-mul places);
  long = refl;
  pending_long = refl;
  under = asked.under;
  carried = asked.carried;
  each = refl;
  fewer = omega arith;
  waits = tt;
  bounded = λ e. omega (arith, low_most places (p + 1) seen);
  stands = λ line along k s sh h. record { state = s; shows = sh; rest = (k, h, refl) };
}

-- ---- no thread is next

module _ {code pattern : List ℕ} {ahead : Option ℕ} {places p : ℕ} {seen₀ taken₀ list₀ pending₀ : List ℕ} {x₀ : ℕ} {rows₀ : Rows} {count₀ steps₀ : ℕ}
    {seen taken list pending : List ℕ} {x floor : ℕ} {rows : Rows} {count steps waiting : ℕ}
    (t : Turn code pattern ahead places p seen₀ taken₀ list₀ pending₀ x₀ rows₀ count₀ steps₀ seen taken list pending x floor rows count steps waiting false) where
  -- the branches that wait stand in their memory
  pub turn_waiting : 22 * waiting ≤ length pending
  turn_waiting = look waiting t.waiters t.waits
    where
      look : (n : ℕ) (ts : List Thread) → Waits places t.asked.wired.deep pending (lacking_low places (p + 1) seen) n ts → 22 * n ≤ length pending
      look zero ts w = omega arith
      look (suc n) [] w = absurd w
      look (suc n) (u ∷ ts) w =
          omega (arith, w.0.bounded, reach_most u.level u.place, w.0.inside, t.asked.pending_long, t.pending_long)

  -- no branch waits: what the visit promises
  pub turn_last : waiting ≡ 0 → Visits code pattern ahead places p x₀ rows₀ seen₀ taken₀ list₀ count₀ steps₀ seen taken list count steps false
  turn_last none = record {
    under = t.under;
    carried = t.carried;
    each = t.each;
    fewer = t.fewer;
    shows = λ line along k s sh h.
        let final = visit k (decode code pattern places) line p (at x₀ 0 rows₀) s in
        let st = subst (λ (ts : List Thread). Stands code pattern line places p seen taken list count steps ts final)
        (waits_none places t.asked.wired.deep pending (lacking_low places (p + 1) seen) waiting t.waiters none t.waits) (t.stands line along k s sh h) in
        subst (Shows places (p + 1) seen taken list count steps false) (sym st.rest) st.shows;
  }

  -- the last branch that waits is next
  pub turn_resume : (waiting' : ℕ) → waiting ≡ waiting' + 1 → (x' floor' : ℕ) (rows' : Rows) → floor' ≡ get_or pending (22 * waiting') 0
      → x' ≡ get_or pending (22 * waiting' + 1) 0 → rows' ≡ rows_from pending (22 * waiting' + 1)
      → Turn code pattern ahead places p seen₀ taken₀ list₀ pending₀ x₀ rows₀ count₀ steps₀ seen taken list pending x' floor' rows' count steps waiting' true
  turn_resume waiting' fewer x' floor' rows' ef ex er =
      let e : waiting ≡ suc waiting' = omega arith in
      let b : Taken places t.asked.wired.deep pending (lacking_low places (p + 1) seen) waiting' t.waiters =
      waits_less places t.asked.wired.deep pending (lacking_low places (p + 1) seen) waiting' t.waiters
      (subst (λ (n : ℕ). Waits places t.asked.wired.deep pending (lacking_low places (p + 1) seen) n t.waiters) e t.waits) in
      let w = b.waiter in
      let place_is : x' ≡ b.thread.place = ex ∙ w.place_is in
      let rows_are : rows' ≡ b.thread.rows = er ∙ w.rows_are in
      record {
        asked = t.asked;
        level = b.thread.level;
        waiters = b.others;
        inside = subst (λ (y : ℕ). y < places) (sym place_is) w.inside;
        low = subst (λ (y : ℕ). b.thread.level ≤ t.asked.wired.deep y) (sym place_is) w.low;
        rows_long = ap length er ∙ length-take-le 20 (drop (22 * waiting' + 1 + 1) pending) (omega (arith, turn_waiting, length-drop (22 * waiting' + 1 + 1) pending));
        floor_is = ef ∙ w.floor_is;
        long = t.long;
        pending_long = t.pending_long;
        under = t.under;
        carried = t.carried;
        each = t.each;
        fewer = t.fewer;
        waits = b.waits;
        bounded = λ e. subst (λ (y : ℕ). waiting' + lacking_low places (p + 1) seen ≤ places + reach b.thread.level y) (sym place_is) w.bounded;
        stands = λ line along k s sh h.
            let final = visit k (decode code pattern places) line p (at x₀ 0 rows₀) s in
            subst₂ (λ (y : ℕ) (r : Rows). Stands code pattern line places p seen taken list count steps (at y b.thread.level r ∷ b.others) final)
            (sym place_is) (sym rows_are)
            (subst (λ (ts : List Thread). Stands code pattern line places p seen taken list count steps ts final) b.all_are (t.stands line along k s sh h));
      }

-- ---- a thread is next

module _ {code pattern : List ℕ} {ahead : Option ℕ} {places p : ℕ} {seen₀ taken₀ list₀ pending₀ : List ℕ} {x₀ : ℕ} {rows₀ : Rows} {count₀ steps₀ : ℕ}
    {seen taken list pending : List ℕ} {x floor : ℕ} {rows : Rows} {count steps waiting : ℕ}
    (t : Turn code pattern ahead places p seen₀ taken₀ list₀ pending₀ x₀ rows₀ count₀ steps₀ seen taken list pending x floor rows count steps waiting true) where
  -- the pair's entry is inside
  pub turn_cell : floor + x < length seen
  turn_cell = omega (arith, cell_inside t.asked.wired x t.level t.inside t.low, t.long, t.floor_is)

  -- and another level's entries can be counted
  pub turn_floor : floor + places < 2 ^ 64
  turn_floor = omega (arith, turn_cell, t.long, t.asked.cells, t.asked.wired.few)

  -- the place's numbers are inside
  pub turn_numbers : 4 * x + 3 < length code
  turn_numbers = omega (arith, t.asked.wired.long, t.inside)

  module _ (seen' : List ℕ) (fresh : Bool)
      (was : (fresh ≡ not (eqb (get_or seen (floor + x) 0) (p + 1))) × (seen' ≡ set seen (floor + x) (p + 1))) where
    -- the entry by level and place
    cell : (fresh ≡ not (eqb (get_or seen (t.level * places + x) 0) (p + 1))) × (seen' ≡ set seen (t.level * places + x) (p + 1))
    cell = subst (λ (f : ℕ). (fresh ≡ not (eqb (get_or seen (f + x) 0) (p + 1))) × (seen' ≡ set seen (f + x) (p + 1))) t.floor_is was

    room : t.level * places + x < length seen
    room = omega (arith, turn_cell, t.floor_is)

    marked_long : length seen' ≡ length seen₀
    marked_long = ap length was.1 ∙ (length-set seen (floor + x) (p + 1) ∙ t.long)

    marked_under : Under (p + 1) seen'
    marked_under = subst (Under (p + 1)) (sym was.1) (under_mark (p + 1) seen (floor + x) t.under)

    same_seen : fresh ≡ false → seen' ≡ seen
    same_seen e = was.1 ∙ mark_same (p + 1) seen (floor + x) (not-false (eqb (get_or seen (floor + x) 0) (p + 1)) (sym was.0 ∙ e))

    -- the pair was seen: the thread has come to its end
    pub turn_seen : fresh ≡ false
        → Turn code pattern ahead places p seen₀ taken₀ list₀ pending₀ x₀ rows₀ count₀ steps₀ seen' taken list pending x floor rows count steps waiting false
    turn_seen e =
        let same : seen' ≡ seen = same_seen e in
        let amount : lacking (p + 1) seen' ≡ lacking (p + 1) seen = ap (lacking (p + 1)) same in
        record {
          asked = t.asked;
          level = t.level;
          waiters = t.waiters;
          inside = t.inside;
          low = t.low;
          rows_long = t.rows_long;
          floor_is = t.floor_is;
          long = marked_long;
          pending_long = t.pending_long;
          under = marked_under;
          carried = t.carried;
          each = omega (arith, t.each);
          fewer = omega (arith, t.fewer);
          waits = subst (λ (table : List ℕ). Waits places t.asked.wired.deep pending (lacking_low places (p + 1) table) waiting t.waiters) (sym same) t.waits;
          bounded = λ f. never f;
          stands = λ line along k s sh h.
              let final = visit k (decode code pattern places) line p (at x₀ 0 rows₀) s in
              subst (λ (table : List ℕ). Stands code pattern line places p table taken list count steps t.waiters final) (sym cell.1)
              (stands_seen code pattern line places p seen taken list count steps x t.level rows t.waiters final t.inside room fresh cell.0
              (t.stands line along k s sh h) e);
        }

    -- no more pairs lack the stamp than did
    pub fewer_marked : lacking (p + 1) seen' ≤ lacking (p + 1) seen
    fewer_marked = look fresh refl
      where
        look : (b : Bool) → fresh ≡ b → lacking (p + 1) seen' ≤ lacking (p + 1) seen
        look true e = omega (arith, lacking_mark (p + 1) seen (floor + x) turn_cell (not-true (eqb (get_or seen (floor + x) 0) (p + 1)) (sym was.0 ∙ e)), ap (lacking (p + 1)) was.1)
        look false e = omega (arith, ap (lacking (p + 1)) (same_seen e))

    module _ (new : fresh ≡ true) where
      unstamped : eqb (get_or seen (floor + x) 0) (p + 1) ≡ false
      unstamped = not-true (eqb (get_or seen (floor + x) 0) (p + 1)) (sym was.0 ∙ new)

      -- one entry less without the stamp
      marked_lacking : suc (lacking (p + 1) seen') ≡ lacking (p + 1) seen
      marked_lacking = ap (λ (table : List ℕ). suc (lacking (p + 1) table)) was.1 ∙ lacking_mark (p + 1) seen (floor + x) turn_cell unstamped

      -- on level 0 also among the first
      low_less : t.level ≡ 0 → suc (lacking_low places (p + 1) seen') ≡ lacking_low places (p + 1) seen
      low_less e =
          let none : floor ≡ 0 = t.floor_is ∙ (ap (λ (l : ℕ). l * places) e ∙ zero-mul places) in
          ap (λ (table : List ℕ). suc (lacking_low places (p + 1) table)) was.1
          ∙ low_mark places (p + 1) seen (floor + x) (omega (arith, t.inside)) turn_cell unstamped

      -- and above it not
      low_same : (l : ℕ) → t.level ≡ suc l → lacking_low places (p + 1) seen' ≡ lacking_low places (p + 1) seen
      low_same l e =
          let high : floor ≡ suc l * places = t.floor_is ∙ ap (λ (m : ℕ). m * places) e in
          ap (lacking_low places (p + 1)) was.1 ∙ low_other places (p + 1) seen (floor + x) (omega (arith, suc-mul l places))

      -- what the bound becomes: a step on level 0 makes room for one branch, and a step above it leads ahead
      bounded_on : (l y : ℕ) → t.level ≡ l → x < y → suc (waiting + lacking_low places (p + 1) seen') ≤ places + reach l y
      bounded_on zero y e h =
          let was-bounded : waiting + lacking_low places (p + 1) seen ≤ places + reach 0 x =
          subst (λ (l : ℕ). waiting + lacking_low places (p + 1) seen ≤ places + reach l x) e (t.bounded refl) in
          omega (arith, low_less e)
      bounded_on (suc l) y e h =
          let was-bounded : waiting + lacking_low places (p + 1) seen ≤ places + reach (suc l) x =
          subst (λ (l : ℕ). waiting + lacking_low places (p + 1) seen ≤ places + reach l x) e (t.bounded refl) in
          omega (arith, low_same l e, reach_high l x, reach_high l y)

      low_fewer : lacking_low places (p + 1) seen' ≤ lacking_low places (p + 1) seen
      low_fewer = look t.level refl
        where
          look : (l : ℕ) → t.level ≡ l → lacking_low places (p + 1) seen' ≤ lacking_low places (p + 1) seen
          look zero e = omega (arith, low_less e)
          look (suc l) e = omega (arith, low_same l e)

      waits_on : Waits places t.asked.wired.deep pending (lacking_low places (p + 1) seen') waiting t.waiters
      waits_on =
          waits_fewer places t.asked.wired.deep pending (lacking_low places (p + 1) seen) (lacking_low places (p + 1) seen') waiting t.waiters low_fewer t.waits

      -- a step more can be counted
      pub turn_countable : steps + 1 < 2 ^ 32
      turn_countable = omega (arith, marked_lacking, t.each, t.asked.countable)

      -- the loop gets shorter, if at most one branch more waits
      pub less_new : (waiting' : ℕ) → waiting' ≤ waiting + 1 → turns p seen' waiting' < turns p seen waiting
      less_new waiting' h = omega (arith, marked_lacking)

      module _ (kind next a n : ℕ) (read : Reads code x kind next a n) where
        next_inside : kind < 8 → next < places
        next_inside h = subst (λ (y : ℕ). y < places) (sym read.1) (t.asked.wired.follows x t.inside (omega (arith, read.0)))

        next_ahead : kind < 5 → x < next
        next_ahead h = subst (λ (y : ℕ). x < y) (sym read.1) (t.asked.wired.ahead x t.inside (omega (arith, read.0)))

        -- what the places of each kind ask
        pub lead_slots : Slots kind a n
        lead_slots =
            subst (λ (k : ℕ). Slots k a n) (sym read.0)
            (subst₂ (λ (b m : ℕ). Slots (place_kind_at code x) b m) (sym read.2) (sym read.3) (t.asked.wired.slots x t.inside))

        -- a floor of 0 is that of level 0
        level_zero : (l : ℕ) → t.level ≡ l → floor ≡ 0 → t.level ≡ 0
        level_zero zero e none = e
        level_zero (suc l) e none =
            let high : floor ≡ suc l * places = t.floor_is ∙ ap (λ (m : ℕ). m * places) e in
            absurd (omega (arith, suc-mul l places, t.inside))

        -- where a place leads on, the bound holds again
        bounded_lead : 0 < kind → kind < 6 → (floor' : ℕ) (rows' : Rows) → Leads kind a n p places floor rows (Some floor') rows'
            → waiting + lacking_low places (p + 1) seen' ≤ places + reach (level_after kind t.level) next
        bounded_lead lo hi floor' rows' made = five (ℕ_discrete kind 5)
          where
            four : (kind ≡ 5 → ⊥) → Dec (kind ≡ 4) → waiting + lacking_low places (p + 1) seen' ≤ places + reach (level_after kind t.level) next
            four n5 (yes e) =
                let after : level_after kind t.level ≡ suc t.level = ap (λ (k : ℕ). level_after k t.level) e ∙ omega arith in
                subst (λ (l : ℕ). waiting + lacking_low places (p + 1) seen' ≤ places + reach l next) (sym after)
                (omega (arith, bounded_on t.level next refl (next_ahead (omega arith)), reach_most t.level next, reach_high t.level next))
            four n5 (no n4) =
                let after : level_after kind t.level ≡ t.level =
                ap (λ (b : Bool). cond b 0 (cond (eqb kind 4) (t.level + 1) t.level)) (ne_eqb kind 5 n5)
                ∙ ap (λ (b : Bool). cond b (t.level + 1) t.level) (ne_eqb kind 4 n4) in
                subst (λ (l : ℕ). waiting + lacking_low places (p + 1) seen' ≤ places + reach l next) (sym after)
                (omega (arith, bounded_on t.level next refl (next_ahead (omega arith))))

            five : Dec (kind ≡ 5) → waiting + lacking_low places (p + 1) seen' ≤ places + reach (level_after kind t.level) next
            five (yes e) =
                let bottom : t.level ≡ 0 = level_zero t.level refl (made.ends e refl) in
                subst (λ (k : ℕ). waiting + lacking_low places (p + 1) seen' ≤ places + reach (level_after k t.level) next) (sym e)
                (omega (arith, bounded_on 0 (suc x) bottom (omega arith)))
            five (no n5) = four n5 (ℕ_discrete kind 4)

        pub turn_lead : 0 < kind → kind < 6 → (floor' : ℕ) (rows' : Rows) → Leads kind a n p places floor rows (Some floor') rows'
            → Turn code pattern ahead places p seen₀ taken₀ list₀ pending₀ x₀ rows₀ count₀ steps₀ seen' taken list pending next floor' rows' count (steps + 1) waiting true
        turn_lead lo hi floor' rows' made = record {
          asked = t.asked;
          level = level_after kind t.level;
          waiters = t.waiters;
          inside = next_inside (omega arith);
          low =
              subst₂ (λ (k y : ℕ). level_after k t.level ≤ t.asked.wired.deep y) (sym read.0) (sym read.1)
              (deep_after t.asked.wired x t.level t.inside t.low (omega (arith, read.0)) (omega (arith, read.0)));
          rows_long = made.same_long ∙ t.rows_long;
          floor_is = made.raises t.level t.floor_is;
          long = marked_long;
          pending_long = t.pending_long;
          under = marked_under;
          carried = t.carried;
          each = omega (arith, marked_lacking, t.each);
          fewer = omega (arith, marked_lacking, t.fewer);
          waits = waits_on;
          bounded = λ e. bounded_lead lo hi floor' rows' made;
          stands = λ line along k s sh h.
              let final = visit k (decode code pattern places) line p (at x₀ 0 rows₀) s in
              let ts = at next (level_after kind t.level) rows' ∷ t.waiters in
              subst (λ (table : List ℕ). Stands code pattern line places p table taken list count (steps + 1) ts final) (sym cell.1)
              (stands_lead code pattern line places p seen taken list count steps x t.level rows t.waiters final t.inside room fresh cell.0
              (t.stands line along k s sh h) new kind next a n read floor t.floor_is floor' rows' made);
        }

        -- a thread that has come to its end, with what is carried then
        module _ (taken' list' : List ℕ) (count' : ℕ)
            (kept : Carried places (p + 1) taken' list' count') where
          turn_over : ((line : List ℕ) → AheadIn line p ahead → (k : ℕ) (s : State) → Shows places (p + 1) seen₀ taken₀ list₀ count₀ steps₀ false s → lacking (p + 1) seen₀ < k
              → Stands code pattern line places p (set seen (t.level * places + x) (p + 1)) taken' list' count' (steps + 1) t.waiters
              (visit k (decode code pattern places) line p (at x₀ 0 rows₀) s))
              → Turn code pattern ahead places p seen₀ taken₀ list₀ pending₀ x₀ rows₀ count₀ steps₀ seen' taken' list' pending x floor rows count' (steps + 1) waiting false
          turn_over standing = record {
            asked = t.asked;
            level = t.level;
            waiters = t.waiters;
            inside = t.inside;
            low = t.low;
            rows_long = t.rows_long;
            floor_is = t.floor_is;
            long = marked_long;
            pending_long = t.pending_long;
            under = marked_under;
            carried = kept;
            each = omega (arith, marked_lacking, t.each);
            fewer = omega (arith, marked_lacking, t.fewer);
            waits = waits_on;
            bounded = λ f. never f;
            stands = λ line along k s sh h.
                subst (λ (table : List ℕ). Stands code pattern line places p table taken' list' count' (steps + 1) t.waiters
                (visit k (decode code pattern places) line p (at x₀ 0 rows₀) s)) (sym cell.1) (standing line along k s sh h);
          }

        -- an end above level 0
        pub turn_end : (rows' : Rows) → Leads kind a n p places floor rows None rows'
            → Turn code pattern ahead places p seen₀ taken₀ list₀ pending₀ x₀ rows₀ count₀ steps₀ seen' taken list pending x floor rows count (steps + 1) waiting false
        turn_end rows' made =
            turn_over taken list count t.carried
            (λ line along k s sh h.
            stands_end code pattern line places p seen taken list count steps x t.level rows t.waiters (visit k (decode code pattern places) line p (at x₀ 0 rows₀) s)
            t.inside room fresh cell.0 (t.stands line along k s sh h) new kind next a n read floor t.floor_is rows' made)

        pub settle_asked : 6 ≤ kind → Settling pattern p kind next a n taken list count
        settle_asked lo = record {
          last = lo;
          early = t.asked.early;
          few = omega (arith, t.carried.taken_long, t.asked.wired.few);
          inside = λ h. omega (arith, next_inside h, t.carried.taken_long);
          ranges = λ e. omega (arith, t.asked.wired.ranges x t.inside (sym read.0 ∙ e), read.2, read.3);
          carried = subst (λ (m : ℕ). Carried m (p + 1) taken list count) (sym t.carried.taken_long) t.carried;
        }

        module _ (taken' list' : List ℕ) (count' : ℕ) where
          -- a place that leads nowhere at once
          pub turn_settle : Settles pattern ahead p kind next a n rows taken list count taken' list' count' false
              → Turn code pattern ahead places p seen₀ taken₀ list₀ pending₀ x₀ rows₀ count₀ steps₀ seen' taken' list' pending x floor rows count' (steps + 1) waiting false
          turn_settle made =
              turn_over taken' list' count' (subst (λ (m : ℕ). Carried m (p + 1) taken' list' count') t.carried.taken_long made.carried)
              (λ line along k s sh h.
              stands_settle code pattern line places p seen taken list count steps x t.level rows t.waiters (visit k (decode code pattern places) line p (at x₀ 0 rows₀) s)
              t.inside room fresh cell.0 (t.stands line along k s sh h) new kind next a n read along taken' list' count' made)

          -- a thread wins: what the visit promises
          pub turn_won : Settles pattern ahead p kind next a n rows taken list count taken' list' count' true
              → Visits code pattern ahead places p x₀ rows₀ seen₀ taken₀ list₀ count₀ steps₀ seen' taken' list' count' (steps + 1) true
          turn_won made = record {
            under = marked_under;
            carried = subst (λ (m : ℕ). Carried m (p + 1) taken' list' count') t.carried.taken_long made.carried;
            each = omega (arith, marked_lacking, t.each);
            fewer = omega (arith, marked_lacking, t.fewer);
            shows = λ line along k s sh h.
                let final = visit k (decode code pattern places) line p (at x₀ 0 rows₀) s in
                subst (λ (table : List ℕ). Shows places (p + 1) table taken' list' count' (steps + 1) true final) (sym cell.1)
                (stands_won code pattern line places p seen taken list count steps x t.level rows t.waiters final t.inside room fresh cell.0
                (t.stands line along k s sh h) new kind next a n read along taken' list' count' made);
          }

        module _ (forks : kind ≡ 0) where
          other_inside : a < places
          other_inside = subst (λ (y : ℕ). y < places) (sym read.2) (t.asked.wired.forks x t.inside (sym read.0 ∙ forks))

          other_ahead : x < a
          other_ahead = subst (λ (y : ℕ). x < y) (sym read.2) (t.asked.wired.ahead_other x t.inside (sym read.0 ∙ forks))

          -- there is room for one branch more
          pub fork_asked : (22 * waiting + 22 ≤ length pending) × (floor < 2 ^ 16) × (a < 2 ^ 16)
          fork_asked = (
            omega (arith, bounded_on t.level a refl other_ahead, reach_most t.level a, other_inside, t.asked.pending_long, t.pending_long),
            omega (arith, turn_cell, t.long, t.asked.cells),
            omega (arith, other_inside, t.asked.wired.few),
          )

          pub turn_fork : (pending' : List ℕ) (waiting' : ℕ) → (pending' ≡ waited pending waiting floor a rows) × (waiting' ≡ waiting + 1)
              → Turn code pattern ahead places p seen₀ taken₀ list₀ pending₀ x₀ rows₀ count₀ steps₀
              seen' taken list pending' next floor rows count (steps + 1) waiting' true
          turn_fork pending' waiting' pushed =
              let deep-next : t.level ≤ t.asked.wired.deep next =
              subst (λ (y : ℕ). t.level ≤ t.asked.wired.deep y) (sym read.1) (omega (arith, t.asked.wired.deeper x t.inside (omega (arith, read.0)), t.low)) in
              let deep-other : t.level ≤ t.asked.wired.deep a =
              subst (λ (y : ℕ). t.level ≤ t.asked.wired.deep y) (sym read.2)
              (omega (arith, t.asked.wired.deeper_other x t.inside (sym read.0 ∙ forks), t.low)) in
              let one_more : suc waiting ≡ waiting' = omega arith in
              record {
                asked = t.asked;
                level = t.level;
                waiters = at a t.level rows ∷ t.waiters;
                inside = next_inside (omega arith);
                low = deep-next;
                rows_long = t.rows_long;
                floor_is = t.floor_is;
                long = marked_long;
                pending_long = ap length pushed.0 ∙ (waited_long pending waiting floor a rows t.rows_long fork_asked.0 ∙ t.pending_long);
                under = marked_under;
                carried = t.carried;
                each = omega (arith, marked_lacking, t.each);
                fewer = omega (arith, marked_lacking, t.fewer);
                waits =
                    subst₂ (λ (m : List ℕ) (n : ℕ). Waits places t.asked.wired.deep m (lacking_low places (p + 1) seen') n (at a t.level rows ∷ t.waiters))
                    (sym pushed.0) one_more
                    (waits_more pending waiting floor a rows t.rows_long fork_asked.0 places t.asked.wired.deep
                    (lacking_low places (p + 1) seen) (lacking_low places (p + 1) seen')
                    t.level t.waiters low_fewer t.floor_is other_inside deep-other (omega (arith, bounded_on t.level a refl other_ahead)) t.waits);
                bounded = λ e. omega (arith, one_more, bounded_on t.level next refl (next_ahead (omega arith)));
                stands = λ line along k s sh h.
                    let final = visit k (decode code pattern places) line p (at x₀ 0 rows₀) s in
                    let ts = at next t.level rows ∷ at a t.level rows ∷ t.waiters in
                    subst (λ (table : List ℕ). Stands code pattern line places p table taken list count (steps + 1) ts final) (sym cell.1)
                    (stands_fork code pattern line places p seen taken list count steps x t.level rows t.waiters final t.inside room fresh cell.0
                    (t.stands line along k s sh h) new kind next a n read forks);
              }
