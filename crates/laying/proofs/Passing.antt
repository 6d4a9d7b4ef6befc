-- The passes of a repeat, one after another: each copies the inner part that stands already, so that part goes on to stand until the last pass is laid.
use Prim.Native.Nat.{ℕ, ◌+◌, ◌-◌, ◌≤◌}
use mathlib.Core.Path.{◌≡◌, refl, sym, ap, subst, ◌∙◌}
use mathlib.Core.Bool.{Bool, true, false, cond}
use mathlib.Core.List.{List}
use native.Mathlib.Omega.{arith}
use lib.ListN.{length}
use Rattle.paper.specs.Check.{mode_of}
use Rattle.paper.specs.Machine.{Core, size, pass_fork, ending}
use Rattle.paper.specs.Tables.{place_of}
use Rattle.laying.specs.Room.{most_places}
use Rattle.pattern.specs.Walk.{pass_places}
use Rattle.laying.specs.Laid.{Holds, Kept, entry_of, Lays}
use Rattle.laying.specs.Single.{Fitting, Put, Forked}
use Rattle.laying.specs.Copies.{Model, in_place, ahead, Copied}
use Rattle.laying.specs.Repeats.{pass_core, inner_start, Begun, BegunLaid, Repeating, PassesLaid, PassesLeft}
use Rattle.laying.proofs.Stores.{plain_holds, holds_kept, lays_kept, lays_behind, kept_none, kept_both}
use Rattle.laying.proofs.Entering.{entry_some, entry_small, entering_fits, entry_same, passes_some, passes_none, places_must, places_may, inner_must, inner_may, core_must, core_none, core_star, core_maybe, must_lays, maybe_lays, star_lays, end_small}
use Rattle.laying.proofs.Copying.{copy_lays}
use Rattle.laying.proofs.Sizes.{pass_size}
use Rattle.laying.proofs.Single.{head_stands}

-- where what is copied stands, by another name
model_as : {model p wanted wanted' base : ℕ} → Model model p wanted base → wanted ≡ wanted' → Model model p wanted' base
model_as (in_place same) e = in_place (same ∙ e)
model_as (ahead first) e = ahead first

-- and before a later index
model_later : {model p wanted base base' : ℕ} → Model model p wanted base → base ≤ base' → Model model p wanted base'
model_later (in_place same) le = in_place same
model_later (ahead first) le = ahead (omega arith)

-- it ends no later than where it is wanted
model_ends : {model p wanted base : ℕ} → Model model p wanted base → base ≤ wanted → model + p ≤ wanted + p
model_ends (in_place same) le = omega arith
model_ends (ahead first) le = omega arith

-- it goes on to stand where a place before the wanted one is written
model_apart : {model p wanted base low high : ℕ} {t t1 : List ℕ} (e : Core) (bs : List ℕ) (next : ℕ) → p ≡ size e → Model model p wanted base → base ≤ low
    → high ≤ wanted → Kept low high t t1 → Lays t bs e model next → Lays t1 bs e model next
model_apart e bs next ep (in_place same) lo hi k = lays_behind e bs _ next k (omega arith)
model_apart e bs next ep (ahead first) lo hi k = lays_kept e bs _ next k (omega arith)

-- `begun`: its head fits
pub begin_fits : {model p kind first g base next v : ℕ} {t : List ℕ} → Begun model p kind first g base next → 2040 ≤ length t → v ≡ entry_of p (base + 1) next
    → Fitting t base v first g
begin_fits {p = p} {base = base} {next = next} m = entering_fits p base next m.room m.follows m.head

-- the head and the copy
pub begun_laid : {model p kind first g base next v : ℕ} {t t1 t2 : List ℕ} → Begun model p kind first g base next → v ≡ entry_of p (base + 1) next
    → Put t base kind v first g t1 → Copied model p (base + 1) next p t1 t2 → BegunLaid model p kind first g base next t t2
begun_laid {p = p} {base = base} m ev put copy =
    record {
      kept = kept_both base (base + 1 + p) put.kept copy.kept (omega arith) (omega arith) (omega arith) (omega arith);
      head = λ bs. holds_kept copy.kept (omega arith) (head_stands bs ev m.head put);
      laid = λ bs e ep there. copy_lays copy bs e ep (model_apart e bs _ ep m.stands (omega arith) (omega arith) put.kept there);
    }

-- the head, where what would be copied stands already and leads where it should
pub begun_there : {model p kind first g base next v : ℕ} {t t1 : List ℕ} → Begun model p kind first g base next → v ≡ entry_of p (base + 1) next
    → Put t base kind v first g t1 → model ≡ base + 1 → next ≡ base + 1 + p → BegunLaid model p kind first g base next t t1
begun_there {p = p} {base = base} {t1 = t1} m ev put here leads =
    record {
      kept = kept_both base (base + 1 + p) put.kept (kept_none base base t1) (omega arith) (omega arith) (omega arith) (omega arith);
      head = λ bs. head_stands bs ev m.head put;
      laid = λ bs e ep there.
          subst (Lays t1 bs e (base + 1)) (sym leads)
          (subst (λ (x : ℕ). Lays t1 bs e x (x + p)) here (model_apart e bs _ ep m.stands (omega arith) (omega arith) put.kept there));
    }

-- what is copied goes on to stand behind a pass that others follow
model_stays : {model p kind first g base v : ℕ} {t t1 : List ℕ} (e : Core) (bs : List ℕ) → BegunLaid model p kind first g base v t t1
    → Model model p (base + 1) base → p ≡ size e → v ≡ base + 1 + p → Lays t bs e model (model + p) → Lays t1 bs e model (model + p)
model_stays {p = p} {base = base} {t1 = t1} e bs h (in_place same) ep ev there =
    subst (λ (x : ℕ). Lays t1 bs e x (x + p)) (sym same) (subst (Lays t1 bs e (base + 1)) ev (h.laid bs e ep there))
model_stays e bs h (ahead first) ep ev there = lays_kept e bs _ _ h.kept (omega arith) there

-- `passes`, a pass that must be made: the pass, then the rest. What the pass is asked for
pub must_begun : {model p first g least may base next : ℕ} {endless : Bool} (v : ℕ) → Repeating model p first g least may endless base next
    → (least ≡ 0 → ⊥) → v ≡ entry_of (least - 1 + may) (base + 1 + p) next → Begun model p 3 first g base v
must_begun {p = p} {least = least} {may = may} {base = base} {next = next} v m some ev =
    record {
      head = record { no_set = omega arith; a_small = m.first_small; n_small = m.groups_small };
      room = omega (arith, m.room, places_must least may p some);
      follows = omega (arith, ev, entry_small (least - 1 + may) (base + 1 + p) next {most = most_places} (omega (arith, m.room, places_must least may p some)) m.follows);
      stands = model_as m.stands (inner_must least base some);
    }

-- what the rest is asked for
pub must_rest : {model p first g least may base next : ℕ} {endless : Bool} → Repeating model p first g least may endless base next → (least ≡ 0 → ⊥)
    → Repeating model p first g (least - 1) may endless (base + 1 + p) next
must_rest {p = p} {least = least} {may = may} {base = base} m some =
    record {
      first_small = m.first_small;
      groups_small = m.groups_small;
      once = m.once;
      room = omega (arith, m.room, places_must least may p some);
      follows = m.follows;
      stands = ahead (model_ends (model_as m.stands (inner_must least base some)) (omega arith));
    }

-- the pass and the rest lay the passes
pub must_laid : {model p first g least may mode base next v : ℕ} {endless : Bool} {t t1 t2 : List ℕ} → Repeating model p first g least may endless base next
    → (least ≡ 0 → ⊥) → v ≡ entry_of (least - 1 + may) (base + 1 + p) next → BegunLaid model p 3 first g base v t t1
    → PassesLaid model p first g (least - 1) may endless mode (base + 1 + p) next t1 t2 → PassesLaid model p first g least may endless mode base next t t2
must_laid {p = p} {first = first} {g = g} {least = least} {may = may} {mode = mode} {base = base} {next = next} {v = v} {endless = endless} {t2 = t2} m some ev h r =
    record {
      kept = kept_both base (base + pass_places least may p) h.kept r.kept (omega arith) (omega (arith, places_must least may p some))
          (omega arith) (omega (arith, places_must least may p some));
      laid = λ bs e ep given.
          let there = given (λ z. some (omega arith)) in
          let rest = pass_core (least - 1) endless may (mode_of mode) first g e in
          let er : size rest ≡ pass_places (least - 1) may p =
          pass_size (least - 1) endless may (mode_of mode) first g e m.once ∙ ap (pass_places (least - 1) may) (sym ep) in
          let eo : v ≡ entry_of (size rest) (base + 1 + p) next =
          ev
          ∙ entry_same (least - 1 + may) (pass_places (least - 1) may p) (base + 1 + p) next (passes_none (least - 1) may p)
          (passes_some (least - 1) may p)
          ∙ ap (λ (k : ℕ). entry_of k (base + 1 + p) next) (sym er) in
          subst (λ (c : Core). Lays t2 bs c base next) (sym (core_must (mode_of mode) first g e least endless may some))
          (must_lays t2 bs first g e rest base next p v ep eo (holds_kept r.kept (omega arith) (h.head bs))
          (lays_kept e bs (base + 1) v r.kept (omega arith) (h.laid bs e ep there))
          (r.laid bs e ep
          (λ more. model_stays e bs h (model_as m.stands (inner_must least base some)) ep (ev ∙ entry_some (least - 1 + may) (base + 1 + p) next more) there)));
    }

may_inner : (least base : ℕ) → least ≡ 0 → inner_start least base ≡ base + 1 + 1
may_inner least base none = inner_may least base none ∙ omega arith

-- an optional pass: its fork, the pass, its end, then the rest. What the pass is asked for
pub may_begun : {model p first g least may base next : ℕ} {endless : Bool} → Repeating model p first g least may endless base next → least ≡ 0
    → (may ≡ 0 → ⊥) → Begun model p 4 first g (base + 1) (base + 1 + 1 + p)
may_begun {p = p} {least = least} {may = may} {base = base} m none some =
    record {
      head = record { no_set = omega arith; a_small = m.first_small; n_small = m.groups_small };
      room = omega (arith, m.room, places_may least may p none some);
      follows = omega (arith, m.room, places_may least may p none some);
      stands = model_later (model_as m.stands (may_inner least base none)) (omega arith);
    }

-- what the rest is asked for
pub may_rest : {model p first g least may base next : ℕ} {endless : Bool} → Repeating model p first g least may endless base next → least ≡ 0
    → (may ≡ 0 → ⊥) → Repeating model p first g 0 (may - 1) endless (base + 1 + 1 + p + 1) next
may_rest {p = p} {least = least} {may = may} {base = base} m none some =
    record {
      first_small = m.first_small;
      groups_small = m.groups_small;
      once = λ e. omega (arith, m.once e);
      room = omega (arith, m.room, places_may least may p none some);
      follows = m.follows;
      stands = ahead (omega (arith, model_ends (model_as m.stands (may_inner least base none)) (omega arith)));
    }

-- the numbers of its end fit
pub end_fits : {model p first g least may base next v : ℕ} {endless : Bool} {t : List ℕ} → Repeating model p first g least may endless base next → least ≡ 0
    → (may ≡ 0 → ⊥) → v ≡ cond endless base (entry_of (may - 1) (base + 1 + 1 + p + 1) next) → 2040 ≤ length t → Fitting t (base + 1 + 1 + p) v 0 0
end_fits {p = p} {least = least} {may = may} {base = base} {next = next} {endless = endless} m none some ev room =
    let total = places_may least may p none some in
    record {
      room = omega (arith, m.room);
      next_fits = omega (
        arith,
        ev,
        end_small endless (may - 1) base (base + 1 + 1 + p + 1) next {most = 65535} (omega (arith, m.room)) (omega (arith, m.room))
            (omega (arith, m.follows)),
      );
      a_fits = omega arith;
      n_fits = omega arith;
    }

module _ {model p first g least may mode base next v : ℕ} {endless : Bool} {t t1 t2 t3 t4 : List ℕ} (m : Repeating model p first g least may endless base next)
    (none : least ≡ 0) (some : may ≡ 0 → ⊥) (f : Forked t base mode (base + 1) next t1)
    (h : BegunLaid model p 4 first g (base + 1) (base + 1 + 1 + p) t1 t2) (end : Put t2 (base + 1 + 1 + p) 5 v 0 0 t3)
    (r : PassesLaid model p first g 0 (may - 1) endless mode (base + 1 + 1 + p + 1) next t3 t4) where
  may_kept : Kept base (base + pass_places least may p) t t4
  may_kept =
      let e = places_may least may p none some in
      let high = base + pass_places least may p in
      kept_both base high
      (kept_both base high (kept_both base high f.kept h.kept (omega arith) (omega arith) (omega arith) (omega arith)) end.kept (omega arith)
      (omega arith) (omega arith) (omega arith))
      r.kept (omega arith) (omega arith) (omega arith) (omega arith)

  fork_stands : (bs : List ℕ) → Holds t4 bs base (pass_fork (mode_of mode) (base + 1) next)
  fork_stands bs = holds_kept r.kept (omega arith) (holds_kept end.kept (omega arith) (holds_kept h.kept (omega arith) (f.held bs)))

  begin_stands : (bs : List ℕ) → Holds t4 bs (base + 1) (place_of bs 4 (entry_of p (base + 1 + 1) (base + 1 + 1 + p)) first g)
  begin_stands bs = holds_kept r.kept (omega arith) (holds_kept end.kept (omega arith) (h.head bs))

  end_stands : (bs : List ℕ) → Holds t4 bs (base + 1 + 1 + p) (ending v)
  end_stands bs = holds_kept r.kept (omega arith) (plain_holds bs end (omega arith))

  -- what is copied, behind the fork
  copied_fork : (bs : List ℕ) (e : Core) → p ≡ size e → Lays t bs e model (model + p) → Lays t1 bs e model (model + p)
  copied_fork bs e ep = model_apart e bs (model + p) ep (model_as m.stands (may_inner least base none)) (omega arith) (omega arith) f.kept

  pass_stands : (bs : List ℕ) (e : Core) → p ≡ size e → Lays t bs e model (model + p) → Lays t4 bs e (base + 1 + 1) (base + 1 + 1 + p)
  pass_stands bs e ep there =
      lays_kept e bs (base + 1 + 1) (base + 1 + 1 + p) r.kept (omega arith)
      (lays_kept e bs (base + 1 + 1) (base + 1 + 1 + p) end.kept (omega arith) (h.laid bs e ep (copied_fork bs e ep there)))

  -- what is copied, behind the pass
  copied_pass : (bs : List ℕ) (e : Core) → p ≡ size e → Lays t bs e model (model + p) → Lays t3 bs e model (model + p)
  copied_pass bs e ep there =
      let s = model_as m.stands (may_inner least base none) in
      lays_kept e bs model (model + p) end.kept (omega (arith, model_ends s (omega arith)))
      (model_stays e bs h (model_later s (omega arith)) ep (omega arith) (copied_fork bs e ep there))

  -- the fork, the pass, its end and the rest lay the optional passes
  may_lays : (bs : List ℕ) (e : Core) → p ≡ size e → Lays t bs e model (model + p) → (back : Bool) → endless ≡ back
      → v ≡ cond back base (entry_of (may - 1) (base + 1 + 1 + p + 1) next)
      → Lays t4 bs (pass_core least back may (mode_of mode) first g e) base next
  may_lays bs e ep there true is ev =
      subst (λ (c : Core). Lays t4 bs c base next) (sym (core_star (mode_of mode) first g e least may none some))
      (star_lays t4 bs (mode_of mode) first g e base next p ep (fork_stands bs) (begin_stands bs) (pass_stands bs e ep there)
      (subst (λ (v : ℕ). Holds t4 bs (base + 1 + 1 + p) (ending v)) ev (end_stands bs)))
  may_lays bs e ep there false is ev =
      let rest = pass_core 0 false (may - 1) (mode_of mode) first g e in
      let er : size rest ≡ pass_places 0 (may - 1) p =
      pass_size 0 false (may - 1) (mode_of mode) first g e (λ z. omega (arith, m.once (is ∙ z))) ∙ ap (pass_places 0 (may - 1)) (sym ep) in
      let eo : v ≡ entry_of (size rest) (base + 1 + 1 + p + 1) next =
      ev
      ∙ entry_same (may - 1) (pass_places 0 (may - 1) p) (base + 1 + 1 + p + 1) next (λ z. passes_none 0 (may - 1) p (omega arith))
      (λ z. omega (arith, passes_some 0 (may - 1) p z))
      ∙ ap (λ (k : ℕ). entry_of k (base + 1 + 1 + p + 1) next) (sym er) in
      let behind = r.laid bs e ep (λ more. copied_pass bs e ep there) in
      subst (λ (c : Core). Lays t4 bs c base next) (sym (core_maybe (mode_of mode) first g e least may none some))
      (maybe_lays t4 bs (mode_of mode) first g e rest base next p v ep eo (fork_stands bs) (begin_stands bs) (pass_stands bs e ep there) (end_stands bs)
      (subst (λ (b : Bool). Lays t4 bs (pass_core 0 b (may - 1) (mode_of mode) first g e) (base + 1 + 1 + p + 1) next) is behind))

  pub may_laid : v ≡ cond endless base (entry_of (may - 1) (base + 1 + 1 + p + 1) next) → PassesLaid model p first g least may endless mode base next t t4
  may_laid ev =
      record {
        kept = may_kept;
        laid = λ bs e ep given. may_lays bs e ep (given (λ z. some (omega arith))) endless refl ev;
      }

-- no passes are left
pub none_laid : {model p first g least may mode base next : ℕ} {t : List ℕ} (endless : Bool) → least ≡ 0 → may ≡ 0
    → PassesLaid model p first g least may endless mode base next t t
none_laid {p = p} {first = first} {g = g} {least = least} {may = may} {mode = mode} {base = base} {next = next} {t = t} endless none nones =
    record {
      kept = kept_none base (base + pass_places least may p) t;
      laid = λ bs e ep given. subst (λ (c : Core). Lays t bs c base next) (sym (core_none (mode_of mode) first g e least endless may none nones)) tt;
    }

-- a pass that must be made is laid
pub left_must : {model p first g least may mode base next must left from v : ℕ} {endless : Bool} {t0 t t1 : List ℕ}
    → PassesLeft model p first g least may endless mode base next must left from t0 t → (must ≡ 0 → ⊥)
    → v ≡ entry_of (must - 1 + left) (from + 1 + p) next → BegunLaid model p 3 first g from v t t1
    → PassesLeft model p first g least may endless mode base next (must - 1) left (from + 1 + p) t0 t1
left_must i some ev h =
    record {
      asked = must_rest i.asked some;
      same_length = h.kept.same_length ∙ i.same_length;
      all = λ after r. i.all after (must_laid i.asked some ev h r);
    }

-- an optional pass is laid
pub left_may : {model p first g least may mode base next left from v : ℕ} {endless : Bool} {t0 t t1 t2 t3 : List ℕ}
    → PassesLeft model p first g least may endless mode base next 0 left from t0 t → (left ≡ 0 → ⊥)
    → v ≡ cond endless from (entry_of (left - 1) (from + 1 + 1 + p + 1) next) → Forked t from mode (from + 1) next t1
    → BegunLaid model p 4 first g (from + 1) (from + 1 + 1 + p) t1 t2 → Put t2 (from + 1 + 1 + p) 5 v 0 0 t3
    → PassesLeft model p first g least may endless mode base next 0 (left - 1) (from + 1 + 1 + p + 1) t0 t3
left_may i some ev f h end =
    record {
      asked = may_rest i.asked refl some;
      same_length = end.kept.same_length ∙ h.kept.same_length ∙ f.kept.same_length ∙ i.same_length;
      all = λ after r. i.all after (may_laid i.asked refl some f h end r ev);
    }

-- its fork fits
pub left_fork : {model p first g least may mode base next left from : ℕ} {endless : Bool} {t0 t : List ℕ}
    → PassesLeft model p first g least may endless mode base next 0 left from t0 t → (left ≡ 0 → ⊥) → 2040 ≤ length t0 → Fitting t from (from + 1) next 0
left_fork {p = p} {left = left} i some room =
    let total = places_may 0 left p refl some in
    record {
      room = omega (arith, i.asked.room, i.same_length);
      next_fits = omega (arith, i.asked.room);
      a_fits = omega (arith, i.asked.follows);
      n_fits = omega arith;
    }

-- none is left
pub left_none : {model p first g least may mode base next left from : ℕ} {endless : Bool} {t0 t : List ℕ}
    → PassesLeft model p first g least may endless mode base next 0 left from t0 t → left ≡ 0
    → PassesLaid model p first g least may endless mode base next t0 t
left_none {endless = endless} {t = t} i none = i.all t (none_laid endless refl none)
