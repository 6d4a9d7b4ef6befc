-- The loop over a holder's records: those that were found so far, and what is left from here, are what the whole holder holds.
use Prim.Native.Nat.{ℕ, zero, suc, ◌+◌, ◌≤◌, ◌<◌, max}
use mathlib.Core.Path.{◌≡◌, refl, ap, sym, ◌∙◌}
use mathlib.Core.List.{List, [], ◌∷◌, ◌++◌}
use native.Mathlib.Omega.{arith}
use lib.ListN.{length, length-append}
use Rattle.std.proofs.Math.Seq.{append_snoc}
use borrow.Author.Tests.{lt-ltb}
use Rattle.paper.specs.Limits.{pattern_groups}
use Rattle.paper.specs.Refusal.{Checked, refused, accepted, ◌>>=◌}
use Rattle.paper.specs.Pattern.{Pattern, places, depth, groups}
use Rattle.paper.specs.Check.{Walk, body_length, body_start, body_end, walk_all}
use Rattle.pattern.specs.declared.walk.Walked.{Walked}
use Rattle.pattern.specs.Walk.{capped, places_in, depth_in, groups_in, members_of, Counts}

-- the sums over the records of a list and one more
places_more : (es : List Pattern) (e : Pattern) → places_in (es ++ e ∷ []) ≡ places_in es + places e
places_more [] e = omega arith
places_more (a ∷ es) e = omega (arith, places_more es e)

depth_more : (es : List Pattern) (e : Pattern) → depth_in (es ++ e ∷ []) ≡ max (depth_in es) (depth e)
depth_more [] e = omega arith
depth_more (a ∷ es) e = omega (arith, depth_more es e)

groups_more : (es : List Pattern) (e : Pattern) → groups_in (es ++ e ∷ []) ≡ groups_in es + groups e
groups_more [] e = omega arith
groups_more (a ∷ es) e = omega (arith, groups_more es e)

-- more records behind some that were found
abbrev pub behind : List Pattern → Checked (List Pattern) → Checked (List Pattern)
behind done found = found >>= λ es. accepted (done ++ es)

behind_none : (found : Checked (List Pattern)) → behind [] found ≡ found
behind_none (refused number place) = refl
behind_none (accepted es) = refl

behind_one : (done : List Pattern) (e : Pattern) (found : Checked (List Pattern))
    → behind (done ++ e ∷ []) found ≡ behind done (found >>= λ es. accepted (e ∷ es))
behind_one done e (refused number place) = refl
behind_one done e (accepted es) = ap accepted (append_snoc done e es)

-- where the loop stands: at `next`, with what it has counted; `whole` is what the holder holds
pub record Left (walk : Walk) (bs : List ℕ) (stop levels before : ℕ) (whole : Checked (List Pattern)) (next count counted deep total : ℕ) : Type 0 where
  pub turns : ℕ
  pub enough : stop ≤ next + turns
  pub done : List Pattern
  pub same : behind done (walk_all turns walk bs next stop total) ≡ whole
  pub before_stop : next ≤ stop
  pub count_is : count ≡ length done
  pub places_are : counted ≡ capped (places_in done)
  pub depth_is : deep ≡ depth_in done
  pub groups_are : total ≡ before + groups_in done
  pub few_members : count ≤ next
  pub few_levels : deep ≤ levels
  pub few_groups : total ≤ pattern_groups

-- where the loop begins
pub begun : {start stop : ℕ} (walk : Walk) (bs : List ℕ) (at levels before : ℕ) → start ≡ body_start at → stop ≡ body_end bs at → before ≤ pattern_groups
    → Left walk bs stop levels before (members_of walk bs at before) start 0 0 0 before
begun {start} {stop} walk bs at levels before starts ends few = record {
  turns = body_length bs at;
  enough = omega arith;
  done = [];
  same = rw (starts, ends) (behind_none (members_of walk bs at before));
  before_stop = omega arith;
  count_is = refl;
  places_are = refl;
  depth_is = refl;
  groups_are = omega arith;
  few_members = omega arith;
  few_levels = omega arith;
  few_groups = few;
}

module _ {walk : Walk} {bs : List ℕ} {stop levels before : ℕ} {whole : Checked (List Pattern)} {next count counted deep total : ℕ}
    (l : Left walk bs stop levels before whole next count counted deep total) where
  -- a fault in the next one
  pub bad_one : {number place : ℕ} → next < stop → walk next stop total ≡ refused number place → whole ≡ refused number place
  bad_one {number} {place} more q = sym l.same ∙ hit l.turns l.enough where
    hit : (k : ℕ) → stop ≤ next + k → behind l.done (walk_all k walk bs next stop total) ≡ refused number place
    hit zero enough = absurd (omega arith)
    hit (suc k) enough = rw (lt-ltb next stop more, q)

  -- the next one counted
  pub one_more : {w : Walked} → next < stop → Counts stop levels (body_end bs next) total (walk next stop total) w
      → Left walk bs stop levels before whole w.end (count + 1) (capped (counted + w.places)) (max deep w.depth) w.groups
  one_more {w} more t = turned l.turns l.enough l.same where
    turned : (k : ℕ) → stop ≤ next + k → behind l.done (walk_all k walk bs next stop total) ≡ whole
        → Left walk bs stop levels before whole w.end (count + 1) (capped (counted + w.places)) (max deep w.depth) w.groups
    turned zero enough same = absurd (omega arith)
    turned (suc k) enough same = record {
      turns = k;
      enough = omega (arith, t.ends);
      done = l.done ++ t.tree ∷ [];
      same = rw (t.ends, t.groups_are)
          (behind_one l.done t.tree (walk_all k walk bs (body_end bs next) stop (total + groups t.tree)) ∙ rw (lt-ltb next stop more, t.is) at same);
      before_stop = t.before_stop;
      count_is = omega (arith, l.count_is, length-append l.done (t.tree ∷ []));
      places_are = omega (arith, l.places_are, t.places_are, places_more l.done t.tree);
      depth_is = omega (arith, l.depth_is, t.depth_is, depth_more l.done t.tree);
      groups_are = omega (arith, l.groups_are, t.groups_are, groups_more l.done t.tree);
      few_members = omega (arith, l.few_members, t.ends);
      few_levels = omega (arith, l.few_levels, t.few_levels);
      few_groups = t.few_groups;
    }
