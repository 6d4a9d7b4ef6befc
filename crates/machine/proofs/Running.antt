-- What a run of the built machine finds, in the words of the public promises: the list machine on the rest of the line is the ordered reading's whole match or search.
use Prim.Native.Nat.{ℕ, suc, ◌+◌, ◌-◌, ◌*◌, ◌≤◌}
use native.Mathlib.Omega.{arith}
use mathlib.Core.Path.{◌≡◌, refl, sym, ap, ap₂, subst, ◌∙◌}
use mathlib.Core.Bool.{Bool, true, false, cond}
use mathlib.Core.List.{List, [], ◌∷◌}
use mathlib.Core.Option.{Option, none, some, map}
use lib.Dec.{eqb}
use lib.ListN.{length, drop, length-drop}
use borrow.Author.Tests.{eqb-true}
use Rattle.paper.specs.Limits.{line_bytes, absent}
use Rattle.paper.specs.Refusal.{accepted}
use Rattle.paper.specs.Pattern.{Pattern}
use Rattle.paper.specs.Check.{pattern_of}
use Rattle.paper.specs.Rows.{Rows, no_rows}
use Rattle.paper.specs.Machine.{Place, at, Stopped, matched, unmatched, run, pairs, machine, steps_of, rows_of}
use Rattle.paper.specs.Match.{with_row0, wrap, is_match, rows_or_none}
use Rattle.paper.specs.Replace.{moved_by, moved, moved_stopped}
use Rattle.paper.proofs.machine.MachineReads.{machine_matches, machine_searches}
use Rattle.paper.proofs.machine.MovedMachine.{steps_moved, rows_moved, machine_moved}
use Rattle.visit.specs.Wired.{Wired}
use Rattle.std.specs.Prelude as rust
use Rattle.std.specs.Prelude.{is_some, unwrap_or}
use Rattle.run.specs.Steps.{Running, Runs, stopped_as}
use Rattle.run.specs.declared.Ran.{Ran}
use Rattle.machine.specs.Machine.{wrapped, first_group, Ready, RunsFrom, found_of, MatchGives, SearchGives}
use Rattle.machine.specs.declared.scratch.Scratch.{Scratch}
use Rattle.machine.specs.Scratch.{lists_numbers, pending_numbers, Lasts, Runnable}
use Rattle.machine.proofs.Wiring.{ready_places, ready_pairs, ready_wired}

-- a machine that is ready can be run in scratch of its sizes
pub runs_safely : {pattern code : List ℕ} {searches : Bool} {places deep : ℕ} (m : Ready pattern code searches places deep)
    {line : List ℕ} {from : ℕ} {seen taken lists pending : List ℕ} → length seen ≡ places * (deep + 1) → length taken ≡ places
    → lists_numbers places ≤ length lists → pending_numbers places ≤ length pending → length line ≤ line_bytes → from ≤ length line
    → Running code pattern line places from seen taken lists pending
runs_safely {pattern} {code} {places = places} m cells few lists_long pending_long short inside =
    record {
      wired = subst (Wired code pattern places) (sym cells) (ready_wired m);
      some = (ready_places m).0;
      cells = omega (arith, ready_pairs m);
      taken_long = few;
      lists_long = lists_long;
      pending_long = pending_long;
      line_long = short;
      starts = inside;
    }

-- the run of the table is the machine's on the rest, moved
pub run_from : {pattern code : List ℕ} {searches : Bool} {places deep : ℕ} (m : Ready pattern code searches places deep)
    (line : List ℕ) (from cells steps : ℕ) (rows : rust.Option Rows) → length line ≤ line_bytes → from ≤ length line
    → cells ≡ places * (deep + 1) → Runs code pattern line places from cells steps rows
    → stopped_as steps rows ≡ moved_stopped from (machine (wrapped searches m.tree) (first_group searches) (drop from line))
run_from {pattern} {code} {searches} {places} {deep} m line from cells steps rows short inside same ran =
    let e = wrapped searches m.tree in
    let first = first_group searches in
    let positions = suc (length line - from) in
    let turns = suc cells in
    let all : pairs e ≡ places * (deep + 1) = ap₂ (λ (n d : ℕ). n * (d + 1)) (sym m.places_are) (sym m.deep_is) in
    sym (ran turns (omega arith))
    ∙ ap (λ (places : List Place). run positions turns places line from (at 0 0 no_rows ∷ []) 0) m.decoded
    ∙ machine_moved e first line from positions turns inside (omega (arith, length-drop from line)) (omega arith) (omega arith)

-- from the line's start nothing is moved
stays : (n : ℕ) → moved_by 0 n ≡ n
stays n = look (eqb n absent) refl
  where
    look : (b : Bool) → eqb n absent ≡ b → cond b absent (0 + n) ≡ n
    look true e = sym (eqb-true n absent e)
    look false e = omega arith

pub all_stay : (rows : Rows) → moved 0 rows ≡ rows
all_stay [] = refl
all_stay (n ∷ rows) = ap₂ ◌∷◌ (stays n) (all_stay rows)

pub found_stays : (found : Option Rows) → map (moved 0) found ≡ found
found_stays none = refl
found_stays (some rows) = ap some (all_stay rows)

stopped_stays : (stopped : Stopped) → moved_stopped 0 stopped ≡ stopped
stopped_stays (matched steps rows) = ap (matched steps) (all_stay rows)
stopped_stays (unmatched steps) = refl

-- what is read off the machine's end is what the run tells
steps_read : (steps : ℕ) (rows : rust.Option Rows) → steps_of (stopped_as steps rows) ≡ steps
steps_read steps (rust.Some rows) = refl
steps_read steps rust.None = refl

rows_read : (steps : ℕ) (rows : rust.Option Rows) → rows_of (stopped_as steps rows) ≡ found_of rows
rows_read steps (rust.Some rows) = refl
rows_read steps rust.None = refl

-- an accepted pattern has one tree
one_tree : (pattern : List ℕ) {e f : Pattern} → pattern_of pattern ≡ accepted e → pattern_of pattern ≡ accepted f → e ≡ f
one_tree pattern {e} {f} h h' = let same : accepted e ≡ accepted f = sym h ∙ h' in cc

module _ (pattern code line : List ℕ) (places deep : ℕ) (ran : Ran) where
  -- a whole match, by a machine built for it: row 0 is the line
  pub match_gives : Ready pattern code false places deep → RunsFrom pattern code line places deep 0 ran → {told : Ran} → told.steps ≡ ran.steps
      → found_of told.rows ≡ with_row0 (length line) (found_of ran.rows) → MatchGives pattern line told
  match_gives m runs same_steps same_rows e accepts =
      let same : stopped_as ran.steps ran.rows ≡ machine e 1 line =
      runs false m ∙ stopped_stays (machine m.tree 1 line) ∙ ap (λ (t : Pattern). machine t 1 line) (one_tree pattern m.found accepts) in
      record {
        steps_are = same_steps ∙ sym (steps_read ran.steps ran.rows) ∙ ap steps_of same;
        rows_are =
            same_rows
            ∙ ap (with_row0 (length line)) (sym (rows_read ran.steps ran.rows) ∙ ap rows_of same)
            ∙ machine_matches e line;
      }

  -- a search from a position, by a machine built for it
  pub search_gives : (from : ℕ) → Ready pattern code true places deep → RunsFrom pattern code line places deep from ran → SearchGives pattern line from ran
  search_gives from m runs e accepts =
      let rest = drop from line in
      let same : stopped_as ran.steps ran.rows ≡ moved_stopped from (machine (wrap e) 0 rest) =
      runs true m ∙ ap (λ (t : Pattern). moved_stopped from (machine (wrap t) 0 rest)) (one_tree pattern m.found accepts) in
      record {
        steps_are = sym (steps_read ran.steps ran.rows) ∙ ap steps_of same ∙ steps_moved from (machine (wrap e) 0 rest);
        rows_are =
            sym (rows_read ran.steps ran.rows)
            ∙ ap rows_of same
            ∙ rows_moved from (machine (wrap e) 0 rest)
            ∙ ap (map (moved from)) (machine_searches e rest);
      }

-- What a run tells

-- whether it matched
pub match_read : (rows : rust.Option Rows) → is_some rows ≡ is_match (found_of rows)
match_read (rust.Some rows) = refl
match_read rust.None = refl

-- its rows, or none present
pub rows_written : (rows : rust.Option Rows) → unwrap_or rows no_rows ≡ rows_or_none (found_of rows)
rows_written (rust.Some rows) = refl
rows_written rust.None = refl

-- scratch that lasts
pub lasts_start : {scratch : Scratch} → Lasts scratch scratch
lasts_start = record { seen_same = refl; taken_same = refl; lists_same = refl; pending_same = refl }

pub lasts_on : {a b c : Scratch} → Lasts a b → Lasts b c → Lasts a c
lasts_on k m = record {
  seen_same = m.seen_same ∙ k.seen_same;
  taken_same = m.taken_same ∙ k.taken_same;
  lists_same = m.lists_same ∙ k.lists_same;
  pending_same = m.pending_same ∙ k.pending_same;
}

-- a run that may start at the line's start may start at any position of it, in scratch that lasts
pub runs_on : {places deep : ℕ} {line : List ℕ} {s s' : Scratch} → Runnable places deep line 0 s → {from : ℕ} → from ≤ length line
    → Lasts s s' → Runnable places deep line from s'
runs_on r inside kept =
    record {
      short = r.short;
      starts = inside;
      roomy =
          record {
            seen_long = omega (arith, r.roomy.seen_long, kept.seen_same);
            taken_long = omega (arith, r.roomy.taken_long, kept.taken_same);
            lists_long = omega (arith, r.roomy.lists_long, kept.lists_same);
            pending_long = omega (arith, r.roomy.pending_long, kept.pending_same);
          };
    }
