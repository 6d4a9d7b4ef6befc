-- Laws of the scan over the line, into whatever output: what is appended and counted so far and what the scan gives from here on make up the
-- whole. Each turn takes its bytes, its replacement and its steps from what was left, and goes on further in the line.
use Prim.Native.Nat.{ℕ, suc, ◌+◌, ◌-◌, ◌≤◌, ◌<◌}
use mathlib.Core.Path.{◌≡◌, refl, sym, ap, subst, ◌∙◌}
use mathlib.Core.Bool.{Bool, true, false, cond}
use mathlib.Core.List.{List, [], ◌++◌, append-nil, append_assoc}
use native.Mathlib.Omega.{arith}
use lib.ListN.{length}
use mathlib.Core.Option as math
use mir.Val.{bool_byte}
use Rattle.std.proofs.Common.{Option, Some, None, is_some, unwrap_or}
use Rattle.paper.specs.Limits.{line_bytes}
use Rattle.paper.specs.Refusal.{accepted}
use Rattle.paper.specs.Layout.{Lawful}
use Rattle.paper.specs.Pattern.{Pattern}
use Rattle.paper.specs.Check.{pattern_of}
use Rattle.paper.specs.Replace.{Scan, Scanned, precede}
use Rattle.paper.specs.ScanTurn.{turn_bytes, TurnFits}
use Rattle.paper.proofs.replacing.ReplaceBound.{most_sum, replace_all_most}
use Rattle.paper.proofs.replacing.ScanWays.{turn_count, turn_rest, ended, turn_fits, scan_from, scan_whole, scan_turn}
use Rattle.paper.proofs.replacing.ScanLengths.{replace_all_short}
use Rattle.machine.specs.Machine.{Ready}
use Rattle.turns.specs.declared.Turn.{Turn}
use Rattle.turns.specs.Accepted.{accepted_or, pieces_of, Right}
use Rattle.turns.specs.Turn.{option_of, as_turn}
use Rattle.replacer.specs.Given.{tree_of, whole_of}
use Rattle.replacer.specs.Scans.{Turns}

-- ---- what a machine that is ready says of the pattern

-- its tree
pub ready_tree : {pattern code : List ℕ} {places deep : ℕ} (m : Ready pattern code true places deep) → tree_of pattern ≡ m.tree
ready_tree m = ap (accepted_or Pattern.empty) m.found

-- which was accepted
pub ready_accepts : {pattern code : List ℕ} {places deep : ℕ} (m : Ready pattern code true places deep) → pattern_of pattern ≡ accepted (tree_of pattern)
ready_accepts m = m.found ∙ ap accepted (sym (ready_tree m))

-- and is lawful
pub ready_lawful : {pattern code : List ℕ} {places deep : ℕ} (m : Ready pattern code true places deep) → Lawful (tree_of pattern)
ready_lawful m = subst Lawful (sym (ready_tree m)) m.lawful

-- ---- what is left of the line

-- each turn leaves less of it
abbrev pub ahead : List ℕ → Option ℕ → ℕ
ahead line (Some from) = suc (length line - from)
ahead line None = 0

-- what the scan gives from here on
abbrev pub left_of : List ℕ → List ℕ → List ℕ → Option ℕ → Option ℕ → Scanned
left_of pattern template line goes last =
    cond (is_some goes) (scan_from (tree_of pattern) template line (pieces_of template) (unwrap_or goes 0) (option_of last)) ended

-- ---- a turn of the scan

-- what follows a turn, by where the code goes on
rest_is : (scan : Scan) (goes : Option ℕ) (start : ℕ) (last : math.Option ℕ)
    → cond (is_some goes) (scan (unwrap_or goes start) last) ended ≡ cond (is_some goes) (scan (unwrap_or goes 0) last) ended
rest_is scan (Some next) start last = refl
rest_is scan None start last = refl

module _ {pattern line : List ℕ} (small : length line ≤ line_bytes) {from : ℕ} {last : Option ℕ} {t : Turn} (turns : Turns pattern line from last t)
    (inside : from ≤ length line) where
  pub turns_fit : TurnFits (length line) from (as_turn t)
  turns_fit =
      subst (TurnFits (length line) from) (sym turns.same)
      (turn_fits (tree_of pattern) line from (option_of last) small inside)

  -- the scan goes on further in the line
  turns_further : (next : ℕ) → t.goes ≡ Some next → (from < next) × (next ≤ length line)
  turns_further next is =
      let there = turns_fit.further (ap is_some is) in
      let same : unwrap_or t.goes t.start ≡ next = ap (λ (o : Option ℕ). unwrap_or o t.start) is in
      (omega (arith, there), omega (arith, there))

  pub turns_ahead : {goes : Option ℕ} → goes ≡ Some from → ahead line t.goes < ahead line goes
  turns_ahead is = subst (λ (o : Option ℕ). ahead line t.goes < ahead line o) (sym is) (look t.goes refl)
    where
      look : (o : Option ℕ) → t.goes ≡ o → ahead line o < suc (length line - from)
      look (Some next) is = let further = turns_further next is in omega arith
      look None is = omega arith

  -- a turn is put before what is left after it
  turns_before : (template : List ℕ)
      → left_of pattern template line (Some from) last
      ≡ precede (turn_bytes template line (pieces_of template) from (as_turn t)) (turn_count (as_turn t)) t.steps (left_of pattern template line t.goes t.last)
  turns_before template =
      let scan = scan_from (tree_of pattern) template line (pieces_of template) in
      let bytes = turn_bytes template line (pieces_of template) from (as_turn t) in
      scan_turn (tree_of pattern) template line (pieces_of template) small from (option_of last) inside
      ∙ sym
      (λ i.
      precede (turn_bytes template line (pieces_of template) from (turns.same i)) (turn_count (turns.same i)) (turns.counted i) (turn_rest scan (turns.same i)))
      ∙ ap (precede bytes (turn_count (as_turn t)) t.steps) (rest_is scan t.goes t.start (option_of t.last))

-- a flag counts one
one : (b : Bool) → bool_byte b ≡ cond b 1 0
one true = refl
one false = refl

-- ---- the whole scan, into whatever output

module _ {S : Type 0} (room : S → List ℕ → Type 0) (appends : S → List ℕ → S → Type 0) (pattern template line : List ℕ) (entry : S) where
  abbrev whole : Scanned
  whole = whole_of pattern template line

  -- what is appended and counted, and what is left, make up the whole; what is left has room
  pub record Scanning (goes last : Option ℕ) (output : S) (replacements steps : ℕ) : Type 0 where
    pub inside : (from : ℕ) → goes ≡ Some from → from ≤ length line
    pub done : List ℕ
    pub same : done ++ (left_of pattern template line goes last).output ≡ whole.output
    pub appended : appends entry done output
    pub has_room : room output (left_of pattern template line goes last).output
    pub replaced : replacements + (left_of pattern template line goes last).replaced ≡ whole.replaced
    pub stepped : steps + (left_of pattern template line goes last).steps ≡ whole.steps

  module _ (small : length line ≤ line_bytes) where
    whole_left : left_of pattern template line (Some 0) None ≡ whole
    whole_left = scan_whole (tree_of pattern) template line (pieces_of template) small

    pub scan_start : appends entry [] entry → room entry whole.output → Scanning (Some 0) None entry 0 0
    scan_start none fits =
        record {
          inside = λ from is. omega (arith, ap (λ (o : Option ℕ). unwrap_or o 0) is);
          done = [];
          same = ap (λ (s : Scanned). s.output) whole_left;
          appended = none;
          has_room = subst (λ (s : Scanned). room entry s.output) (sym whole_left) fits;
          replaced = omega (arith, ap (λ (s : Scanned). s.replaced) whole_left);
          stepped = omega (arith, ap (λ (s : Scanned). s.steps) whole_left);
        }

    module _ {from : ℕ} {last : Option ℕ} {output : S} {replacements steps : ℕ} (kept : Scanning (Some from) last output replacements steps) {t : Turn}
        (turns : Turns pattern line from last t) where
      abbrev bytes : List ℕ
      bytes = turn_bytes template line (pieces_of template) from (as_turn t)

      abbrev left : Scanned
      left = left_of pattern template line t.goes t.last

      here : left_of pattern template line (Some from) last ≡ precede bytes (turn_count (as_turn t)) t.steps left
      here = turns_before small turns (kept.inside from refl) template

      room_here : room output (bytes ++ left.output)
      room_here = subst (λ (s : Scanned). room output s.output) here kept.has_room

      -- where the whole has room, a turn has
      pub scan_room : ((s : S) (xs ys : List ℕ) → room s (xs ++ ys) → room s xs) → room output bytes
      scan_room room_first = room_first output bytes left.output room_here

      pub scan_more : ((s t u : S) (xs ys : List ℕ) → appends s xs t → appends t ys u → appends s (xs ++ ys) u)
          → ((s t : S) (xs ys : List ℕ) → room s (xs ++ ys) → appends s xs t → room t ys) → {after : S} → appends output bytes after → {ones : ℕ}
          → ones ≡ bool_byte t.put → {more : ℕ} → more ≡ t.steps → Scanning t.goes t.last after (replacements + ones) (steps + more)
      scan_more both room_second {after} wrote {ones} counts {more} adds =
          record {
            inside = λ next is. (turns_further small turns (kept.inside from refl) next is).1;
            done = kept.done ++ bytes;
            same = append_assoc kept.done bytes left.output ∙ ap (λ (s : Scanned). kept.done ++ s.output) (sym here) ∙ kept.same;
            appended = both entry output after kept.done bytes kept.appended wrote;
            has_room = room_second output after bytes left.output room_here wrote;
            replaced = omega (arith, kept.replaced, ap (λ (s : Scanned). s.replaced) here, one t.put);
            stepped = omega (arith, kept.stepped, ap (λ (s : Scanned). s.steps) here);
          }

      -- and what is counted after it does not pass the limits
      pub scan_fits : Right template → Lawful (tree_of pattern) → {ones : ℕ} → ones ≡ bool_byte t.put → {more : ℕ} → more ≡ t.steps
          → (replacements + ones ≤ line_bytes + 1) × (steps + more ≤ most_sum)
      scan_fits right lawful {ones} counts {more} adds =
          let short = replace_all_short (tree_of pattern) template line (pieces_of template) right small in
          let most = replace_all_most (tree_of pattern) template line (pieces_of template) lawful small in (
            omega (arith, kept.replaced, ap (λ (s : Scanned). s.replaced) here, one t.put, short.1),
            omega (arith, kept.stepped, ap (λ (s : Scanned). s.steps) here, most),
          )

  -- where the scan has ended, the whole is appended
  pub scan_end : {goes last : Option ℕ} {output : S} {replacements steps : ℕ} → goes ≡ None → Scanning goes last output replacements steps
      → appends entry whole.output output × (replacements ≡ whole.replaced) × (steps ≡ whole.steps)
  scan_end {goes} {last} {output} {replacements} {steps} stop kept =
      let none_left : left_of pattern template line goes last ≡ ended = ap (λ (o : Option ℕ). left_of pattern template line o last) stop in
      let all : kept.done ≡ whole.output =
      sym (append-nil kept.done) ∙ ap (λ (s : Scanned). kept.done ++ s.output) (sym none_left) ∙ kept.same in (
        subst (λ (l : List ℕ). appends entry l output) all kept.appended,
        omega (arith, kept.replaced, ap (λ (s : Scanned). s.replaced) none_left),
        omega (arith, kept.stepped, ap (λ (s : Scanned). s.steps) none_left),
      )
