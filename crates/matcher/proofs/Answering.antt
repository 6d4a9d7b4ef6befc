-- The whole call: its refusals in their order and what it answers otherwise, one law a way out; and the promises allow one answer and one table only.
use Prim.Native.Nat.{ℕ, ◌≤◌}
use native.Mathlib.Omega.{arith}
use mathlib.Core.Path.{◌≡◌, refl, sym, ap, ap₂, subst, ◌∙◌}
use mathlib.Core.Bool.{Bool, true, false}
use mathlib.Core.List.{List, ◌++◌}
use mathlib.Core.Option.{Option}
use lib.Dec.{leb}
use lib.ListN.{length, drop}
use borrow.Author.Tests.{leb-true}
use Rattle.paper.specs.Limits.{line_bytes, table_numbers}
use Rattle.paper.specs.Refusal.{Checked, refused, accepted, ◌>>=◌, ◌>>◌, holds, line_too_long, table_too_short}
use Rattle.paper.specs.Pattern.{Pattern}
use Rattle.paper.specs.Layout.{Lawful}
use Rattle.paper.specs.Check.{pattern_of}
use Rattle.std.specs.Prelude.{is_some, unwrap_or, Result, Ok, Err}
use Rattle.paper.specs.Rows.{Rows, no_rows}
use Rattle.paper.specs.Match.{whole_match, search, match_steps, search_steps, Found, line_and_table, counted, match_call, search_call, is_match, rows_or_none, table_after, Told, told}
use Rattle.paper.specs.Bounds.{match_bound, search_bound, most_steps}
use Rattle.paper.proofs.machine.Bound.{steps_bound, search_bound_law, match_steps_law, search_steps_law, counted_told}
use Rattle.pattern.specs.declared.Refused.{Refused}
use Rattle.pattern.specs.Refusals.{number_of}
use Rattle.pattern.proofs.Differing.{checked_differ}
use Rattle.matcher.specs.declared.Found as declared
use Rattle.matcher.specs.Answer.{in_words, answer_of, steps_told, TellsSteps}
use Rattle.matcher.specs.Promise.{Matches, Searches, Answers}
use Rattle.run.specs.declared.Ran.{Ran}
use Rattle.machine.specs.Machine.{Gives, FoundGives}
use Rattle.machine.proofs.Running.{found_stays, match_read, rows_written}

-- The one answer

-- the steps that an answer tells are those that it is read to tell
told_steps : (r : Result declared.Found Refused) (matched : Bool) (steps : ℕ) → answer_of r ≡ accepted (record { matched = matched; steps = steps }) → steps_told r ≡ steps
told_steps (Err e) matched steps is = cc
told_steps (Ok found) matched steps is =
    let same : in_words found ≡ record { matched = matched; steps = steps } = cc in
    ap (λ (t : Told). t.steps) same

-- no two answers are read alike
pub answers_differ : (a b : Result declared.Found Refused) → answer_of a ≡ answer_of b → a ≡ b
answers_differ = checked_differ in_words (λ a b same i. record { matched = (same i).matched; steps = (same i).steps })

-- T5: the promises allow one answer, as a value, and one table
pub one_match : {pattern line lent : List ℕ} {a b : Result declared.Found Refused} {after after' : List ℕ} → Matches pattern line lent a after → Matches pattern line lent b after'
    → (a ≡ b) × (after ≡ after')
one_match {a = a} {b = b} p q = (answers_differ a b (p.answer ∙ sym q.answer), p.table ∙ sym q.table)

pub one_search : {pattern line lent : List ℕ} {a b : Result declared.Found Refused} {after after' : List ℕ} → Searches pattern line lent a after → Searches pattern line lent b after'
    → (a ≡ b) × (after ≡ after')
one_search {a = a} {b = b} p q = (answers_differ a b (p.answer ∙ sym q.answer), p.table ∙ sym q.table)

-- The call

-- a line and a table that are not refused are within their limits
pub lent_right : (line lent : List ℕ) → accepted tt ≡ line_and_table line lent → (length line ≤ line_bytes) × (table_numbers ≤ length lent)
lent_right line lent is = look (leb (length line) line_bytes) (leb table_numbers (length lent)) refl refl is
  where
    look : (short long : Bool) → leb (length line) line_bytes ≡ short → leb table_numbers (length lent) ≡ long
        → accepted tt ≡ (holds short line_too_long 0 >> holds long table_too_short 0) → (length line ≤ line_bytes) × (table_numbers ≤ length lent)
    look true true s l e = (leb-true (length line) line_bytes s, leb-true table_numbers (length lent) l)
    look true false s l e = cc
    look false long s l e = cc

abbrev call_of : Bool → List ℕ → List ℕ → List ℕ → Checked Found
call_of false pattern line lent = match_call pattern line lent
call_of true pattern line lent = search_call pattern line lent

abbrev found_of : Bool → Pattern → List ℕ → Found
found_of false e line = record { rows = whole_match e line; steps = match_steps e line }
found_of true e line = record { rows = search e line; steps = search_steps e line }

-- the call from what checking found
abbrev calling : Bool → Checked Pattern → List ℕ → List ℕ → Checked Found
calling searches checked line lent =
    checked >>= λ e. line_and_table line lent >> counted (found_of searches e line).rows (found_of searches e line).steps

called : (searches : Bool) (pattern line lent : List ℕ) → call_of searches pattern line lent ≡ calling searches (pattern_of pattern) line lent
called false pattern line lent = refl
called true pattern line lent = refl

few_steps : (searches : Bool) (e : Pattern) (line : List ℕ) → Lawful e → length line ≤ line_bytes → (found_of searches e line).steps ≤ most_steps
few_steps false e line lawful short = match_steps_law e line lawful short
few_steps true e line lawful short = search_steps_law e line lawful short

abbrev bound_of : Bool → Pattern → ℕ → ℕ
bound_of false e n = match_bound e n
bound_of true e n = search_bound e n

found_bound : (searches : Bool) (e : Pattern) (line : List ℕ) → (found_of searches e line).steps ≤ bound_of searches e (length line)
found_bound false e line = steps_bound e 1 line
found_bound true e line = search_bound_law e line

-- the promise out of its parts
promised : (searches : Bool) (pattern line lent : List ℕ) (r : Result declared.Found Refused) (after : List ℕ) → answer_of r ≡ told (call_of searches pattern line lent)
    → after ≡ table_after (call_of searches pattern line lent) lent
    → ((e : Pattern) → pattern_of pattern ≡ accepted e → steps_told r ≤ bound_of searches e (length line)) → Answers searches pattern line lent r after
promised false pattern line lent r after answer table bound = record { answer = answer; table = table; bound = bound }
promised true pattern line lent r after answer table bound = record { answer = answer; table = table; bound = bound }

module _ (searches : Bool) (pattern line lent : List ℕ) where
  -- a refusal leaves the table as it was
  refuses : (r : Refused) → call_of searches pattern line lent ≡ refused (number_of r.refusal) r.place → Answers searches pattern line lent (Err r) lent
  refuses r e = promised searches pattern line lent (Err r) lent (sym (ap told e)) (sym (ap (λ (c : Checked Found). table_after c lent) e)) (λ f h. omega arith)

  module _ (e : Pattern) (found : pattern_of pattern ≡ accepted e) where
    judged : call_of searches pattern line lent
        ≡ (line_and_table line lent >> counted (found_of searches e line).rows (found_of searches e line).steps)
    judged = called searches pattern line lent ∙ ap (λ (c : Checked Pattern). calling searches c line lent) found

    after_lent : {c : Checked (Unit {0})} → c ≡ line_and_table line lent
        → call_of searches pattern line lent ≡ (c >> counted (found_of searches e line).rows (found_of searches e line).steps)
    after_lent is = judged ∙ sym (ap (λ (c : Checked (Unit {0})). c >> counted (found_of searches e line).rows (found_of searches e line).steps) is)

    -- 11 and 12
    pub refuses_lent : (r : Refused) → refused (number_of r.refusal) r.place ≡ line_and_table line lent → Answers searches pattern line lent (Err r) lent
    refuses_lent r is = refuses r (after_lent is)

    module _ (lawful : Lawful e) (right : accepted tt ≡ line_and_table line lent) where
      short : length line ≤ line_bytes
      short = (lent_right line lent right).0

      answered : call_of searches pattern line lent ≡ accepted (found_of searches e line)
      answered =
          after_lent right
          ∙ counted_told (found_of searches e line).rows (found_of searches e line).steps (few_steps searches e line lawful short)

      gives : {ran : Ran} → FoundGives searches pattern line ran → Gives (found_of searches e line).rows (found_of searches e line).steps ran
      gives {ran} g = by searches g
        where
          by : (s : Bool) → FoundGives s pattern line ran → Gives (found_of s e line).rows (found_of s e line).steps ran
          by false g = g e found
          by true g = subst (λ (o : Option Rows). Gives o (search_steps e line) ran) (found_stays (search e line)) (g e found)

      -- what was found, told and written
      pub answers : (ran : Ran) {matched : Bool} {rows : Rows} {r : Result declared.Found Refused} {after : List ℕ} → FoundGives searches pattern line ran → matched ≡ is_some ran.rows
          → rows ≡ unwrap_or ran.rows no_rows → TellsSteps matched ran.steps r → after ≡ rows ++ drop table_numbers lent → Answers searches pattern line lent r after
      answers ran {matched} {rows} {r} {after} given is_matched are_rows telling written =
          let g = gives given in
          let few : ran.steps ≤ most_steps = omega (arith, g.steps_are, few_steps searches e line lawful short) in
          let matched_is : matched ≡ is_match (found_of searches e line).rows = is_matched ∙ match_read ran.rows ∙ ap is_match g.rows_are in
          let rows_are : rows ≡ rows_or_none (found_of searches e line).rows = are_rows ∙ rows_written ran.rows ∙ ap rows_or_none g.rows_are in
          let same : answer_of r ≡ told (accepted (found_of searches e line)) =
          telling.never few ∙ ap₂ (λ (b : Bool) (n : ℕ). accepted (record { matched = b; steps = n })) matched_is g.steps_are in
          promised searches pattern line lent r after (same ∙ sym (ap told answered))
          (written ∙ ap (λ (x : Rows). x ++ drop table_numbers lent) rows_are ∙ sym (ap (λ (c : Checked Found). table_after c lent) answered))
          (λ f h. bounded f (sym found ∙ h) (told_steps r (is_match (found_of searches e line).rows) (found_of searches e line).steps same))
        where
          bounded : (f : Pattern) → accepted e ≡ accepted f → steps_told r ≡ (found_of searches e line).steps → steps_told r ≤ bound_of searches f (length line)
          bounded f s q =
              let one : e ≡ f = cc in
              subst (λ (t : Pattern). steps_told r ≤ bound_of searches t (length line)) one (omega (arith, found_bound searches e line))

      -- which is no refusal: within the limits 14 never is
      pub not_refused : (ran : Ran) {matched : Bool} {r : Result declared.Found Refused} → FoundGives searches pattern line ran
          → TellsSteps matched ran.steps r → (w : Refused) → r ≡ Err w → ⊥
      not_refused ran {r = r} given telling w is =
          let few : ran.steps ≤ most_steps = omega (arith, (gives given).steps_are, few_steps searches e line lawful short) in
          let z : ◌≡◌ {A = ℕ} 0 1 = cc (ap answer_of is, telling.never few) in
          omega arith
