-- The call's answer where all tests before 13 pass: 13, or the scan's numbers with its output at the buffer's front.
use Prim.Native.Nat.{ℕ, ◌≤◌, ◌<◌, zero-le}
use mathlib.Core.Path.{◌≡◌, sym, ap, subst, ◌∙◌}
use mathlib.Core.Bool.{Bool, true, false}
use mathlib.Core.List.{List, ◌++◌}
use native.Mathlib.Omega.{arith}
use lib.Dec.{leb}
use lib.ListN.{length, drop, take-append-drop}
use borrow.Author.Tests.{le-leb, lt-leb}
use Rattle.paper.specs.Limits.{line_bytes}
use Rattle.paper.specs.Refusal.{Checked, refused, accepted, ◌>>=◌, ◌>>◌, holds, line_too_long, output_too_long}
use Rattle.paper.specs.Pattern.{Pattern, groups}
use Rattle.paper.specs.Check.{pattern_of}
use Rattle.paper.specs.Template.{Piece, template_of, within}
use Rattle.paper.specs.Bounds.{replace_bound}
use Rattle.paper.specs.Replace.{Scanned, replace_all, replace_call, replace_answer, buffer_after}
use Rattle.paper.proofs.replacing.ReplaceBound.{replace_all_steps}
use Rattle.std.proofs.Common.{Ok, Err}
use Rattle.pattern.specs.declared.Refusal.TheVariants.{OutputTooLong}
use Rattle.replacer.specs.declared.Replaced.{Replaced}
use Rattle.turns.specs.Appended.{Appended}
use Rattle.turns.specs.Accepted.{pieces_of, Right}
use Rattle.replacer.specs.Given.{tree_of, whole_of}
use Rattle.replacer.specs.Promise.{Replaces}

-- bytes appended to a buffer from its front on: behind them it is as it was
pub written_whole : {entry exit bytes : List ℕ} {end : ℕ} → Appended entry exit 0 bytes end → exit ≡ bytes ++ drop (length bytes) entry
written_whole {entry} {exit} {bytes} {end} wrote =
    let ends : end ≡ length bytes = omega (arith, wrote.ends) in
    sym (take-append-drop end exit)
    ∙ ap (λ (l : List ℕ). l ++ drop end exit) wrote.front
    ∙ ap (λ (l : List ℕ). bytes ++ l) (wrote.behind ∙ ap (λ (n : ℕ). drop n entry) ends)

-- ---- the call

module _ (pattern template line lent : List ℕ) where
  -- what comes after the pattern
  abbrev after_pattern : Pattern → Checked Scanned
  after_pattern e =
      template_of template >>= λ pieces.
      within pieces (groups e) >>
      (holds (leb (length line) line_bytes) line_too_long 0 >>
      (let scanned = replace_all e template pieces line in
      holds (leb (length scanned.output) (length lent)) output_too_long 0 >> accepted scanned))

  by_pattern : (found : Checked Pattern) → pattern_of pattern ≡ found → replace_call pattern template line lent ≡ found >>= after_pattern
  by_pattern found is = ap (λ (c : Checked Pattern). c >>= after_pattern) is

  module _ (accepts : pattern_of pattern ≡ accepted (tree_of pattern)) where
    module _ (right : Right template) (low : within (pieces_of template) (groups (tree_of pattern)) ≡ accepted tt) where
      abbrev output : ℕ
      output = length (whole_of pattern template line).output

      by_template : replace_call pattern template line lent
          ≡ (holds (leb (length line) line_bytes) line_too_long 0 >> (holds (leb output (length lent)) output_too_long 0 >> accepted (whole_of pattern template line)))
      by_template =
          by_pattern (accepted (tree_of pattern)) accepts
          ∙ ap
          (λ (c : Checked (List Piece)).
          c >>= λ pieces.
          within pieces (groups (tree_of pattern)) >>
          (holds (leb (length line) line_bytes) line_too_long 0 >>
          (let scanned = replace_all (tree_of pattern) template pieces line in
          holds (leb (length scanned.output) (length lent)) output_too_long 0 >> accepted scanned))) right
          ∙ ap
          (λ (c : Checked (Unit {0})).
          c >>
          (holds (leb (length line) line_bytes) line_too_long 0 >> (holds (leb output (length lent)) output_too_long 0 >> accepted (whole_of pattern template line)))) low

      by_tests : (short room : Bool) → leb (length line) line_bytes ≡ short → leb output (length lent) ≡ room
          → replace_call pattern template line lent ≡ (holds short line_too_long 0 >> (holds room output_too_long 0 >> accepted (whole_of pattern template line)))
      by_tests short room s r =
          by_template
          ∙ (λ i. holds (s i) line_too_long 0 >> (holds (r i) output_too_long 0 >> accepted (whole_of pattern template line)))

      module _ (small : length line ≤ line_bytes) where
        -- 13, where the scan's output has no room
        pub refuses_output : length lent < output → Replaces pattern template line lent (Err (record { refusal = OutputTooLong; place = 0 })) lent
        refuses_output long =
            let is : replace_call pattern template line lent ≡ refused output_too_long 0 =
            by_tests true false (le-leb (length line) line_bytes small) (lt-leb output (length lent) long) in
            record {
              answer = sym (ap replace_answer is);
              buffer = sym (ap (λ (c : Checked Scanned). buffer_after c lent) is);
              bound = λ e found. zero-le;
            }

        -- and the scan's output, where it has
        pub replaces : output ≤ length lent → (r : Replaced) → r.length ≡ output → r.replacements ≡ (whole_of pattern template line).replaced
            → r.steps ≡ (whole_of pattern template line).steps → (after : List ℕ) → after ≡ (whole_of pattern template line).output ++ drop output lent
            → Replaces pattern template line lent (Ok r) after
        replaces room r l many s after wrote =
            let is : replace_call pattern template line lent ≡ accepted (whole_of pattern template line) =
            by_tests true true (le-leb (length line) line_bytes small) (le-leb output (length lent) room) in
            record {
              answer = (λ i. accepted (record { output_length = l i; replaced = many i; steps = s i })) ∙ sym (ap replace_answer is);
              buffer = wrote ∙ sym (ap (λ (c : Checked Scanned). buffer_after c lent) is);
              bound = λ e found.
                  let same : tree_of pattern ≡ e = cc in
                  subst (λ (n : ℕ). n ≤ replace_bound e (length line)) (sym s)
                  (subst
                  (λ (f : Pattern). (whole_of pattern template line).steps ≤ replace_bound f (length line)) same
                  (replace_all_steps (tree_of pattern) template line (pieces_of template) small));
            }
