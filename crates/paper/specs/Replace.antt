-- Replace-all: the scan over the line, its answer and refusals, and the output buffer afterwards.
use Rattle.std.specs.Prelude.{ℕ, zero, suc, ◌+◌, Bool, true, false, cond, ◌&&◌, List, [], ◌∷◌, ◌++◌, map, leb, ltb, eqb, length, drop}
use Rattle.std.proofs.Math.Option.{Option, none, some}
use Rattle.paper.specs.Limits.{line_bytes, absent}
use Rattle.paper.specs.Refusal.{Checked, refused, accepted, ◌>>=◌, ◌>>◌, holds, line_too_long, output_too_long}
use Rattle.paper.specs.Pattern.{Pattern, groups}
use Rattle.paper.specs.Check.{pattern_of, part}
use Rattle.paper.specs.Rows.{Rows, row_start, row_end}
use Rattle.paper.specs.Machine.{Stopped, matched, unmatched}
use Rattle.paper.specs.Match.{search, search_steps}
use Rattle.paper.specs.Template.{Piece, literal, reference, template_of, within}

-- Replace 2: places in the rest of a line, as places in the whole line; an absent row stays absent
abbrev pub moved_by : ℕ → ℕ → ℕ
moved_by p n = cond (eqb n absent) absent (p + n)

abbrev pub moved : ℕ → Rows → Rows
moved p rows = map (moved_by p) rows

-- the same of how the list machine stops
abbrev pub moved_stopped : ℕ → Stopped → Stopped
moved_stopped p (matched steps rows) = matched steps (moved p rows)
moved_stopped p (unmatched steps) = unmatched steps

-- Replace 1: what a row holds; an absent one nothing
abbrev pub row_bytes : List ℕ → Rows → ℕ → List ℕ
row_bytes line rows k = cond (eqb (row_start k rows) absent) [] (part line (row_start k rows) (row_end k rows))

-- Replace 1: what the template puts in for a match
abbrev pub put_in : List ℕ → List ℕ → Rows → List Piece → List ℕ
put_in template line rows [] = []
put_in template line rows (literal at start end ∷ rest) = part template start end ++ put_in template line rows rest
put_in template line rows (reference at row ∷ rest) = row_bytes line rows row ++ put_in template line rows rest

-- Replace 2: what a scan gives: the output, the replacements and the sum of the steps
pub record Scanned : Type 0 where
  pub output : List ℕ
  pub replaced : ℕ
  pub steps : ℕ

-- the same with bytes, replacements and steps put before it
abbrev pub precede : List ℕ → ℕ → ℕ → Scanned → Scanned
precede bytes replaced steps rest =
    record { output = bytes ++ rest.output; replaced = replaced + rest.replaced; steps = steps + rest.steps }

-- Replace 2: an empty match that stands where the last non-empty match ended is not replaced
abbrev pub suppressed : ℕ → ℕ → Option ℕ → Bool
suppressed start end none = false
suppressed start end (some last) = eqb start end && eqb start last

-- Replace 2: how the scan goes on from a position, after a non-empty match that ended there or elsewhere
abbrev pub Scan : Type 0
Scan = ℕ → Option ℕ → Scanned

-- Replace 2: whether the match is non-empty, and whether a byte stands at its start: after a non-empty match go on from its end;
-- after an empty one copy the byte there, if any, and go on past it, ending past the line's end
abbrev pub scan_on : Bool → Bool → Scan → List ℕ → ℕ → ℕ → Option ℕ → Scanned
scan_on true byte scan line start end last = scan end (some end)
scan_on false true scan line start end last = precede (part line start (start + 1)) 0 0 (scan (start + 1) last)
scan_on false false scan line start end last = record { output = []; replaced = 0; steps = 0 }

-- Replace 2: after a match, its rows in the whole line: copy up to it, put in the template unless it is suppressed, go on
abbrev pub after_match : Scan → List ℕ → List ℕ → List Piece → ℕ → Option ℕ → ℕ → Rows → Scanned
after_match scan template line pieces p last steps rows =
    let start = row_start 0 rows in
    let end = row_end 0 rows in
    let over = suppressed start end last in
    precede (part line p start ++ cond over [] (put_in template line rows pieces)) (cond over 0 1) steps
    (scan_on (ltb start end) (ltb start (length line)) scan line start end last)

-- Replace 2: the search of the rest of the line from p, as a line of its own; with no match the rest is copied
abbrev pub after_search : Scan → List ℕ → List ℕ → List Piece → ℕ → Option ℕ → ℕ → Option Rows → Scanned
after_search scan template line pieces p last steps none = record { output = drop p line; replaced = 0; steps = steps }
after_search scan template line pieces p last steps (some rows) = after_match scan template line pieces p last steps (moved p rows)

-- Replace 2: the scan. Each search starts further on than the last, so one more than the line has bytes is enough
abbrev pub scan : ℕ → Pattern → List ℕ → List ℕ → List Piece → Scan
scan zero e template line pieces p last = record { output = []; replaced = 0; steps = 0 }
scan (suc searches) e template line pieces p last =
    let rest = drop p line in
    after_search (scan searches e template line pieces) template line pieces p last (search_steps e rest) (search e rest)

abbrev pub replace_all : Pattern → List ℕ → List Piece → List ℕ → Scanned
replace_all e template pieces line = scan (suc (length line)) e template line pieces 0 none

-- Refusals 3: replace-all refuses by 1 to 8, 9, 10, 11, 13, in this order
abbrev pub replace_call : List ℕ → List ℕ → List ℕ → List ℕ → Checked Scanned
replace_call pattern template line buffer =
    pattern_of pattern >>= λ e.
    template_of template >>= λ pieces.
    within pieces (groups e) >>
    (holds (leb (length line) line_bytes) line_too_long 0 >>
    (let scanned = replace_all e template pieces line in
    holds (leb (length scanned.output) (length buffer)) output_too_long 0 >> accepted scanned))

-- Replace 2: what the call answers
pub record Replaced : Type 0 where
  pub output_length : ℕ
  pub replaced : ℕ
  pub steps : ℕ

abbrev pub replace_answer : Checked Scanned → Checked Replaced
replace_answer answer =
    answer >>= λ s. accepted (record { output_length = length s.output; replaced = s.replaced; steps = s.steps })

-- Replace 2, last sentence, and Refusals 3: the buffer afterwards: the output, then the bytes that stood behind; a refusal changes nothing
abbrev pub buffer_after : Checked Scanned → List ℕ → List ℕ
buffer_after (refused number place) buffer = buffer
buffer_after (accepted s) buffer = s.output ++ drop (length s.output) buffer
