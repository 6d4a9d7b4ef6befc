-- Every refusal of the definitions has one of the sixteen numbers: each test names its number, and the first fault counts.
use Prim.Native.Nat.{ℕ, zero, suc, ◌+◌, ◌≤◌}
use native.Mathlib.Omega.{arith}
use mathlib.Core.Bool.{Bool, true, false, cond, ◌&&◌}
use mathlib.Core.List.{List, [], ◌∷◌}
use mathlib.Core.Option.{Option}
use Rattle.paper.specs.Limits.{pattern_bytes, pattern_levels, pattern_groups, pattern_places, template_bytes, line_bytes, table_numbers, step_limit}
use Rattle.paper.specs.Refusal.{Checked, refused, accepted, ◌>>=◌, ◌>>◌, holds}
use Rattle.paper.specs.Refusal.{pattern_too_long, broken_record, set_wrong, repeat_wrong, too_deep, too_many_groups, too_many_places, template_wrong, reference_too_high, line_too_long, table_too_short, output_too_long, too_many_steps, row_wrong}
use Rattle.paper.specs.Pattern.{Pattern, all_places, groups}
use Rattle.paper.specs.Layout.{Kind, nothing_kind, empty_kind, bytes_kind, group_kind, sequence_kind, alternation_kind, repeat_kind, kinds, kind_number}
use Rattle.paper.specs.Check.{number_at, body_length, kind_at, body_start, body_end, part, set_right, repeat_head, repeat_numbers_right, Walk, kind_among, header, single, walk_all, at_least_two, several, body, walk_record, pattern_of, numbers_of, check, ranges_of, upper_of, mode_of}
use Rattle.paper.specs.Rows.{Rows, row_start, row_end}
use Rattle.paper.specs.Match.{whole_match, search, match_steps, search_steps, line_and_table, counted, Found, match_call, search_call, told}
use Rattle.paper.specs.Template.{Piece, literal, reference, literal_kind, reference_kind, literal_at, reference_at, piece_at, pieces_from, template_of, within}
use Rattle.paper.specs.Replace.{replace_all, replace_call, Replaced, replace_answer}
use Rattle.paper.specs.PieceCalls.{is_absent, span_at, row_span, piece_call, from_line}
use lib.Dec.{leb, ltb, eqb}
use lib.ListN.{length}
use Rattle.telling.specs.Told.{Numbered}

-- the same as a record, from whose type the answer can be read
record Named {A : Type 0} (c : Checked A) : Type 0 where
  pub numbered : Numbered c

yes : {A : Type 0} {a : A} → Named (accepted a)
yes = record { numbered = tt }

no : {A : Type 0} {number place : ℕ} → 1 ≤ number → number ≤ 16 → Named {A = A} (refused number place)
no low high = record { numbered = (low, high) }

test : (b : Bool) (number place : ℕ) → 1 ≤ number → number ≤ 16 → Named (holds b number place)
test true number place low high = yes
test false number place low high = no low high

then : {A B : Type 0} {c : Checked A} {next : A → Checked B} → Named c → ((a : A) → Named (next a)) → Named (c >>= next)
then {c = refused number place} h k = record { numbered = h.numbered }
then {c = accepted a} h k = k a

after : {A B : Type 0} {c : Checked A} {next : Checked B} → Named c → Named next → Named (c >> next)
after {c = refused number place} h k = record { numbered = h.numbered }
after {c = accepted a} h k = k

either : {A : Type 0} (b : Bool) {c d : Checked A} → Named c → Named d → Named (cond b c d)
either true h k = h
either false h k = k

-- one test that names its number
asked : {A : Type 0} (b : Bool) (number place : ℕ) {next : Checked A} → 1 ≤ number → number ≤ 16 → Named next → Named (holds b number place >> next)
asked b number place low high h = after (test b number place low high) h

-- A pattern

kind_named : (ks : List Kind) (number at : ℕ) → Named (kind_among ks number at)
kind_named [] number at = no (omega arith) (omega arith)
kind_named (k ∷ ks) number at = either (eqb number (kind_number k)) (yes {a = k}) (kind_named ks number at)

header_named : (bs : List ℕ) (at stop : ℕ) → Named (header bs at stop)
header_named bs at stop = asked (leb (body_end bs at) stop) broken_record at (omega arith) (omega arith) (kind_named kinds (kind_at bs at) at)

two_named : (es : List Pattern) (at : ℕ) → Named (at_least_two es at)
two_named [] at = no (omega arith) (omega arith)
two_named (a ∷ []) at = no (omega arith) (omega arith)
two_named (a ∷ b ∷ rest) at = yes

module _ (walk : Walk) (walked : (at stop before : ℕ) → Named (walk at stop before)) (bs : List ℕ) where
  single_named : (at start before : ℕ) → Named (single walk bs at start before)
  single_named at start before =
      then (walked start (body_end bs at) before) (λ e. asked (eqb (body_end bs start) (body_end bs at)) broken_record at (omega arith) (omega arith) (yes {a = e}))

  all_named : (turns at stop before : ℕ) → Named (walk_all turns walk bs at stop before)
  all_named zero at stop before = yes
  all_named (suc turns) at stop before =
      either (ltb at stop)
      (then (walked at stop before) (λ e. then (all_named turns (body_end bs at) stop (before + groups e)) (λ es. yes {a = e ∷ es})))
      (yes {a = []})

  several_named : (at before : ℕ) → Named (several walk bs at before)
  several_named at before = then (all_named (body_length bs at) (body_start at) (body_end bs at) before) (λ es. two_named es at)

  body_named : (kind : Kind) (at before : ℕ) → Named (body kind walk bs at before)
  body_named nothing_kind at before = asked (eqb (body_length bs at) 0) broken_record at (omega arith) (omega arith) (yes {a = Pattern.nothing})
  body_named empty_kind at before = asked (eqb (body_length bs at) 0) broken_record at (omega arith) (omega arith) (yes {a = Pattern.empty})
  body_named bytes_kind at before =
      let inside = part bs (body_start at) (body_end bs at) in
      asked (set_right inside) set_wrong at (omega arith) (omega arith) (yes {a = Pattern.bytes (ranges_of inside)})
  body_named group_kind at before =
      asked (ltb before pattern_groups) too_many_groups at (omega arith) (omega arith)
      (then (single_named at (body_start at) (before + 1)) (λ e. yes {a = Pattern.group e}))
  body_named sequence_kind at before = then (several_named at before) (λ ms. yes {a = Pattern.sequence ms})
  body_named alternation_kind at before = then (several_named at before) (λ ms. yes {a = Pattern.alternation ms})
  body_named repeat_kind at before =
      let start = body_start at in
      let least = number_at bs start in
      let most = number_at bs (start + 2) in
      let mode = number_at bs (start + 4) in
      asked (leb repeat_head (body_length bs at)) broken_record at (omega arith) (omega arith)
      (asked (repeat_numbers_right least most mode) repeat_wrong at (omega arith) (omega arith)
      (then (single_named at (start + repeat_head) before) (λ e. yes {a = Pattern.repeat least (upper_of most) (mode_of mode) e})))

record_named : (left : ℕ) (bs : List ℕ) (at stop before : ℕ) → Named (walk_record left bs at stop before)
record_named zero bs at stop before = then (header_named bs at stop) (λ kind. no {A = Pattern} {number = too_deep} {place = at} (omega arith) (omega arith))
record_named (suc left) bs at stop before =
    then (header_named bs at stop) (λ kind. body_named (walk_record left bs) (record_named left bs) bs kind at before)

pattern_named : (bs : List ℕ) → Named (pattern_of bs)
pattern_named bs =
    asked (leb (length bs) pattern_bytes) pattern_too_long 0 (omega arith) (omega arith)
    (then (record_named pattern_levels bs 0 (length bs) 0) (λ e.
    asked (eqb (body_end bs 0) (length bs)) broken_record (body_end bs 0) (omega arith) (omega arith)
    (asked (leb (all_places e) pattern_places) too_many_places 0 (omega arith) (omega arith) (yes {a = e}))))

-- a pattern's refusals
pub pattern_numbered : (bs : List ℕ) → Numbered (pattern_of bs)
pattern_numbered bs = (pattern_named bs).numbered

-- the refusals of checking
pub check_numbered : (bs : List ℕ) → Numbered (check bs)
check_numbered bs = (then (pattern_named bs) (λ e. yes {a = numbers_of e})).numbered

-- A line

line_named : (line table : List ℕ) → Named (line_and_table line table)
line_named line table =
    asked (leb (length line) line_bytes) line_too_long 0 (omega arith) (omega arith) (test (leb table_numbers (length table)) table_too_short 0 (omega arith) (omega arith))

counted_named : (rows : Option Rows) (steps : ℕ) → Named (told (counted rows steps))
counted_named rows steps = look (leb steps step_limit)
  where
    look : (b : Bool) → Named (told (holds b too_many_steps 0 >> accepted (record { rows = rows; steps = steps })))
    look true = record { numbered = tt }
    look false = no (omega arith) (omega arith)

-- the tests of a call in front of what it tells
told_after : {A : Type 0} {c : Checked A} (next : Checked Found) → Named c → Named (told next) → Named (told (c >> next))
told_after {c = refused number place} next h k = record { numbered = h.numbered }
told_after {c = accepted a} next h k = k

told_then : {A : Type 0} {c : Checked A} (next : A → Checked Found) → Named c → ((a : A) → Named (told (next a))) → Named (told (c >>= next))
told_then {c = refused number place} next h k = record { numbered = h.numbered }
told_then {c = accepted a} next h k = k a

-- the refusals of a whole match and of a search
pub match_numbered : (pattern line table : List ℕ) → Numbered (told (match_call pattern line table))
match_numbered pattern line table =
    (told_then (λ e. line_and_table line table >> counted (whole_match e line) (match_steps e line)) (pattern_named pattern)
    (λ e. told_after (counted (whole_match e line) (match_steps e line)) (line_named line table) (counted_named (whole_match e line) (match_steps e line)))).numbered

pub search_numbered : (pattern line table : List ℕ) → Numbered (told (search_call pattern line table))
search_numbered pattern line table =
    (told_then (λ e. line_and_table line table >> counted (search e line) (search_steps e line)) (pattern_named pattern)
    (λ e. told_after (counted (search e line) (search_steps e line)) (line_named line table) (counted_named (search e line) (search_steps e line)))).numbered

-- A template

literal_named : (bs : List ℕ) (at : ℕ) → Named (literal_at bs at)
literal_named bs at = asked (leb 1 (body_length bs at)) template_wrong at (omega arith) (omega arith) (yes {a = literal at (body_start at) (body_end bs at)})

reference_named : (bs : List ℕ) (at : ℕ) → Named (reference_at bs at)
reference_named bs at =
    let row = number_at bs (body_start at) in
    asked (eqb (body_length bs at) 2 && leb row pattern_groups) template_wrong at (omega arith) (omega arith) (yes {a = reference at row})

piece_named : (bs : List ℕ) (at : ℕ) → Named (piece_at bs at)
piece_named bs at =
    asked (leb (body_end bs at) (length bs)) template_wrong at (omega arith) (omega arith)
    (either (eqb (kind_at bs at) literal_kind) (literal_named bs at)
    (either (eqb (kind_at bs at) reference_kind) (reference_named bs at) (no {A = Piece} {number = template_wrong} {place = at} (omega arith) (omega arith))))

pieces_named : (turns : ℕ) (bs : List ℕ) (at : ℕ) → Named (pieces_from turns bs at)
pieces_named zero bs at = yes
pieces_named (suc turns) bs at =
    either (ltb at (length bs)) (then (piece_named bs at) (λ piece. then (pieces_named turns bs (body_end bs at)) (λ rest. yes {a = piece ∷ rest}))) (yes {a = []})

row_named : (size start end : ℕ) → Named (row_span size start end)
row_named size start end =
    either (is_absent start end) (yes {a = record { source = from_line; start = 0; end = 0 }})
    (asked (leb start end && leb end size) row_wrong 0 (omega arith) (omega arith) (yes {a = record { source = from_line; start = start; end = end }}))

span_named : (pieces : List Piece) (n size : ℕ) (table : Rows) → Named (span_at pieces n size table)
span_named [] n size table = no (omega arith) (omega arith)
span_named (literal at start end ∷ rest) zero size table = yes
span_named (reference at row ∷ rest) zero size table = row_named size (row_start row table) (row_end row table)
span_named (piece ∷ rest) (suc n) size table = span_named rest n size table

template_named : (bs : List ℕ) → Named (template_of bs)
template_named bs = asked (leb (length bs) template_bytes) template_wrong 0 (omega arith) (omega arith) (pieces_named (length bs) bs 0)

-- the refusals of a piece
pub piece_numbered : (template line table : List ℕ) (n : ℕ) → Numbered (piece_call template line table n)
piece_numbered template line table n =
    (then (template_named template) (λ pieces. after (line_named line table) (span_named pieces n (length line) table))).numbered

within_named : (pieces : List Piece) (many : ℕ) → Named (within pieces many)
within_named [] many = yes
within_named (literal at start end ∷ rest) many = within_named rest many
within_named (reference at row ∷ rest) many = asked (leb row many) reference_too_high at (omega arith) (omega arith) (within_named rest many)

replacing_named : (pattern template line buffer : List ℕ) → Named (replace_call pattern template line buffer)
replacing_named pattern template line buffer =
    then (pattern_named pattern) (λ e. then (template_named template) (λ pieces.
    after (within_named pieces (groups e))
    (asked (leb (length line) line_bytes) line_too_long 0 (omega arith) (omega arith)
    (asked (leb (length (replace_all e template pieces line).output) (length buffer)) output_too_long 0 (omega arith) (omega arith)
    (yes {a = replace_all e template pieces line})))))

-- the refusals of replace-all
pub replace_numbered : (pattern template line buffer : List ℕ) → Numbered (replace_answer (replace_call pattern template line buffer))
replace_numbered pattern template line buffer =
    (then (replacing_named pattern template line buffer)
    (λ s. yes {A = Replaced} {a = record { output_length = length s.output; replaced = s.replaced; steps = s.steps }})).numbered
