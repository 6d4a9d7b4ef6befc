-- Checking a pattern: the walk over its records, refusals 1 to 8 in their order, and the tree that is found.
use Rattle.std.specs.Prelude.{ℕ, zero, suc, ◌+◌, ◌-◌, ◌*◌, Bool, true, cond, ◌&&◌, ◌||◌, List, [], ◌∷◌, leb, ltb, eqb, length, get_or, take, drop}
use Rattle.paper.specs.Limits.{pattern_bytes, pattern_levels, pattern_groups, pattern_places, set_pairs, repeat_count, no_upper_end}
use Rattle.paper.specs.Refusal.{Checked, refused, accepted, ◌>>=◌, ◌>>◌, holds}
use Rattle.paper.specs.Refusal.{pattern_too_long, broken_record, unknown_kind, set_wrong, repeat_wrong, too_deep, too_many_groups, too_many_places}
use Rattle.paper.specs.Pattern.{Mode, greedy, lazy, Upper, up_to, no_end, Range, Pattern, Members, all_places, depth, groups}
use Rattle.paper.specs.Pattern.Pattern.{nothing, empty, bytes, group, sequence, alternation, repeat}
use Rattle.paper.specs.Pattern.Members.{two, more}
use Rattle.paper.specs.Layout.{Kind, nothing_kind, empty_kind, bytes_kind, group_kind, sequence_kind, alternation_kind, repeat_kind, kinds, kind_number, mode_number}

-- Patterns 1: the number whose two bytes stand at an offset
abbrev pub number_at : List ℕ → ℕ → ℕ
number_at bs at = get_or bs at 0 + 256 * get_or bs (at + 1) 0

-- Patterns 1: the parts of the record at an offset: its body's length, its kind, where its body starts and ends
abbrev pub body_length : List ℕ → ℕ → ℕ
body_length bs at = number_at bs at

abbrev pub kind_at : List ℕ → ℕ → ℕ
kind_at bs at = number_at bs (at + 2)

abbrev pub body_start : ℕ → ℕ
body_start at = at + 4

abbrev pub body_end : List ℕ → ℕ → ℕ
body_end bs at = body_start at + body_length bs at

-- the bytes from one offset up to another
abbrev pub part : List ℕ → ℕ → ℕ → List ℕ
part bs start end = take (end - start) (drop start bs)

-- Refusals 1, table, 3: the kind that has this number
abbrev pub kind_among : List Kind → ℕ → ℕ → Checked Kind
kind_among [] number at = refused unknown_kind at
kind_among (k ∷ ks) number at = cond (eqb number (kind_number k)) (accepted k) (kind_among ks number at)

-- Refusals 2: at each record first 2, where its header or its body runs past its holder (a body's end is past its header), then 3
abbrev pub header : List ℕ → ℕ → ℕ → Checked Kind
header bs at holder_end = holds (leb (body_end bs at) holder_end) broken_record at >> kind_among kinds (kind_at bs at) at

-- Refusals 2: kinds 0 and 1 with a body are 2 at that record
abbrev pub bare : Pattern → List ℕ → ℕ → Checked Pattern
bare e bs at = holds (eqb (body_length bs at) 0) broken_record at >> accepted e

-- Patterns 2, table, kind 2: a body as pairs of low and high
abbrev pub ranges_of : List ℕ → List Range
ranges_of [] = []
ranges_of (low ∷ []) = []
ranges_of (low ∷ high ∷ rest) = record { low = low; high = high } ∷ ranges_of rest

-- Patterns 2, table, kind 2: each low at most its high, and at least 2 above the high before it
abbrev pub apart : List Range → Bool
apart [] = true
apart (r ∷ []) = leb r.low r.high
apart (r ∷ s ∷ rs) = leb r.low r.high && leb (r.high + 2) s.low && apart (s ∷ rs)

-- Patterns 2, table, kind 2: 1 to 32 whole pairs
abbrev pub set_right : List ℕ → Bool
set_right body =
    eqb (length body) (2 * length (ranges_of body)) && leb 1 (length (ranges_of body)) && leb (length (ranges_of body)) set_pairs && apart (ranges_of body)

abbrev pub byte_set : List ℕ → ℕ → Checked Pattern
byte_set bs at =
    let body = part bs (body_start at) (body_end bs at) in
    holds (set_right body) set_wrong at >> accepted (bytes (ranges_of body))

-- Patterns 3: the three numbers of a repeat: least, most, mode
abbrev pub repeat_numbers_right : ℕ → ℕ → ℕ → Bool
repeat_numbers_right least most mode =
    leb least repeat_count && (leb most repeat_count || eqb most no_upper_end) && leb least most && leb mode (mode_number lazy)

abbrev pub upper_of : ℕ → Upper
upper_of most = cond (eqb most no_upper_end) no_end (up_to most)

abbrev pub mode_of : ℕ → Mode
mode_of mode = cond (eqb mode (mode_number greedy)) greedy lazy

-- the bytes that the three numbers take
abbrev pub repeat_head : ℕ
repeat_head = 6

-- Refusals 2: a way to walk one record: from its offset, up to the end of its holder, with so many groups before it
abbrev pub Walk : Type 0
Walk = ℕ → ℕ → ℕ → Checked Pattern

-- Refusals 2: the single record inside a group or a repeat, walked from `start`; what is left over behind it is 2 at the holder
abbrev pub single : Walk → List ℕ → ℕ → ℕ → ℕ → Checked Pattern
single walk bs at start groups_before =
    walk start (body_end bs at) groups_before >>= λ e.
    holds (eqb (body_end bs start) (body_end bs at)) broken_record at >> accepted e

-- Refusals 2: the records from an offset up to the end of their holder, left to right. Each turn takes a byte at least, so as many turns as bytes are enough
abbrev pub walk_all : ℕ → Walk → List ℕ → ℕ → ℕ → ℕ → Checked (List Pattern)
walk_all zero walk bs at holder_end groups_before = accepted []
walk_all (suc turns) walk bs at holder_end groups_before =
    cond (ltb at holder_end)
    (walk at holder_end groups_before >>= λ e.
    walk_all turns walk bs (body_end bs at) holder_end (groups_before + groups e) >>= λ es.
    accepted (e ∷ es))
    (accepted [])

abbrev pub members_from : Pattern → Pattern → List Pattern → Members
members_from a b [] = two a b
members_from a b (c ∷ cs) = more a (members_from b c cs)

-- Refusals 2: fewer than two records in kinds 4 and 5 are 2 at the holder, after the walk of those that are there
abbrev pub at_least_two : List Pattern → ℕ → Checked Members
at_least_two [] at = refused broken_record at
at_least_two (a ∷ []) at = refused broken_record at
at_least_two (a ∷ b ∷ rest) at = accepted (members_from a b rest)

abbrev pub several : Walk → List ℕ → ℕ → ℕ → Checked Members
several walk bs at groups_before =
    walk_all (body_length bs at) walk bs (body_start at) (body_end bs at) groups_before >>= λ es.
    at_least_two es at

-- Refusals 2: a record's own body by its kind, then 7, then what it holds
abbrev pub body : Kind → Walk → List ℕ → ℕ → ℕ → Checked Pattern
body nothing_kind walk bs at groups_before = bare nothing bs at
body empty_kind walk bs at groups_before = bare empty bs at
body bytes_kind walk bs at groups_before = byte_set bs at
body group_kind walk bs at groups_before =
    holds (ltb groups_before pattern_groups) too_many_groups at >>
    (single walk bs at (body_start at) (groups_before + 1) >>= λ e. accepted (group e))
body sequence_kind walk bs at groups_before = several walk bs at groups_before >>= λ ms. accepted (sequence ms)
body alternation_kind walk bs at groups_before = several walk bs at groups_before >>= λ ms. accepted (alternation ms)
body repeat_kind walk bs at groups_before =
    let start = body_start at in
    let least = number_at bs start in
    let most = number_at bs (start + 2) in
    let mode = number_at bs (start + 4) in
    holds (leb repeat_head (body_length bs at)) broken_record at >>
    (holds (repeat_numbers_right least most mode) repeat_wrong at >>
    (single walk bs at (start + repeat_head) groups_before >>= λ e. accepted (repeat least (upper_of most) (mode_of mode) e)))

-- Refusals 2 and Patterns 4: the walk of one record, with so many levels left for it and what it holds
abbrev pub walk_record : ℕ → List ℕ → Walk
walk_record zero bs at holder_end groups_before = header bs at holder_end >>= λ kind. refused too_deep at
walk_record (suc left) bs at holder_end groups_before = header bs at holder_end >>= λ kind. body kind (walk_record left bs) bs at groups_before

-- Refusals 1 and 2: refusals 1 to 8 of a pattern in their order, or its tree
abbrev pub pattern_of : List ℕ → Checked Pattern
pattern_of bs =
    holds (leb (length bs) pattern_bytes) pattern_too_long 0 >>
    (walk_record pattern_levels bs 0 (length bs) 0 >>= λ e.
    holds (eqb (body_end bs 0) (length bs)) broken_record (body_end bs 0) >>
    (holds (leb (all_places e) pattern_places) too_many_places 0 >> accepted e))

-- Refusals 3: what checking a pattern answers
pub record Numbers : Type 0 where
  pub places : ℕ
  pub depth : ℕ
  pub groups : ℕ

abbrev pub numbers_of : Pattern → Numbers
numbers_of e = record { places = all_places e; depth = depth e; groups = groups e }

abbrev pub check : List ℕ → Checked Numbers
check bs = pattern_of bs >>= λ e. accepted (numbers_of e)
