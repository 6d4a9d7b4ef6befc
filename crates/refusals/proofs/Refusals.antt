-- What the definitions refuse, and in which order, shown by computing: byte strings with two faults at once, each refusal once, and what is just allowed.
-- The same for what replace-all and piece answer.
use Prim.Native.Nat.{ℕ, zero, suc, ◌+◌}
use mathlib.Core.Path.{◌≡◌, refl}
use mathlib.Core.List.{List, [], ◌∷◌, ◌++◌, map}
use mathlib.Core.Option.{none, some}
use lib.ListN.{length, replicate}
use Rattle.paper.specs.Refusal.{Checked, refused, accepted}
use Rattle.paper.specs.Check.{Numbers, check}
use Rattle.paper.specs.Match.{Found, match_call, search_call, table_after}
use Rattle.paper.specs.Replace.{Replaced, replace_call, replace_answer, buffer_after}
use Rattle.paper.specs.PieceCalls.{Span, from_template, from_line, piece_call, part_call}
use Rattle.paper.proofs.known.Known.{same, lent, filled, row1, many_b, dash, arrow_and_row1, abc}

-- what can be asked: a pattern's numbers; a match or a search in a line, into a table; replacements by a template, into a buffer; a template's piece, by its number
pub data Question : Type 0 where
  checking : List ℕ → Question
  matching searching : List ℕ → List ℕ → List ℕ → Question
  replacing : List ℕ → List ℕ → List ℕ → List ℕ → Question
  piecing : List ℕ → List ℕ → List ℕ → ℕ → Question

-- what is told: the answer, and the table or buffer afterwards, or the part
pub data Answer : Type 0 where
  checked : Checked Numbers → Answer
  found : Checked Found → List ℕ → Answer
  replaced : Checked Replaced → List ℕ → Answer
  put : Checked Span → List ℕ → Answer

abbrev pub answer : Question → Answer
answer (checking pattern) = checked (check pattern)
answer (matching pattern line table) = let a = match_call pattern line table in found a (table_after a table)
answer (searching pattern line table) = let a = search_call pattern line table in found a (table_after a table)
answer (replacing pattern template line buffer) =
    let a = replace_call pattern template line buffer in replaced (replace_answer a) (buffer_after a buffer)
answer (piecing template line table n) = let a = piece_call template line table n in put a (part_call a template line)

-- a question and what is to be told
pub record Case : Type 0 where
  pub question : Question
  pub told : Answer

infixr 4 ◌gives◌
abbrev ◌gives◌ : Question → Answer → Case
question gives told = record { question = question; told = told }

-- a record so many times inside others
abbrev inside : ℕ → (List ℕ → List ℕ) → List ℕ → List ℕ
inside zero holder bs = bs
inside (suc n) holder bs = holder (inside n holder bs)

-- the record of a group, and of a repeat of 1 to 1, that holds a record of less than 250 bytes
abbrev group_of : List ℕ → List ℕ
group_of bs = length bs ∷ 0 ∷ 3 ∷ 0 ∷ bs

abbrev repeat_once : List ℕ → List ℕ
repeat_once bs = (6 + length bs) ∷ 0 ∷ 6 ∷ 0 ∷ 1 ∷ 0 ∷ 1 ∷ 0 ∷ 0 ∷ 0 ∷ bs

-- so many pairs of a set: every other byte
abbrev evens : ℕ → ℕ → List ℕ
evens zero low = []
evens (suc n) low = low ∷ low ∷ evens n (low + 2)

-- the paragraph under the table, sentence by sentence: two faults at once, where the order decides
abbrev pub walk : List Case
walk =
    -- offsets; outer before inner: a mode of 2, and an unknown kind inside
    (checking (10 ∷ 0 ∷ 6 ∷ 0 ∷ 0 ∷ 0 ∷ 1 ∷ 0 ∷ 2 ∷ 0 ∷ 0 ∷ 0 ∷ 7 ∷ 0 ∷ []) gives checked (refused 5 0))
    -- left to right: a set whose low is above its high, then an unknown kind
    ∷ (checking (10 ∷ 0 ∷ 4 ∷ 0 ∷ 2 ∷ 0 ∷ 2 ∷ 0 ∷ 98 ∷ 97 ∷ 0 ∷ 0 ∷ 7 ∷ 0 ∷ []) gives checked (refused 4 4))
    -- at each record 2 before 3: a body that is not all there, of an unknown kind
    ∷ (checking (2 ∷ 0 ∷ 7 ∷ 0 ∷ 97 ∷ []) gives checked (refused 2 0))
    -- inside its holder: an inner body that runs past the group, though not past the pattern
    ∷ (checking (12 ∷ 0 ∷ 4 ∷ 0 ∷ 4 ∷ 0 ∷ 3 ∷ 0 ∷ 1 ∷ 0 ∷ 1 ∷ 0 ∷ 0 ∷ 0 ∷ 1 ∷ 0 ∷ []) gives checked (refused 2 8))
    -- 2 before 6: a cut record on level 17
    ∷ (checking (inside 16 repeat_once (5 ∷ 0 ∷ 2 ∷ 0 ∷ [])) gives checked (refused 2 160))
    -- 3 before 6: an unknown kind on level 17
    ∷ (checking (inside 16 repeat_once (0 ∷ 0 ∷ 7 ∷ 0 ∷ [])) gives checked (refused 3 160))
    -- 6 before the body: a wrong set on level 17
    ∷ (checking (inside 16 repeat_once (2 ∷ 0 ∷ 2 ∷ 0 ∷ 98 ∷ 97 ∷ [])) gives checked (refused 6 160))
    -- 7 before what a group holds: an unknown kind in the tenth group
    ∷ (checking (inside 10 group_of (0 ∷ 0 ∷ 7 ∷ 0 ∷ [])) gives checked (refused 7 36))
    -- an empty string with a body, then an unknown kind
    ∷ (checking (9 ∷ 0 ∷ 4 ∷ 0 ∷ 1 ∷ 0 ∷ 1 ∷ 0 ∷ 120 ∷ 0 ∷ 0 ∷ 7 ∷ 0 ∷ []) gives checked (refused 2 4))
    -- a repeat body under 6 bytes, with a least above its most
    ∷ (checking (4 ∷ 0 ∷ 6 ∷ 0 ∷ 255 ∷ 255 ∷ 0 ∷ 0 ∷ []) gives checked (refused 2 0))
    -- after the inner records: fewer than two, and the one is of an unknown kind
    ∷ (checking (4 ∷ 0 ∷ 4 ∷ 0 ∷ 0 ∷ 0 ∷ 7 ∷ 0 ∷ []) gives checked (refused 3 4))
    -- fewer than two, and bytes behind the outermost record
    ∷ (checking (4 ∷ 0 ∷ 5 ∷ 0 ∷ 0 ∷ 0 ∷ 1 ∷ 0 ∷ 0 ∷ []) gives checked (refused 2 0))
    -- bytes left over in a group, and what stands before them is of an unknown kind
    ∷ (checking (6 ∷ 0 ∷ 3 ∷ 0 ∷ 0 ∷ 0 ∷ 7 ∷ 0 ∷ 0 ∷ 0 ∷ []) gives checked (refused 3 4))
    -- bytes left over in a group are not walked: 2 at the holder
    ∷ (checking (6 ∷ 0 ∷ 3 ∷ 0 ∷ 0 ∷ 0 ∷ 1 ∷ 0 ∷ 0 ∷ 0 ∷ []) gives checked (refused 2 0))
    -- nor in a repeat
    ∷ (checking (14 ∷ 0 ∷ 6 ∷ 0 ∷ 0 ∷ 0 ∷ 1 ∷ 0 ∷ 0 ∷ 0 ∷ 0 ∷ 0 ∷ 1 ∷ 0 ∷ 0 ∷ 0 ∷ 7 ∷ 0 ∷ []) gives checked (refused 2 0))
    -- in a sequence they are one more record, which is broken
    ∷ (checking (10 ∷ 0 ∷ 4 ∷ 0 ∷ 0 ∷ 0 ∷ 1 ∷ 0 ∷ 0 ∷ 0 ∷ 1 ∷ 0 ∷ 0 ∷ 0 ∷ []) gives checked (refused 2 12))
    -- a missing single record is 2 where it should begin: an empty group, and an unknown kind behind it
    ∷ (checking (8 ∷ 0 ∷ 4 ∷ 0 ∷ 0 ∷ 0 ∷ 3 ∷ 0 ∷ 0 ∷ 0 ∷ 7 ∷ 0 ∷ []) gives checked (refused 2 8))
    -- wrong numbers before a missing record
    ∷ (checking (6 ∷ 0 ∷ 6 ∷ 0 ∷ 2 ∷ 0 ∷ 1 ∷ 0 ∷ 0 ∷ 0 ∷ []) gives checked (refused 5 0))
    -- right numbers, and three bytes where a record should be
    ∷ (checking (9 ∷ 0 ∷ 6 ∷ 0 ∷ 0 ∷ 0 ∷ 1 ∷ 0 ∷ 0 ∷ 0 ∷ 0 ∷ 0 ∷ 0 ∷ []) gives checked (refused 2 10))
    -- a group on level 16 with nothing inside: 2 where it should begin, not 6
    ∷ (checking (inside 15 repeat_once (0 ∷ 0 ∷ 3 ∷ 0 ∷ [])) gives checked (refused 2 154))
    -- a tenth group with nothing inside: 7, not 2
    ∷ (checking (inside 9 group_of (0 ∷ 0 ∷ 3 ∷ 0 ∷ [])) gives checked (refused 7 36))
    -- bytes behind the outermost record, after the whole walk: an unknown kind inside
    ∷ (checking (4 ∷ 0 ∷ 3 ∷ 0 ∷ 0 ∷ 0 ∷ 7 ∷ 0 ∷ 0 ∷ []) gives checked (refused 3 4))
    -- bytes behind the outermost record, before 8: a{250}
    ∷ (checking (12 ∷ 0 ∷ 6 ∷ 0 ∷ 250 ∷ 0 ∷ 250 ∷ 0 ∷ 0 ∷ 0 ∷ 2 ∷ 0 ∷ 2 ∷ 0 ∷ 97 ∷ 97 ∷ 0 ∷ []) gives checked (refused 2 16))
    ∷ []

-- the other faults of a pattern, and what is just allowed
abbrev pub limits : List Case
limits =
    -- 1 before all: bytes behind the outermost record, and one byte too many
    (checking (replicate 4097 0) gives checked (refused 1 0))
    -- as many bytes as may be: what stands behind the outermost record counts
    ∷ (checking (replicate 4096 0) gives checked (refused 2 4))
    -- no bytes at all
    ∷ (checking [] gives checked (refused 2 0))
    -- kinds have two bytes: 258 is unknown
    ∷ (checking (0 ∷ 0 ∷ 2 ∷ 1 ∷ []) gives checked (refused 3 0))
    -- an empty set
    ∷ (checking (0 ∷ 0 ∷ 2 ∷ 0 ∷ []) gives checked (refused 4 0))
    -- half a pair
    ∷ (checking (1 ∷ 0 ∷ 2 ∷ 0 ∷ 97 ∷ []) gives checked (refused 4 0))
    -- two ranges that touch
    ∷ (checking (4 ∷ 0 ∷ 2 ∷ 0 ∷ 97 ∷ 98 ∷ 99 ∷ 100 ∷ []) gives checked (refused 4 0))
    -- 32 pairs
    ∷ (checking (64 ∷ 0 ∷ 2 ∷ 0 ∷ evens 32 0) gives checked (accepted (record { places = 2; depth = 0; groups = 0 })))
    -- 33 pairs
    ∷ (checking (66 ∷ 0 ∷ 2 ∷ 0 ∷ evens 33 0) gives checked (refused 4 0))
    -- a mode of 256
    ∷ (checking (10 ∷ 0 ∷ 6 ∷ 0 ∷ 0 ∷ 0 ∷ 1 ∷ 0 ∷ 0 ∷ 1 ∷ 0 ∷ 0 ∷ 1 ∷ 0 ∷ []) gives checked (refused 5 0))
    -- no upper end is no least
    ∷ (checking (10 ∷ 0 ∷ 6 ∷ 0 ∷ 255 ∷ 255 ∷ 255 ∷ 255 ∷ 0 ∷ 0 ∷ 0 ∷ 0 ∷ 1 ∷ 0 ∷ []) gives checked (refused 5 0))
    -- a most of 256
    ∷ (checking (10 ∷ 0 ∷ 6 ∷ 0 ∷ 0 ∷ 0 ∷ 0 ∷ 1 ∷ 0 ∷ 0 ∷ 0 ∷ 0 ∷ 1 ∷ 0 ∷ []) gives checked (refused 5 0))
    -- 16 levels
    ∷ (checking (inside 15 repeat_once (0 ∷ 0 ∷ 1 ∷ 0 ∷ [])) gives checked (accepted (record { places = 16; depth = 0; groups = 0 })))
    -- nine groups
    ∷ (checking (inside 9 group_of (0 ∷ 0 ∷ 1 ∷ 0 ∷ [])) gives checked (accepted (record { places = 19; depth = 0; groups = 9 })))
    -- nine groups inside a repeat of 0 to 0 count: the next is the tenth
    ∷ (checking (54 ∷ 0 ∷ 4 ∷ 0 ∷ 46 ∷ 0 ∷ 6 ∷ 0 ∷ 0 ∷ 0 ∷ 0 ∷ 0 ∷ 0 ∷ 0 ∷ (inside 9 group_of (0 ∷ 0 ∷ 1 ∷ 0 ∷ []) ++ (0 ∷ 0 ∷ 3 ∷ 0 ∷ []))) gives checked (refused 7 54))
    -- ((a)*){0,0}: what stands inside counts for depth and groups, and not for places
    ∷ (checking (26 ∷ 0 ∷ 6 ∷ 0 ∷ 0 ∷ 0 ∷ 0 ∷ 0 ∷ 0 ∷ 0 ∷ 16 ∷ 0 ∷ 6 ∷ 0 ∷ 0 ∷ 0 ∷ 255 ∷ 255 ∷ 0 ∷ 0 ∷ 6 ∷ 0 ∷ 3 ∷ 0 ∷ 2 ∷ 0 ∷ 2 ∷ 0 ∷ 97 ∷ 97 ∷ []) gives checked (accepted (record { places = 1; depth = 1; groups = 1 })))
    ∷ []

-- match and search: 1 to 8, 11, 12, and 01's case 13. No line that is taken makes so many steps that 14 is given
abbrev pub finding : List Case
finding =
    -- the pattern before the line and the table
    (matching (0 ∷ 0 ∷ 7 ∷ 0 ∷ []) (replicate 65535 0) [] gives found (refused 3 0) [])
    -- the line before the table
    ∷ (matching (0 ∷ 0 ∷ 1 ∷ 0 ∷ []) (replicate 65535 0) [] gives found (refused 11 0) [])
    -- a table of 19 numbers stays as it is
    ∷ (matching (0 ∷ 0 ∷ 1 ∷ 0 ∷ []) [] (replicate 19 7) gives found (refused 12 0) (replicate 19 7))
    -- a search refuses alike
    ∷ (searching (0 ∷ 0 ∷ 1 ∷ 0 ∷ []) (replicate 65535 0) (replicate 19 7) gives found (refused 11 0) (replicate 19 7))
    ∷ (searching (0 ∷ 0 ∷ 1 ∷ 0 ∷ []) [] (replicate 19 7) gives found (refused 12 0) (replicate 19 7))
    -- a line of 65,534 bytes, and no match: 20 numbers of 65,535
    ∷ (matching (0 ∷ 0 ∷ 1 ∷ 0 ∷ []) (replicate 65534 0) (replicate 20 7) gives found (accepted (record { rows = none; steps = 1 })) (replicate 20 65535))
    -- a search tests the limit of places without its own ten: a{249}a
    ∷ (searching (22 ∷ 0 ∷ 4 ∷ 0 ∷ 12 ∷ 0 ∷ 6 ∷ 0 ∷ 249 ∷ 0 ∷ 249 ∷ 0 ∷ 0 ∷ 0 ∷ 2 ∷ 0 ∷ 2 ∷ 0 ∷ 97 ∷ 97 ∷ 2 ∷ 0 ∷ 2 ∷ 0 ∷ 97 ∷ 97 ∷ []) [] (replicate 20 7) gives found (accepted (record { rows = none; steps = 6 })) (replicate 20 65535))
    -- 01's case 13: search (a+?)(b*) in "xaabb"
    ∷ (searching (40 ∷ 0 ∷ 4 ∷ 0 ∷ 16 ∷ 0 ∷ 3 ∷ 0 ∷ 12 ∷ 0 ∷ 6 ∷ 0 ∷ 1 ∷ 0 ∷ 255 ∷ 255 ∷ 1 ∷ 0 ∷ 2 ∷ 0 ∷ 2 ∷ 0 ∷ 97 ∷ 97 ∷ 16 ∷ 0 ∷ 3 ∷ 0 ∷ 12 ∷ 0 ∷ 6 ∷ 0 ∷ 0 ∷ 0 ∷ 255 ∷ 255 ∷ 0 ∷ 0 ∷ 2 ∷ 0 ∷ 2 ∷ 0 ∷ 98 ∷ 98 ∷ []) (120 ∷ 97 ∷ 97 ∷ 98 ∷ 98 ∷ []) lent gives found (accepted (record { rows = some (filled (1 ∷ 2 ∷ 1 ∷ 2 ∷ 2 ∷ 2 ∷ [])); steps = 85 })) (filled (1 ∷ 2 ∷ 1 ∷ 2 ∷ 2 ∷ 2 ∷ []) ++ (21 ∷ 22 ∷ [])))
    ∷ []

-- replace-all: 1 to 8, 9, 10, 11, 13, and 01's case 14
abbrev pub replacements : List Case
replacements =
    -- 01's case 14: ([A-Za-z]+) ([A-Za-z]+) by "$2, $1" in "Don Knuth; Alan Turing"
    (replacing (50 ∷ 0 ∷ 4 ∷ 0 ∷ 18 ∷ 0 ∷ 3 ∷ 0 ∷ 14 ∷ 0 ∷ 6 ∷ 0 ∷ 1 ∷ 0 ∷ 255 ∷ 255 ∷ 0 ∷ 0 ∷ 4 ∷ 0 ∷ 2 ∷ 0 ∷ 65 ∷ 90 ∷ 97 ∷ 122 ∷ 2 ∷ 0 ∷ 2 ∷ 0 ∷ 32 ∷ 32 ∷ 18 ∷ 0 ∷ 3 ∷ 0 ∷ 14 ∷ 0 ∷ 6 ∷ 0 ∷ 1 ∷ 0 ∷ 255 ∷ 255 ∷ 0 ∷ 0 ∷ 4 ∷ 0 ∷ 2 ∷ 0 ∷ 65 ∷ 90 ∷ 97 ∷ 122 ∷ []) (2 ∷ 0 ∷ 33 ∷ 0 ∷ 2 ∷ 0 ∷ 2 ∷ 0 ∷ 32 ∷ 0 ∷ 44 ∷ 32 ∷ 2 ∷ 0 ∷ 33 ∷ 0 ∷ 1 ∷ 0 ∷ []) (68 ∷ 111 ∷ 110 ∷ 32 ∷ 75 ∷ 110 ∷ 117 ∷ 116 ∷ 104 ∷ 59 ∷ 32 ∷ 65 ∷ 108 ∷ 97 ∷ 110 ∷ 32 ∷ 84 ∷ 117 ∷ 114 ∷ 105 ∷ 110 ∷ 103 ∷ []) (replicate 24 7) gives replaced (accepted (record { output_length = 24; replaced = 2; steps = 654 })) (75 ∷ 110 ∷ 117 ∷ 116 ∷ 104 ∷ 44 ∷ 32 ∷ 68 ∷ 111 ∷ 110 ∷ 59 ∷ 32 ∷ 84 ∷ 117 ∷ 114 ∷ 105 ∷ 110 ∷ 103 ∷ 44 ∷ 32 ∷ 65 ∷ 108 ∷ 97 ∷ 110 ∷ []))
    -- b* by "-" in "abc" into a buffer that is too short: all of it stays
    ∷ (replacing many_b dash abc (replicate 4 7) gives replaced (refused 13 0) (replicate 4 7))
    -- the empty rest of a line is searched: b* by "-" in ""
    ∷ (replacing many_b dash [] (7 ∷ []) gives replaced (accepted (record { output_length = 1; replaced = 1; steps = 10 })) (45 ∷ []))
    -- replaced by nothing is replaced: a in "aba"
    ∷ (replacing (2 ∷ 0 ∷ 2 ∷ 0 ∷ 97 ∷ 97 ∷ []) [] (97 ∷ 98 ∷ 97 ∷ []) (replicate 3 7) gives replaced (accepted (record { output_length = 1; replaced = 2; steps = 53 })) (98 ∷ 7 ∷ 7 ∷ []))
    -- a suppressed empty match is not tried again for a longer one: a|b*? by "-" in "ab"
    ∷ (replacing (22 ∷ 0 ∷ 5 ∷ 0 ∷ 2 ∷ 0 ∷ 2 ∷ 0 ∷ 97 ∷ 97 ∷ 12 ∷ 0 ∷ 6 ∷ 0 ∷ 0 ∷ 0 ∷ 255 ∷ 255 ∷ 1 ∷ 0 ∷ 2 ∷ 0 ∷ 2 ∷ 0 ∷ 98 ∷ 98 ∷ []) dash (97 ∷ 98 ∷ []) (replicate 3 7) gives replaced (accepted (record { output_length = 3; replaced = 2; steps = 64 })) (45 ∷ 98 ∷ 45 ∷ []))
    -- reference 0 is the match: a by "$0$0" in "ab"
    ∷ (replacing (2 ∷ 0 ∷ 2 ∷ 0 ∷ 97 ∷ 97 ∷ []) (2 ∷ 0 ∷ 33 ∷ 0 ∷ 0 ∷ 0 ∷ 2 ∷ 0 ∷ 33 ∷ 0 ∷ 0 ∷ 0 ∷ []) (97 ∷ 98 ∷ []) (replicate 3 7) gives replaced (accepted (record { output_length = 3; replaced = 1; steps = 32 })) (97 ∷ 97 ∷ 98 ∷ []))
    -- no match: the rest is copied: a in "bb"
    ∷ (replacing (2 ∷ 0 ∷ 2 ∷ 0 ∷ 97 ∷ 97 ∷ []) dash (98 ∷ 98 ∷ []) (replicate 2 7) gives replaced (accepted (record { output_length = 2; replaced = 0; steps = 17 })) (98 ∷ 98 ∷ []))
    -- an absent group puts in nothing: (a)|b by "$1" in "ba"
    ∷ (replacing (16 ∷ 0 ∷ 5 ∷ 0 ∷ 6 ∷ 0 ∷ 3 ∷ 0 ∷ 2 ∷ 0 ∷ 2 ∷ 0 ∷ 97 ∷ 97 ∷ 2 ∷ 0 ∷ 2 ∷ 0 ∷ 98 ∷ 98 ∷ []) (2 ∷ 0 ∷ 33 ∷ 0 ∷ 1 ∷ 0 ∷ []) (98 ∷ 97 ∷ []) (replicate 2 7) gives replaced (accepted (record { output_length = 1; replaced = 2; steps = 49 })) (97 ∷ 7 ∷ []))
    -- the pattern before the template
    ∷ (replacing (0 ∷ 0 ∷ 7 ∷ 0 ∷ []) (0 ∷ 0 ∷ 32 ∷ 0 ∷ []) [] (replicate 2 7) gives replaced (refused 3 0) (replicate 2 7))
    -- all of 9 before any 10: a reference too high for the pattern, then an empty literal
    ∷ (replacing (0 ∷ 0 ∷ 1 ∷ 0 ∷ []) (2 ∷ 0 ∷ 33 ∷ 0 ∷ 5 ∷ 0 ∷ 0 ∷ 0 ∷ 32 ∷ 0 ∷ []) [] (replicate 2 7) gives replaced (refused 9 6) (replicate 2 7))
    -- 10 before the line
    ∷ (replacing (0 ∷ 0 ∷ 1 ∷ 0 ∷ []) (1 ∷ 0 ∷ 32 ∷ 0 ∷ 97 ∷ 2 ∷ 0 ∷ 33 ∷ 0 ∷ 1 ∷ 0 ∷ []) (replicate 65535 0) (replicate 2 7) gives replaced (refused 10 5) (replicate 2 7))
    -- the line before the output
    ∷ (replacing (0 ∷ 0 ∷ 1 ∷ 0 ∷ []) [] (replicate 65535 0) (replicate 2 7) gives replaced (refused 11 0) (replicate 2 7))
    -- an unknown kind
    ∷ (replacing (0 ∷ 0 ∷ 1 ∷ 0 ∷ []) (1 ∷ 0 ∷ 32 ∷ 0 ∷ 97 ∷ 0 ∷ 0 ∷ 34 ∷ 0 ∷ []) [] [] gives replaced (refused 9 5) [])
    -- a cut record
    ∷ (replacing (0 ∷ 0 ∷ 1 ∷ 0 ∷ []) (1 ∷ 0 ∷ 32 ∷ 0 ∷ 97 ∷ 3 ∷ 0 ∷ 32 ∷ 0 ∷ 97 ∷ []) [] [] gives replaced (refused 9 5) [])
    -- a reference of one byte
    ∷ (replacing (0 ∷ 0 ∷ 1 ∷ 0 ∷ []) (1 ∷ 0 ∷ 33 ∷ 0 ∷ 0 ∷ []) [] [] gives replaced (refused 9 0) [])
    -- a reference of three bytes
    ∷ (replacing (0 ∷ 0 ∷ 1 ∷ 0 ∷ []) (3 ∷ 0 ∷ 33 ∷ 0 ∷ 1 ∷ 0 ∷ 0 ∷ []) [] [] gives replaced (refused 9 0) [])
    -- a reference above 9
    ∷ (replacing (0 ∷ 0 ∷ 1 ∷ 0 ∷ []) (1 ∷ 0 ∷ 32 ∷ 0 ∷ 97 ∷ 2 ∷ 0 ∷ 33 ∷ 0 ∷ 10 ∷ 0 ∷ []) [] [] gives replaced (refused 9 5) [])
    -- too long is tested first, at 0: one byte too many, and an unknown kind at 6
    ∷ (replacing (0 ∷ 0 ∷ 1 ∷ 0 ∷ []) (2 ∷ 0 ∷ 33 ∷ 0 ∷ 0 ∷ 0 ∷ replicate 1019 0) [] [] gives replaced (refused 9 0) [])
    -- as many bytes as may be: the unknown kind counts
    ∷ (replacing (0 ∷ 0 ∷ 1 ∷ 0 ∷ []) (2 ∷ 0 ∷ 33 ∷ 0 ∷ 0 ∷ 0 ∷ replicate 1018 0) [] [] gives replaced (refused 9 6) [])
    ∷ []

-- piece: 9, 11, 12, 16, 15, and the part
abbrev pub pieces : List Case
pieces =
    -- a literal: out of the template; the row that is wrong is not asked for
    (piecing arrow_and_row1 abc (row1 3 2) 0 gives put (accepted (record { source = from_template; start = 4; end = 6 })) (45 ∷ 62 ∷ []))
    -- a reference: out of the line
    ∷ (piecing arrow_and_row1 abc (row1 1 3) 1 gives put (accepted (record { source = from_line; start = 1; end = 3 })) (98 ∷ 99 ∷ []))
    -- an empty row is present
    ∷ (piecing arrow_and_row1 abc (row1 3 3) 1 gives put (accepted (record { source = from_line; start = 3; end = 3 })) [])
    -- an absent row: the empty part at the line's start
    ∷ (piecing arrow_and_row1 abc (row1 65535 65535) 1 gives put (accepted (record { source = from_line; start = 0; end = 0 })) [])
    -- a start above its end
    ∷ (piecing arrow_and_row1 abc (row1 2 1) 1 gives put (refused 15 0) [])
    -- an end past the line's
    ∷ (piecing arrow_and_row1 abc (row1 1 4) 1 gives put (refused 15 0) [])
    -- a piece past the last, where no row is asked for
    ∷ (piecing arrow_and_row1 abc (row1 2 1) 2 gives put (refused 16 0) [])
    -- 12 before 16
    ∷ (piecing arrow_and_row1 abc (replicate 19 7) 2 gives put (refused 12 0) [])
    -- 11 before 12
    ∷ (piecing arrow_and_row1 (replicate 65535 0) [] 2 gives put (refused 11 0) [])
    -- 9 before 11
    ∷ (piecing (0 ∷ 0 ∷ 32 ∷ 0 ∷ []) (replicate 65535 0) [] 2 gives put (refused 9 0) [])
    -- 9 for a template that is too long, at 0
    ∷ (piecing (2 ∷ 0 ∷ 33 ∷ 0 ∷ 0 ∷ 0 ∷ replicate 1019 0) [] [] 0 gives put (refused 9 0) [])
    ∷ []

-- all of them. 16 comes before 15 in that no row is asked for where there is no such piece
abbrev pub cases : List Case
cases = walk ++ (limits ++ (finding ++ (replacements ++ pieces)))

-- the definitions answer as told; a line of `refl` for each of the five lists
pub cases_told : map (λ (c : Case). answer c.question) cases ≡ map (λ (c : Case). c.told) cases
cases_told =
    same (λ (c : Case). answer c.question) (λ (c : Case). c.told) cases
    refl refl refl refl refl refl refl refl refl refl refl refl refl refl refl refl refl refl refl refl refl refl refl
    refl refl refl refl refl refl refl refl refl refl refl refl refl refl refl refl
    refl refl refl refl refl refl refl refl
    refl refl refl refl refl refl refl refl refl refl refl refl refl refl refl refl refl refl refl
    refl refl refl refl refl refl refl refl refl refl refl
