-- How a pattern's places stand in a lent table: four numbers a place. 01 has no such thing: of the promises for C only those of a lent machine cite this file.
use Rattle.std.specs.Prelude.{ℕ, zero, suc, ◌+◌, ◌*◌, cond, List, [], ◌∷◌, ◌++◌, eqb, get_or}
use Rattle.paper.specs.Check.{part, ranges_of}
use Rattle.paper.specs.Machine.{Place, one_of, stop, fork, opening, closing, begin, begin_optional, ending, accept}

-- the kinds of place by number, so that those that lead on at once, and those that do not, are ranges
abbrev pub fork_place : ℕ
fork_place = 0

abbrev pub open_place : ℕ
open_place = 1

abbrev pub close_place : ℕ
close_place = 2

abbrev pub begin_place : ℕ
begin_place = 3

abbrev pub begin_optional_place : ℕ
begin_optional_place = 4

abbrev pub end_place : ℕ
end_place = 5

abbrev pub set_place : ℕ
set_place = 6

abbrev pub range_place : ℕ
range_place = 7

abbrev pub stop_place : ℕ
stop_place = 8

abbrev pub accept_place : ℕ
accept_place = 9

-- how many numbers a place has: its kind, its follower, and two more
abbrev pub place_numbers : ℕ
place_numbers = 4

-- the place that four numbers stand for. `a` and `n` are: of a fork the other follower; of an open or close the group; of a begin the first group inside and how many;
-- of a set the offset of its ranges in the pattern and how many; of a range, which is a set of one range, its least and its greatest byte. A search has two that stand in no pattern
abbrev pub place_of : List ℕ → ℕ → ℕ → ℕ → ℕ → Place
place_of pattern kind next a n =
    cond (eqb kind fork_place) (fork next a)
    (cond (eqb kind open_place) (opening a next)
    (cond (eqb kind close_place) (closing a next)
    (cond (eqb kind begin_place) (begin a n next)
    (cond (eqb kind begin_optional_place) (begin_optional a n next)
    (cond (eqb kind end_place) (ending next)
    (cond (eqb kind set_place) (one_of (ranges_of (part pattern a (a + 2 * n))) next)
    (cond (eqb kind range_place) (one_of (record { low = a; high = n } ∷ []) next)
    (cond (eqb kind accept_place) accept stop))))))))

-- the four numbers of the place at an index of the table
abbrev pub place_kind_at : List ℕ → ℕ → ℕ
place_kind_at table x = get_or table (place_numbers * x) 0

abbrev pub place_next_at : List ℕ → ℕ → ℕ
place_next_at table x = get_or table (place_numbers * x + 1) 0

abbrev pub place_first_at : List ℕ → ℕ → ℕ
place_first_at table x = get_or table (place_numbers * x + 2) 0

abbrev pub place_many_at : List ℕ → ℕ → ℕ
place_many_at table x = get_or table (place_numbers * x + 3) 0

-- the place that they stand for
abbrev pub place_at : List ℕ → List ℕ → ℕ → Place
place_at table pattern x = place_of pattern (place_kind_at table x) (place_next_at table x) (place_first_at table x) (place_many_at table x)

-- the first `count` places of the table
abbrev pub decode : List ℕ → List ℕ → ℕ → List Place
decode table pattern zero = []
decode table pattern (suc count) = decode table pattern count ++ (place_at table pattern count ∷ [])
