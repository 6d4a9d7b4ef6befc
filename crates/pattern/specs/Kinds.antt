-- The kinds of record and of place, read as `paper`'s.
use Rattle.std.specs.Prelude.{ℕ, ◌≡◌, ◌<◌, Result, Ok, Err}
use Rattle.paper.specs.Layout as paper
use Rattle.paper.specs.Layout.{nothing_kind, empty_kind, bytes_kind, group_kind, sequence_kind, alternation_kind, repeat_kind, kind_number}
use Rattle.paper.specs.Tables.{fork_place, open_place, close_place, begin_place, begin_optional_place, end_place, set_place, range_place, stop_place, accept_place}
use Rattle.pattern.specs.declared.Kind.{Kind}
use Rattle.pattern.specs.declared.Kind.TheVariants.{Nothing, Empty, Bytes, Group, Sequence, Alternation, Repeat}
use Rattle.pattern.specs.declared.UnknownKind.{UnknownKind}
use Rattle.pattern.specs.declared.PlaceKind.{PlaceKind}
use Rattle.pattern.specs.declared.PlaceKind.TheVariants.{Fork, Open, Close, Begin, BeginOptional, End, Set, Range, Stop, Accept}
use Rattle.pattern.specs.declared.UnknownPlace.{UnknownPlace}

abbrev pub kind_of : Kind → paper.Kind
kind_of Nothing = nothing_kind
kind_of Empty = empty_kind
kind_of Bytes = bytes_kind
kind_of Group = group_kind
kind_of Sequence = sequence_kind
kind_of Alternation = alternation_kind
kind_of Repeat = repeat_kind

-- the kind that has this number, or none where it is past the last
abbrev pub IsKind : ℕ → Result Kind UnknownKind → Type 0
IsKind number (Ok kind) = kind_number (kind_of kind) ≡ number
IsKind number (Err e) = kind_number repeat_kind < number

abbrev pub place_number : PlaceKind → ℕ
place_number Fork = fork_place
place_number Open = open_place
place_number Close = close_place
place_number Begin = begin_place
place_number BeginOptional = begin_optional_place
place_number End = end_place
place_number Set = set_place
place_number Range = range_place
place_number Stop = stop_place
place_number Accept = accept_place

-- the kind of place that has this number, or none where it is past the last
abbrev pub IsPlace : ℕ → Result PlaceKind UnknownPlace → Type 0
IsPlace number (Ok kind) = place_number kind ≡ number
IsPlace number (Err e) = accept_place < number
