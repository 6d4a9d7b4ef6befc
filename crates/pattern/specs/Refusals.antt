-- The refusals, read as `paper`'s.
use Rattle.std.specs.Prelude.{ℕ, Result, Ok, Err}
use Rattle.paper.specs.Refusal.{Checked, refused, accepted}
use Rattle.paper.specs.Refusal.{pattern_too_long, broken_record, unknown_kind, set_wrong, repeat_wrong, too_deep, too_many_groups, too_many_places, template_wrong, reference_too_high, line_too_long, table_too_short, output_too_long, too_many_steps, row_wrong, no_such_piece}
use Rattle.pattern.specs.declared.Refusal.{Refusal}
use Rattle.pattern.specs.declared.Refusal.TheVariants.{PatternTooLong, BrokenRecord, UnknownKind, SetWrong, RepeatWrong, TooDeep, TooManyGroups, TooManyPlaces, TemplateWrong, ReferenceTooHigh, LineTooLong, TableTooShort, OutputTooLong, TooManySteps, RowWrong, NoSuchPiece}
use Rattle.pattern.specs.declared.Refused.{Refused}

abbrev pub number_of : Refusal → ℕ
number_of PatternTooLong = pattern_too_long
number_of BrokenRecord = broken_record
number_of UnknownKind = unknown_kind
number_of SetWrong = set_wrong
number_of RepeatWrong = repeat_wrong
number_of TooDeep = too_deep
number_of TooManyGroups = too_many_groups
number_of TooManyPlaces = too_many_places
number_of TemplateWrong = template_wrong
number_of ReferenceTooHigh = reference_too_high
number_of LineTooLong = line_too_long
number_of TableTooShort = table_too_short
number_of OutputTooLong = output_too_long
number_of TooManySteps = too_many_steps
number_of RowWrong = row_wrong
number_of NoSuchPiece = no_such_piece

-- an answer, read as `paper`'s: a refusal's number and place, or what was answered, in `paper`'s words
abbrev pub checked_of : {A B : Type 0} → (A → B) → Result A Refused → Checked B
checked_of in_words (Ok a) = accepted (in_words a)
checked_of in_words (Err r) = refused (number_of r.refusal) r.place
