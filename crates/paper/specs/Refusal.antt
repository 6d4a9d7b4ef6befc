-- The numbered refusals, and how the first fault found ends a call. What each refusal means stands in Check, Match, Template, Replace and Piece.
use Rattle.std.specs.Prelude.{ℕ, Bool, true, false}

-- Refusals 1, table: the sixteen numbers by name, in the table's order
abbrev pub pattern_too_long : ℕ
pattern_too_long = 1

abbrev pub broken_record : ℕ
broken_record = 2

abbrev pub unknown_kind : ℕ
unknown_kind = 3

abbrev pub set_wrong : ℕ
set_wrong = 4

abbrev pub repeat_wrong : ℕ
repeat_wrong = 5

abbrev pub too_deep : ℕ
too_deep = 6

abbrev pub too_many_groups : ℕ
too_many_groups = 7

abbrev pub too_many_places : ℕ
too_many_places = 8

abbrev pub template_wrong : ℕ
template_wrong = 9

abbrev pub reference_too_high : ℕ
reference_too_high = 10

abbrev pub line_too_long : ℕ
line_too_long = 11

abbrev pub table_too_short : ℕ
table_too_short = 12

abbrev pub output_too_long : ℕ
output_too_long = 13

abbrev pub too_many_steps : ℕ
too_many_steps = 14

abbrev pub row_wrong : ℕ
row_wrong = 15

abbrev pub no_such_piece : ℕ
no_such_piece = 16

-- Refusals 2: an answer is a refusal's number and place (an offset), or what was asked for
pub data Checked (A : Type 0) : Type 0 where
  refused : ℕ → ℕ → Checked A
  accepted : A → Checked A

infixl 20 ◌>>=◌
infixl 20 ◌>>◌
-- Refusals 2: the first fault counts, so what comes later is looked at only where nothing was refused before
abbrev pub ◌>>=◌ : {A B : Type 0} → Checked A → (A → Checked B) → Checked B
refused number place >>= next = refused number place
accepted a >>= next = next a

abbrev pub ◌>>◌ : {A B : Type 0} → Checked A → Checked B → Checked B
refused number place >> next = refused number place
accepted a >> next = next

-- Refusals 2: the refusal `number` at `place`, unless the test holds
abbrev pub holds : Bool → ℕ → ℕ → Checked (Unit {0})
holds true number place = accepted tt
holds false number place = refused number place
