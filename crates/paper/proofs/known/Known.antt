-- 01's starred known answers, its case 15 and its limit examples, shown of the definitions by computing both sides; beside them, what these leave unseen.
-- A wrong definition makes two lists of numbers differ.
use Prim.Native.Nat.{ℕ, ◌-◌}
use mathlib.Core.Path.{◌≡◌, refl, ap₂}
use mathlib.Core.List.{List, [], ◌∷◌, ◌++◌, map}
use mathlib.Core.Option.{Option, none, some}
use lib.ListN.{length, replicate}
use Rattle.paper.specs.Refusal.{Checked, refused, accepted, ◌>>=◌}
use Rattle.paper.specs.Check.{pattern_of, check}
use Rattle.paper.specs.Machine.{machine, rows_of}
use Rattle.paper.specs.Match.{Found, with_row0, match_call, table_after}
use Rattle.paper.specs.Replace.{Replaced, replace_call, replace_answer, buffer_after}
use Rattle.paper.specs.PieceCalls.{piece_call}

-- what follows where f and g are the same at each of some cases, one case after the other
abbrev pub Given : {A B : Type 0} → (A → B) → (A → B) → List A → Type 0 → Type 0
Given f g [] R = R
Given f g (c ∷ cs) R = f c ≡ g c → Given f g cs R

-- the cases as one equation of two lists. A claim is shown by one `refl` a case, so that a wrong definition is told by the case and the numbers that differ
pub together : {A B : Type 0} (f g : A → B) (cs : List A) (R : Type 0) → (map f cs ≡ map g cs → R) → Given f g cs R
together f g [] R claim = claim refl
together {B} f g (c ∷ cs) R claim = λ here. together f g cs R (λ rest. claim (ap₂ {C = List B} ◌∷◌ here rest))

pub same : {A B : Type 0} (f g : A → B) (cs : List A) → Given f g cs (map f cs ≡ map g cs)
same f g cs = together f g cs (map f cs ≡ map g cs) (λ claim. claim)

-- what is looked at in a whole match: the call's answer, with the rows by the ordered reading and the steps by the list machine;
-- the rows by the list machine; and the lent table afterwards
pub record Seen : Type 0 where
  pub answer : Checked Found
  pub by_machine : Checked (Option (List ℕ))
  pub after : List ℕ

-- a pattern, a line and a lent table, with what is known of them
pub record Case : Type 0 where
  pub pattern : List ℕ
  pub line : List ℕ
  pub table : List ℕ
  pub known : Seen

abbrev asked : List ℕ → List ℕ → List ℕ → Seen → Case
asked pattern line table known = record { pattern = pattern; line = line; table = table; known = known }

abbrev pub seen : Case → Seen
seen c =
    let answer = match_call c.pattern c.line c.table in
    record {
      answer = answer;
      by_machine = pattern_of c.pattern >>= λ e. accepted (with_row0 (length c.line) (rows_of (machine e 1 c.line)));
      after = table_after answer c.table;
    }

abbrev pub told : Case → Seen
told c = c.known

-- a table of 22 numbers: 20 that are written, and two behind them
abbrev pub lent : List ℕ
lent =
    1 ∷ 2 ∷ 3 ∷ 4 ∷ 5 ∷ 6 ∷ 7 ∷ 8 ∷ 9 ∷ 10 ∷ 11 ∷ 12 ∷ 13 ∷ 14 ∷ 15 ∷ 16 ∷ 17 ∷ 18 ∷ 19 ∷ 20 ∷ 21 ∷ 22 ∷ []

-- 20 numbers: those given, then absent rows
abbrev pub filled : List ℕ → List ℕ
filled rows = rows ++ replicate (20 - length rows) 65535

-- the same rows by reading and by machine
abbrev both : Option (List ℕ) → ℕ → List ℕ → Seen
both rows steps after =
    record {
      answer = accepted (record { rows = rows; steps = steps });
      by_machine = accepted rows;
      after = after;
    }

-- a match in so many steps: start and end of row 0, then of row 1 and so on
abbrev whole : ℕ → List ℕ → Seen
whole steps rows = both (some (filled rows)) steps (filled rows ++ (21 ∷ 22 ∷ []))

-- no match, in so many steps
abbrev unmatched : ℕ → Seen
unmatched steps = both none steps (filled [] ++ (21 ∷ 22 ∷ []))

-- 01's starred cases. It gives the steps of the first six; those of the others are the list machine's too
abbrev pub starred : List Case
starred =
    -- 1: empty, ""
    asked (0 ∷ 0 ∷ 1 ∷ 0 ∷ []) [] lent (whole 1 (0 ∷ 0 ∷ []))
    -- 2: empty, "a"
    ∷ asked (0 ∷ 0 ∷ 1 ∷ 0 ∷ []) (97 ∷ []) lent (unmatched 1)
    -- 3: nothing, ""
    ∷ asked (0 ∷ 0 ∷ 0 ∷ 0 ∷ []) [] lent (unmatched 1)
    -- 4: a, "a"
    ∷ asked (2 ∷ 0 ∷ 2 ∷ 0 ∷ 97 ∷ 97 ∷ []) (97 ∷ []) lent (whole 2 (0 ∷ 1 ∷ []))
    -- 5: a*, ""
    ∷ asked (12 ∷ 0 ∷ 6 ∷ 0 ∷ 0 ∷ 0 ∷ 255 ∷ 255 ∷ 0 ∷ 0 ∷ 2 ∷ 0 ∷ 2 ∷ 0 ∷ 97 ∷ 97 ∷ []) [] lent (whole 4 (0 ∷ 0 ∷ []))
    -- 6: a*, "a"
    ∷ asked (12 ∷ 0 ∷ 6 ∷ 0 ∷ 0 ∷ 0 ∷ 255 ∷ 255 ∷ 0 ∷ 0 ∷ 2 ∷ 0 ∷ 2 ∷ 0 ∷ 97 ∷ 97 ∷ []) (97 ∷ []) lent (whole 9 (0 ∷ 1 ∷ []))
    -- 7: (a*?)*, "aaa"; row 1 is 2-3
    ∷ asked (26 ∷ 0 ∷ 6 ∷ 0 ∷ 0 ∷ 0 ∷ 255 ∷ 255 ∷ 0 ∷ 0 ∷ 16 ∷ 0 ∷ 3 ∷ 0 ∷ 12 ∷ 0 ∷ 6 ∷ 0 ∷ 0 ∷ 0 ∷ 255 ∷ 255 ∷ 1 ∷ 0 ∷ 2 ∷ 0 ∷ 2 ∷ 0 ∷ 97 ∷ 97 ∷ []) (97 ∷ 97 ∷ 97 ∷ []) lent (whole 52 (0 ∷ 3 ∷ 2 ∷ 3 ∷ []))
    -- 8: a+|(a*), "aa"; row 1 is absent
    ∷ asked (36 ∷ 0 ∷ 5 ∷ 0 ∷ 12 ∷ 0 ∷ 6 ∷ 0 ∷ 1 ∷ 0 ∷ 255 ∷ 255 ∷ 0 ∷ 0 ∷ 2 ∷ 0 ∷ 2 ∷ 0 ∷ 97 ∷ 97 ∷ 16 ∷ 0 ∷ 3 ∷ 0 ∷ 12 ∷ 0 ∷ 6 ∷ 0 ∷ 0 ∷ 0 ∷ 255 ∷ 255 ∷ 0 ∷ 0 ∷ 2 ∷ 0 ∷ 2 ∷ 0 ∷ 97 ∷ 97 ∷ []) (97 ∷ 97 ∷ []) lent (whole 23 (0 ∷ 2 ∷ 65535 ∷ 65535 ∷ []))
    -- 9: ((a)|b)*, "ab"; row 1 is 1-2, row 2 absent
    ∷ asked (30 ∷ 0 ∷ 6 ∷ 0 ∷ 0 ∷ 0 ∷ 255 ∷ 255 ∷ 0 ∷ 0 ∷ 20 ∷ 0 ∷ 3 ∷ 0 ∷ 16 ∷ 0 ∷ 5 ∷ 0 ∷ 6 ∷ 0 ∷ 3 ∷ 0 ∷ 2 ∷ 0 ∷ 2 ∷ 0 ∷ 97 ∷ 97 ∷ 2 ∷ 0 ∷ 2 ∷ 0 ∷ 98 ∷ 98 ∷ []) (97 ∷ 98 ∷ []) lent (whole 29 (0 ∷ 2 ∷ 1 ∷ 2 ∷ 65535 ∷ 65535 ∷ []))
    -- 10: (a*)+, ""; row 1 is 0-0
    ∷ asked (26 ∷ 0 ∷ 6 ∷ 0 ∷ 1 ∷ 0 ∷ 255 ∷ 255 ∷ 0 ∷ 0 ∷ 16 ∷ 0 ∷ 3 ∷ 0 ∷ 12 ∷ 0 ∷ 6 ∷ 0 ∷ 0 ∷ 0 ∷ 255 ∷ 255 ∷ 0 ∷ 0 ∷ 2 ∷ 0 ∷ 2 ∷ 0 ∷ 97 ∷ 97 ∷ []) [] lent (whole 15 (0 ∷ 0 ∷ 0 ∷ 0 ∷ []))
    -- 11: (a*)*, ""; row 1 is absent
    ∷ asked (26 ∷ 0 ∷ 6 ∷ 0 ∷ 0 ∷ 0 ∷ 255 ∷ 255 ∷ 0 ∷ 0 ∷ 16 ∷ 0 ∷ 3 ∷ 0 ∷ 12 ∷ 0 ∷ 6 ∷ 0 ∷ 0 ∷ 0 ∷ 255 ∷ 255 ∷ 0 ∷ 0 ∷ 2 ∷ 0 ∷ 2 ∷ 0 ∷ 97 ∷ 97 ∷ []) [] lent (whole 9 (0 ∷ 0 ∷ 65535 ∷ 65535 ∷ []))
    -- 12: (a|ab)(c|bcd)(d*), "abcd"; the rows are 0-1, 1-4, 4-4
    ∷ asked (86 ∷ 0 ∷ 4 ∷ 0 ∷ 26 ∷ 0 ∷ 3 ∷ 0 ∷ 22 ∷ 0 ∷ 5 ∷ 0 ∷ 2 ∷ 0 ∷ 2 ∷ 0 ∷ 97 ∷ 97 ∷ 12 ∷ 0 ∷ 4 ∷ 0 ∷ 2 ∷ 0 ∷ 2 ∷ 0 ∷ 97 ∷ 97 ∷ 2 ∷ 0 ∷ 2 ∷ 0 ∷ 98 ∷ 98 ∷ 32 ∷ 0 ∷ 3 ∷ 0 ∷ 28 ∷ 0 ∷ 5 ∷ 0 ∷ 2 ∷ 0 ∷ 2 ∷ 0 ∷ 99 ∷ 99 ∷ 18 ∷ 0 ∷ 4 ∷ 0 ∷ 2 ∷ 0 ∷ 2 ∷ 0 ∷ 98 ∷ 98 ∷ 2 ∷ 0 ∷ 2 ∷ 0 ∷ 99 ∷ 99 ∷ 2 ∷ 0 ∷ 2 ∷ 0 ∷ 100 ∷ 100 ∷ 16 ∷ 0 ∷ 3 ∷ 0 ∷ 12 ∷ 0 ∷ 6 ∷ 0 ∷ 0 ∷ 0 ∷ 255 ∷ 255 ∷ 0 ∷ 0 ∷ 2 ∷ 0 ∷ 2 ∷ 0 ∷ 100 ∷ 100 ∷ []) (97 ∷ 98 ∷ 99 ∷ 100 ∷ []) lent (whole 31 (0 ∷ 4 ∷ 0 ∷ 1 ∷ 1 ∷ 4 ∷ 4 ∷ 4 ∷ []))
    ∷ []

-- the definitions give 01's starred answers
pub starred_known : map seen starred ≡ map told starred
starred_known = same seen told starred refl refl refl refl refl refl refl refl refl refl refl refl

-- examples beside them
abbrev pub beside : List Case
beside =
    -- ((a)|b){2}, "ab": a pass that must be made clears row 1 too
    asked (26 ∷ 0 ∷ 6 ∷ 0 ∷ 2 ∷ 0 ∷ 2 ∷ 0 ∷ 0 ∷ 0 ∷ 16 ∷ 0 ∷ 5 ∷ 0 ∷ 6 ∷ 0 ∷ 3 ∷ 0 ∷ 2 ∷ 0 ∷ 2 ∷ 0 ∷ 97 ∷ 97 ∷ 2 ∷ 0 ∷ 2 ∷ 0 ∷ 98 ∷ 98 ∷ []) (97 ∷ 98 ∷ []) lent (whole 12 (0 ∷ 2 ∷ 65535 ∷ 65535 ∷ []))
    -- (a*)?, "": an optional pass that takes nothing is dropped; row 1 is absent
    ∷ asked (26 ∷ 0 ∷ 6 ∷ 0 ∷ 0 ∷ 0 ∷ 1 ∷ 0 ∷ 0 ∷ 0 ∷ 16 ∷ 0 ∷ 3 ∷ 0 ∷ 12 ∷ 0 ∷ 6 ∷ 0 ∷ 0 ∷ 0 ∷ 255 ∷ 255 ∷ 0 ∷ 0 ∷ 2 ∷ 0 ∷ 2 ∷ 0 ∷ 97 ∷ 97 ∷ []) [] lent (whole 9 (0 ∷ 0 ∷ 65535 ∷ 65535 ∷ []))
    -- (a*)*b, "b": and so is one without an upper end, where the line has room for a pass
    ∷ asked (36 ∷ 0 ∷ 4 ∷ 0 ∷ 26 ∷ 0 ∷ 6 ∷ 0 ∷ 0 ∷ 0 ∷ 255 ∷ 255 ∷ 0 ∷ 0 ∷ 16 ∷ 0 ∷ 3 ∷ 0 ∷ 12 ∷ 0 ∷ 6 ∷ 0 ∷ 0 ∷ 0 ∷ 255 ∷ 255 ∷ 0 ∷ 0 ∷ 2 ∷ 0 ∷ 2 ∷ 0 ∷ 97 ∷ 97 ∷ 2 ∷ 0 ∷ 2 ∷ 0 ∷ 98 ∷ 98 ∷ []) (98 ∷ []) lent (whole 10 (0 ∷ 1 ∷ 65535 ∷ 65535 ∷ []))
    -- (a)|(a), "a": the first of two members that read the same; row 2 is absent
    ∷ asked (20 ∷ 0 ∷ 5 ∷ 0 ∷ 6 ∷ 0 ∷ 3 ∷ 0 ∷ 2 ∷ 0 ∷ 2 ∷ 0 ∷ 97 ∷ 97 ∷ 6 ∷ 0 ∷ 3 ∷ 0 ∷ 2 ∷ 0 ∷ 2 ∷ 0 ∷ 97 ∷ 97 ∷ []) (97 ∷ []) lent (whole 7 (0 ∷ 1 ∷ 0 ∷ 1 ∷ 65535 ∷ 65535 ∷ []))
    -- (a){0,0}(b), "b": a group inside a repeat of 0 to 0 has a number; row 1 is absent, row 2 is 0-1
    ∷ asked (30 ∷ 0 ∷ 4 ∷ 0 ∷ 16 ∷ 0 ∷ 6 ∷ 0 ∷ 0 ∷ 0 ∷ 0 ∷ 0 ∷ 0 ∷ 0 ∷ 6 ∷ 0 ∷ 3 ∷ 0 ∷ 2 ∷ 0 ∷ 2 ∷ 0 ∷ 97 ∷ 97 ∷ 6 ∷ 0 ∷ 3 ∷ 0 ∷ 2 ∷ 0 ∷ 2 ∷ 0 ∷ 98 ∷ 98 ∷ []) (98 ∷ []) lent (whole 4 (0 ∷ 1 ∷ 65535 ∷ 65535 ∷ 0 ∷ 1 ∷ []))
    -- empty|a|b, "": forks nest to the right, so the first member is one fork away
    ∷ asked (16 ∷ 0 ∷ 5 ∷ 0 ∷ 0 ∷ 0 ∷ 1 ∷ 0 ∷ 2 ∷ 0 ∷ 2 ∷ 0 ∷ 97 ∷ 97 ∷ 2 ∷ 0 ∷ 2 ∷ 0 ∷ 98 ∷ 98 ∷ []) [] lent (whole 2 (0 ∷ 0 ∷ []))
    -- a{0,2}, "": stopping goes straight out, past the second pass
    ∷ asked (12 ∷ 0 ∷ 6 ∷ 0 ∷ 0 ∷ 0 ∷ 2 ∷ 0 ∷ 0 ∷ 0 ∷ 2 ∷ 0 ∷ 2 ∷ 0 ∷ 97 ∷ 97 ∷ []) [] lent (whole 4 (0 ∷ 0 ∷ []))
    ∷ []

-- and these
pub beside_known : map seen beside ≡ map told beside
beside_known = same seen told beside refl refl refl refl refl refl refl

-- 01's limit examples: a{249}a has 500 places; a{250} has one too many; a{255}{255}{0,0} has one, however many stand inside
pub limits_known : map check
    ((22 ∷ 0 ∷ 4 ∷ 0 ∷ 12 ∷ 0 ∷ 6 ∷ 0 ∷ 249 ∷ 0 ∷ 249 ∷ 0 ∷ 0 ∷ 0 ∷ 2 ∷ 0 ∷ 2 ∷ 0 ∷ 97 ∷ 97 ∷ 2 ∷ 0 ∷ 2 ∷ 0 ∷ 97 ∷ 97 ∷ [])
    ∷ (12 ∷ 0 ∷ 6 ∷ 0 ∷ 250 ∷ 0 ∷ 250 ∷ 0 ∷ 0 ∷ 0 ∷ 2 ∷ 0 ∷ 2 ∷ 0 ∷ 97 ∷ 97 ∷ [])
    ∷ (32 ∷ 0 ∷ 6 ∷ 0 ∷ 0 ∷ 0 ∷ 0 ∷ 0 ∷ 0 ∷ 0 ∷ 22 ∷ 0 ∷ 6 ∷ 0 ∷ 255 ∷ 0 ∷ 255 ∷ 0 ∷ 0 ∷ 0 ∷ 12 ∷ 0 ∷ 6 ∷ 0 ∷ 255 ∷ 0 ∷ 255 ∷ 0 ∷ 0 ∷ 0 ∷ 2 ∷ 0 ∷ 2 ∷ 0 ∷ 97 ∷ 97 ∷ [])
    ∷ [])
    ≡ accepted (record { places = 500; depth = 0; groups = 0 })
    ∷ refused 8 0
    ∷ accepted (record { places = 1; depth = 0; groups = 0 })
    ∷ []
limits_known = refl

-- the depth of an alternation is the greatest of its members', and their repeats' own: a|b, a*|b, a|b|(a*)*
pub depths_known : map check
    ((12 ∷ 0 ∷ 5 ∷ 0 ∷ 2 ∷ 0 ∷ 2 ∷ 0 ∷ 97 ∷ 97 ∷ 2 ∷ 0 ∷ 2 ∷ 0 ∷ 98 ∷ 98 ∷ [])
    ∷ (22 ∷ 0 ∷ 5 ∷ 0 ∷ 12 ∷ 0 ∷ 6 ∷ 0 ∷ 0 ∷ 0 ∷ 255 ∷ 255 ∷ 0 ∷ 0 ∷ 2 ∷ 0 ∷ 2 ∷ 0 ∷ 97 ∷ 97 ∷ 2 ∷ 0 ∷ 2 ∷ 0 ∷ 98 ∷ 98 ∷ [])
    ∷ (42 ∷ 0 ∷ 5 ∷ 0 ∷ 2 ∷ 0 ∷ 2 ∷ 0 ∷ 97 ∷ 97 ∷ 2 ∷ 0 ∷ 2 ∷ 0 ∷ 98 ∷ 98 ∷ 26 ∷ 0 ∷ 6 ∷ 0 ∷ 0 ∷ 0 ∷ 255 ∷ 255 ∷ 0 ∷ 0 ∷ 16 ∷ 0 ∷ 3 ∷ 0 ∷ 12 ∷ 0 ∷ 6 ∷ 0 ∷ 0 ∷ 0 ∷ 255 ∷ 255 ∷ 0 ∷ 0 ∷ 2 ∷ 0 ∷ 2 ∷ 0 ∷ 97 ∷ 97 ∷ [])
    ∷ [])
    ≡ accepted (record { places = 4; depth = 0; groups = 0 })
    ∷ accepted (record { places = 7; depth = 1; groups = 0 })
    ∷ accepted (record { places = 14; depth = 2; groups = 1 })
    ∷ []
depths_known = refl

-- a table with this row 1
abbrev pub row1 : ℕ → ℕ → List ℕ
row1 start end = 7 ∷ 7 ∷ start ∷ end ∷ replicate 16 7

-- the pattern b*
abbrev pub many_b : List ℕ
many_b = 12 ∷ 0 ∷ 6 ∷ 0 ∷ 0 ∷ 0 ∷ 255 ∷ 255 ∷ 0 ∷ 0 ∷ 2 ∷ 0 ∷ 2 ∷ 0 ∷ 98 ∷ 98 ∷ []

-- the templates "-" and "->$1", and the line "abc"
abbrev pub dash : List ℕ
dash = 1 ∷ 0 ∷ 32 ∷ 0 ∷ 45 ∷ []

abbrev pub arrow_and_row1 : List ℕ
arrow_and_row1 = 2 ∷ 0 ∷ 32 ∷ 0 ∷ 45 ∷ 62 ∷ 2 ∷ 0 ∷ 33 ∷ 0 ∷ 1 ∷ 0 ∷ []

abbrev pub abc : List ℕ
abc = 97 ∷ 98 ∷ 99 ∷ []

-- what replace-all answers for b* and "-" in "abc", and the buffer afterwards
pub record Written : Type 0 where
  pub answer : Checked Replaced
  pub after : List ℕ

abbrev pub dashed : List ℕ → Written
dashed buffer = let a = replace_call many_b dash abc buffer in record { answer = replace_answer a; after = buffer_after a buffer }

-- 01's case 15, into a buffer as long as the output and into a longer one: "-a-c-", with the bytes behind it as they were. The empty match behind "b" is not replaced
pub case_15_known : map dashed (replicate 5 7 ∷ replicate 7 7 ∷ [])
    ≡ record { answer = accepted (record { output_length = 5; replaced = 3; steps = 105 }); after = 45 ∷ 97 ∷ 45 ∷ 99 ∷ 45 ∷ [] }
    ∷ record { answer = accepted (record { output_length = 5; replaced = 3; steps = 105 }); after = 45 ∷ 97 ∷ 45 ∷ 99 ∷ 45 ∷ 7 ∷ 7 ∷ [] }
    ∷ []
case_15_known = refl

-- a row of which one number alone is 65,535 is not absent
pub half_absent_known : map (λ (table : List ℕ). piece_call arrow_and_row1 abc table 1) (row1 1 65535 ∷ row1 65535 1 ∷ []) ≡ refused 15 0 ∷ refused 15 0 ∷ []
half_absent_known = refl
