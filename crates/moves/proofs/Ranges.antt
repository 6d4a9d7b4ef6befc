-- The ranges of a set, and the byte ahead that it holds or not.
use Prim.Native.Nat.{ℕ, zero, suc, ◌+◌, ◌-◌, ◌*◌, ◌/◌, ◌≤◌, ◌<◌}
use mathlib.Core.Path.{◌≡◌, refl, sym, ap, ◌∙◌}
use mathlib.Core.Bool.{Bool, true, false, ◌&&◌, ◌||◌}
use mathlib.Core.List.{List, [], ◌∷◌}
use native.Mathlib.Omega.{arith}
use native.Mathlib.Decide.{dec_lt}
use borrow.Author.Tests.{lt-ltb, le-ltb}
use lib.Dec.{leb}
use lib.ListN.{length, get_or, drop, length-drop}
use lib.Seq.{drop-cons, length-take-le}
use Rattle.std.specs.Prelude.{Option, Some, None, is_none, IsSome}
use Rattle.std.specs.List.{list_any}
use Rattle.std.specs.Simd.{first_chunks}
use Rattle.std.proofs.lemmas.Option.{slice_get_within, slice_get-get_or, get_or_from_slice_get}
use Rattle.paper.specs.Pattern.{Range}
use Rattle.paper.specs.Reading.{in_set, takes}
use Rattle.paper.specs.Check.{ranges_of, part}
use Rattle.moves.specs.Shows.{AheadIn}

-- whether a range, as two numbers, holds a byte
abbrev pub holds_byte : ℕ → List ℕ → Bool
holds_byte byte range = leb (get_or range 0 0) byte && leb byte (get_or range 1 0)

-- the ranges of a list of so many pairs, one by one
pub any_range : (k : ℕ) (l : List ℕ) (byte : ℕ) → length l ≡ 2 * k → list_any (holds_byte byte) (first_chunks 2 k l) ≡ in_set (ranges_of l) byte
any_range zero [] byte e = refl
any_range zero (x ∷ l) byte e = absurd (omega arith)
any_range (suc k) [] byte e = absurd (omega arith)
any_range (suc k) (low ∷ []) byte e = absurd (omega arith)
any_range (suc k) (low ∷ high ∷ l) byte e = ap (λ (b : Bool). (leb low byte && leb byte high) || b) (any_range k l byte (omega arith))

-- the pairs of a set's part of the pattern are its ranges
pub pairs_hold : (pattern : List ℕ) (offset count byte : ℕ) (pairs : List (List ℕ)) → offset + 2 * count ≤ length pattern
    → pairs ≡ first_chunks 2 (length (part pattern offset (offset + 2 * count)) / 2) (part pattern offset (offset + 2 * count))
    → list_any (holds_byte byte) pairs ≡ in_set (ranges_of (part pattern offset (offset + 2 * count))) byte
pairs_hold pattern offset count byte pairs fits pairs_are =
    let bytes = part pattern offset (offset + 2 * count) in
    let long : length bytes ≡ 2 * count =
    length-take-le (offset + 2 * count - offset) (drop offset pattern) (omega (arith, length-drop offset pattern)) ∙ omega arith in
    let half : length bytes / 2 ≡ count = omega arith in
    ap (list_any (holds_byte byte)) (pairs_are ∙ ap (λ (k : ℕ). first_chunks 2 k bytes) half) ∙ any_range count bytes byte long

-- the pair at an index holds the byte
pub holds_here : (byte : ℕ) (pairs : List (List ℕ)) (i : ℕ) → i < length pairs → holds_byte byte (get_or pairs i []) ≡ true → list_any (holds_byte byte) (drop i pairs) ≡ true
holds_here byte pairs i h held =
    ap (list_any (holds_byte byte)) (drop-cons pairs i [] h) ∙ ap (λ (b : Bool). b || list_any (holds_byte byte) (drop (suc i) pairs)) held

pub or_false : (b : Bool) → (b || false) ≡ b
or_false true = refl
or_false false = refl

-- ---- the byte ahead

pub no_byte : (ahead : Option ℕ) → is_none ahead ≡ true → ahead ≡ None
no_byte None e = refl
no_byte (Some byte) e = cc

pub some_byte : (ahead : Option ℕ) → is_none ahead ≡ false → IsSome ahead
some_byte None e = cc
some_byte (Some byte) e = refl

pub ahead_some : {line : List ℕ} {p : ℕ} {ahead : Option ℕ} → AheadIn line p ahead → IsSome ahead → p < length line
ahead_some {line} {p} {ahead = None} along e = cc
ahead_some {line} {p} {ahead = Some b} along e = slice_get_within line p b (sym along.is_ahead)

pub ahead_none : {line : List ℕ} {p : ℕ} → AheadIn line p None → length line ≤ p
ahead_none {line} {p} along = look (dec_lt p (length line))
  where
    look : Dec (p < length line) → length line ≤ p
    look (yes h) = let both : None ≡ Some (get_or line p 0) = along.is_ahead ∙ slice_get-get_or line p 0 h in cc
    look (no h) = omega arith

-- a set takes the byte ahead, if it holds it
pub takes_ahead : (ranges : List Range) (line : List ℕ) (p byte : ℕ) → AheadIn line p (Some byte) → takes ranges line p ≡ in_set ranges byte
takes_ahead ranges line p byte along =
    ap (λ (b : Bool). b && in_set ranges (get_or line p 0)) (lt-ltb p (length line) (ahead_some along refl))
    ∙ ap (in_set ranges) (get_or_from_slice_get line p byte 0 (sym along.is_ahead))

-- and nothing where there is none
pub takes_none : (ranges : List Range) (line : List ℕ) (p : ℕ) → length line ≤ p → takes ranges line p ≡ false
takes_none ranges line p h = ap (λ (b : Bool). b && in_set ranges (get_or line p 0)) (le-ltb p (length line) h)
