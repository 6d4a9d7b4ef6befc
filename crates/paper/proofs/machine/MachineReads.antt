-- The central theorem: the list machine finds what the ordered reading says, for every pattern and line. The places of a pattern unfold to its tree,
-- the machine searches that tree, and the tree's first end is the first outcome of the reading that ends at the line's end.
use Prim.Native.Nat.{ℕ, suc, ◌+◌, ◌*◌, ◌≤◌}
use native.Mathlib.Omega.{arith}
use mathlib.Core.Path.{◌≡◌, refl, sym, ap, subst, ◌∙◌}
use mathlib.Core.Logic.{◌↔◌, ◌≢◌, ◌⊎◌, inl, inr}
use mathlib.Core.Bool.{Bool, true, false, cond}
use mathlib.Core.List.Memᴰ
use mathlib.Core.List.{List, [], ◌∷◌, Memᴰ}
use mathlib.Core.Option.{none, some, some-ne-none}
use lib.Dec.{eqb}
use lib.ListN.{length}
use borrow.Author.Tests.{eqb-true, eqb-false}
use Rattle.paper.specs.Pattern.{Pattern, depth}
use Rattle.paper.specs.Rows.{Rows, no_rows}
use Rattle.paper.specs.Reading.{Outcome, read}
use Rattle.paper.specs.Machine.{Place, accept, Core, size, entry, written_out, lay, places_of, at, win, die, run, pairs, machine, rows_of}
use Rattle.paper.specs.Match.{first_ending_at, extract, with_row0, whole_match, wrap, search}
use Rattle.paper.proofs.reading.First.{before_none, ends_at, first_end}
use Rattle.paper.proofs.machine.Tree.{Tree, no_way, done, best, Rest, grow}
use Rattle.paper.proofs.machine.Grown.{reads}
use Rattle.paper.proofs.machine.Sizes.{length_lay, length_places, nesting_written}
use Rattle.paper.proofs.machine.Unfold.{Holds, holds_both, holds_behind, Goes, stand, after_level, unfolds, Unfolds, dies, accepts}
use Rattle.paper.proofs.machine.Visit.{Gives}
use Rattle.paper.proofs.machine.Run.{Ran, all_pairs, ran}

-- what follows a whole pattern: accepting, at the line's end
abbrev pub accepting : List ℕ → Rest
accepting line q m = cond (eqb q (length line)) done no_way

-- the tree of a whole pattern
abbrev pub tree_of : Pattern → ℕ → List ℕ → Tree
tree_of e first line = grow line (written_out e first) 0 0 (accepting line)

-- its first end is the first outcome that ends at the line's end
tree_reads : (e : Pattern) (first : ℕ) (line : List ℕ) → best (tree_of e first line) no_rows ≡ extract e first line
tree_reads e first line =
    (reads e line first).first 0 0 (accepting line) (ends_at (length line)) (λ q m after rows. look rows (eqb q (length line))) no_rows
    ∙ first_end (length line) (read e line first 0 no_rows)
  where
    look : (rows : Rows) (b : Bool) → best (cond b done no_way) rows ≡ cond b (some rows) none
    look rows true = refl
    look rows false = refl

-- the places of a pattern unfold to its tree, from the first place on level 0
places_unfold : (e : Pattern) (first : ℕ) (line : List ℕ) → Unfolds (places_of e first) line (depth e) (tree_of e first line) 0 0 0
places_unfold e first line =
    subst (λ (place : ℕ). Unfolds code line (depth e) (tree_of e first line) 0 place 0) start
    (unfolds code line (depth e) core 0 (size core) 0 0 (accepting line) both.0 (omega (arith, nesting_written e first)) goes)
  where
    core : Core
    core = written_out e first

    code : List Place
    code = places_of e first

    both : Holds code 0 (lay core 0 (size core)) × Holds code (size core) (accept ∷ [])
    both =
        holds_both code 0 0 (size core) (lay core 0 (size core)) (accept ∷ []) refl (omega (arith, length_lay core 0 (size core)))
        (holds_behind [] code)

    start : entry core 0 (size core) ≡ 0
    start = look (eqb (size core) 0) refl
      where
        look : (b : Bool) → eqb (size core) 0 ≡ b → cond b (size core) 0 ≡ 0
        look true e = eqb-true (size core) 0 e
        look false e = refl

    goes : Goes code line (depth e) 0 0 (size core) (accepting line)
    goes q m after = look (eqb q (length line)) refl
      where
        low : m ≤ depth e
        low = omega (arith, after_level code line (depth e) after)

        look : (b : Bool) → eqb q (length line) ≡ b → Unfolds code line (depth e) (cond b done no_way) q (size core) m
        look true end =
            accepts
            (stand code line (depth e) q m (size core) accept both.1.0 both.1.1 low (λ rows. ap (λ (b : Bool). cond b win die) end))
            (eqb-true q (length line) end)
        look false end =
            dies
            (stand code line (depth e) q m (size core) accept both.1.0 both.1.1 low (λ rows. ap (λ (b : Bool). cond b win die) end))

-- the pairs of a pattern's places
pub pairs_all : (e : Pattern) (first : ℕ) (line : List ℕ) → all_pairs (places_of e first) line (depth e) ≡ pairs e
pairs_all e first line = ap (λ (n : ℕ). n * (depth e + 1)) (length_places e first)

-- the first thread gives what the reading says
pub first_gives : (e : Pattern) (first : ℕ) (line : List ℕ) → Gives (places_of e first) line (depth e) 0 (at 0 0 no_rows ∷ []) (extract e first line)
first_gives e first line = (
  tree_of e first line,
  none,
  refl,
  places_unfold e first line,
  sym (tree_reads e first line) ∙ sym (before_none (best (tree_of e first line) no_rows)),
  refl,
)

-- the machine of a pattern on a line: its rows, its steps and its turns
pub machine_ran : (e : Pattern) (first : ℕ) (line : List ℕ)
    → Ran (places_of e first) line (depth e) (length line) (λ a b. run a b (places_of e first) line 0 (at 0 0 no_rows ∷ []) 0)
    (suc (length line)) (suc (pairs e)) 0 (extract e first line)
machine_ran e first line =
    ran (places_of e first) line (depth e) (length line) 0 (at 0 0 no_rows ∷ []) (extract e first line) 0 (omega arith) (first_gives e first line)
    (suc (length line)) (suc (pairs e)) (omega arith) (omega (arith, pairs_all e first line))

-- T1: the machine finds what the reading says
pub machine_reads : (e : Pattern) (first : ℕ) (line : List ℕ) → rows_of (machine e first line) ≡ extract e first line
machine_reads e first line = (machine_ran e first line).rows

-- and so for a whole match
pub machine_matches : (e : Pattern) (line : List ℕ) → with_row0 (length line) (rows_of (machine e 1 line)) ≡ whole_match e line
machine_matches e line = ap (with_row0 (length line)) (machine_reads e 1 line)

-- and for a search
pub machine_searches : (e : Pattern) (line : List ℕ) → rows_of (machine (wrap e) 0 line) ≡ search e line
machine_searches e line = machine_reads (wrap e) 0 line

-- No match

first_none : (n : ℕ) (os : List Outcome) → (first_ending_at n os ≡ none) ↔ ((o : Outcome) → Memᴰ o os → o.end ≢ n)
first_none n [] = (λ h o mem. absurd (Memᴰ.not-nil mem), λ h. refl)
first_none n (x ∷ xs) = look (eqb x.end n) refl (first_none n xs)
  where
    look : (b : Bool) → eqb x.end n ≡ b → ((first_ending_at n xs ≡ none) ↔ ((o : Outcome) → Memᴰ o xs → o.end ≢ n))
        → (cond b (some x.rows) (first_ending_at n xs) ≡ none) ↔ ((o : Outcome) → Memᴰ o (x ∷ xs) → o.end ≢ n)
    look true e rest =
        (λ h. absurd (some-ne-none x.rows h), λ h. absurd (h x (Memᴰ.head refl) (eqb-true x.end n e)))
    look false e rest =
        (λ h o mem. by o (rest.0 h) (Memᴰ.cases_cons mem), λ h. rest.1 (λ o mem. h o (Memᴰ.tail mem)))
      where
        by : (o : Outcome) → ((o : Outcome) → Memᴰ o xs → o.end ≢ n) → (o ≡ x) ⊎ Memᴰ o xs → o.end ≢ n
        by o others (inl same) = λ here. eqb-false x.end n e (sym (ap (λ (y : Outcome). y.end) same) ∙ here)
        by o others (inr mem) = others o mem

-- there is no match exactly when no outcome ends at the line's end
pub none_iff : (e : Pattern) (first : ℕ) (line : List ℕ)
    → (extract e first line ≡ none) ↔ ((o : Outcome) → Memᴰ o (read e line first 0 no_rows) → o.end ≢ length line)
none_iff e first line = first_none (length line) (read e line first 0 no_rows)
