-- The first end of a grown tree is the first outcome of the reading on which what follows succeeds. Both try the same things in the same order;
-- the tree drops a pass that took nothing by its level, the reading by its position, and these agree because every byte sets the level to 0.
use Prim.Native.Nat.{ℕ, zero, suc, ◌+◌, ◌-◌, ◌*◌, ◌<◌, ◌≤◌}
use native.Mathlib.Omega.{arith}
use native.Mathlib.Nat.{ne_of_gt}
use mathlib.Core.Path.{◌≡◌, refl, sym, ap, ◌∙◌}
use mathlib.Core.Bool.{Bool, true, false, cond, ◌&&◌}
use mathlib.Core.List.{List, []}
use mathlib.Core.Option.{Option, none}
use lib.Dec.{ltb, eqb-suc-zero}
use lib.ListN.{length, get_or}
use borrow.Author.Tests.{ltb-true, eq-eqb, ne_eqb}
use Rattle.paper.specs.Pattern.{Mode, greedy, lazy, Upper, up_to, no_end, Range, Pattern, Members, groups}
use Rattle.paper.specs.Pattern.Pattern.{nothing, empty, bytes, group, sequence, alternation, repeat}
use Rattle.paper.specs.Pattern.Members.{two, more}
use Rattle.paper.specs.Rows.{Rows, set_start, set_end, set_row, clear}
use Rattle.paper.specs.Reading.{
  Outcome,
  Reading,
  nowhere,
  here,
  in_turn,
  or_else,
  in_set,
  takes,
  one_byte,
  spanning,
  grouped,
  pass_of,
  must_passes,
  unless_at,
  consuming,
  prefer,
  optional_passes,
  optional_count,
  read,
  read_sequence,
  read_alternation,
}
use Rattle.paper.specs.Machine.{Core, dead, skip, eats, star, musts, maybes, optionals, written_out, chained, forked}
use Rattle.paper.proofs.reading.First.{Trial, before, before_none, first_of, first_append, first_bind, first_never}
use Rattle.paper.proofs.reading.Untouched.{Untouched, first_written, read_untouched}
use Rattle.paper.proofs.machine.Tree.{Tree, no_way, byte, choice, act, best, Rest, ways, at_end, loops, grow, After, stay, on, after_after}

-- a set takes only a byte of the line
pub takes_inside : (ranges : List Range) (line : List ℕ) (p : ℕ) → takes ranges line p ≡ true → p < length line
takes_inside ranges line p h = look (ltb p (length line)) refl h
  where
    look : (b : Bool) → ltb p (length line) ≡ b → (b && in_set ranges (get_or line p 0)) ≡ true → p < length line
    look true e h = ltb-true p (length line) e
    look false e h = let z : ◌≡◌ {A = ℕ} 0 1 = cc in absurd (omega arith)

-- wherever a pattern entered here can be left, the tree of what follows gives what the trial gives
abbrev pub Follows : List ℕ → ℕ → ℕ → Rest → Trial → Type 0
Follows line p level rest trial = (q m : ℕ) → After (length line) p level q m → (rows : Rows) → best (rest q m) rows ≡ trial q rows

-- the tree that `tree` grows with what follows gives what the reading's outcomes with the trial give
pub record Reads (line : List ℕ) (tree : ℕ → ℕ → Rest → Tree) (reading : Reading) : Type 0 where
  pub first : (p level : ℕ) (rest : Rest) (trial : Trial) → Follows line p level rest trial
      → (rows : Rows) → best (tree p level rest) rows ≡ first_of (reading p rows) trial

reads_nowhere : (line : List ℕ) → Reads line (grow line dead) nowhere
reads_nowhere line = record { first = λ p level rest trial follows rows. refl }

reads_here : (line : List ℕ) → Reads line (grow line skip) here
reads_here line =
    record { first = λ p level rest trial follows rows. follows p level stay rows ∙ sym (before_none (trial p rows)) }

reads_byte : (line : List ℕ) (ranges : List Range) → Reads line (grow line (eats ranges)) (one_byte ranges line)
reads_byte line ranges = record { first = λ p level rest trial follows rows. look p level rest trial follows rows (takes ranges line p) refl }
  where
    look : (p level : ℕ) (rest : Rest) (trial : Trial) → Follows line p level rest trial → (rows : Rows) (b : Bool)
        → takes ranges line p ≡ b → best (cond b (byte (rest (suc p) 0)) no_way) rows ≡ first_of (cond b (here (suc p) rows) []) trial
    look p level rest trial follows rows true taken =
        let inside : p < length line = takes_inside ranges line p taken in
        follows (suc p) 0 (on (omega arith) inside) rows ∙ sym (before_none (trial (suc p) rows))
    look p level rest trial follows rows false taken = refl

reads_turn : {line : List ℕ} {a b : ℕ → ℕ → Rest → Tree} {r s : Reading} → Reads line a r → Reads line b s
    → Reads line (λ p level rest. a p level (λ q m. b q m rest)) (in_turn r s)
reads_turn {line} {a} {b} {r} {s} ra sb =
    record {
      first = λ p level rest trial follows rows.
          ra.first p level (λ q m. b q m rest) (λ q rows. first_of (s q rows) trial)
          (λ q m after rows. sb.first q m rest trial (λ q' m' after' rows. follows q' m' (after_after after after') rows) rows)
          rows
          ∙ sym (first_bind (r p rows) s trial);
    }

reads_or : {line : List ℕ} {a b : ℕ → ℕ → Rest → Tree} {r s : Reading} → Reads line a r → Reads line b s
    → Reads line (λ p level rest. choice (a p level rest) (b p level rest)) (or_else r s)
reads_or {line} {a} {b} {r} {s} ra sb =
    record {
      first = λ p level rest trial follows rows.
          ap (λ (o : Option Rows). before o (best (b p level rest) rows)) (ra.first p level rest trial follows rows)
          ∙ ap (before (first_of (r p rows) trial)) (sb.first p level rest trial follows rows)
          ∙ sym (first_append (r p rows) (s p rows) trial);
    }

-- a pass: the rows inside made absent first
reads_pass : {line : List ℕ} {a : ℕ → ℕ → Rest → Tree} {r : Reading} (first n : ℕ) → Reads line a r
    → Reads line (λ p level rest. act (clear first n) (a p level rest)) (pass_of first n r)
reads_pass first n ra = record { first = λ p level rest trial follows rows. ra.first p level rest trial follows (clear first n rows) }

-- a group: its start is written on the way in, which is the same as on the way out
reads_group : {line : List ℕ} {a : ℕ → ℕ → Rest → Tree} {r : Reading} (k : ℕ) → Untouched (2 * k) r → Reads line a r
    → Reads line (λ p level rest. act (set_start k p) (a p level (λ q m. act (set_end k q) (rest q m)))) (grouped k r)
reads_group {line} {a} {r} k untouched ra =
    record {
      first = λ p level rest trial follows rows.
          let closed : Trial = λ q rows. trial q (set_end k q rows) in
          let spanned : ◌≡◌ {A = Trial} (λ q rows. trial q (set_row k p q rows)) (λ q rows. first_of (spanning k p q rows) trial)
          = λ i q rows. sym (before_none (trial q (set_row k p q rows))) i in
          ra.first p level (λ q m. act (set_end k q) (rest q m)) closed (λ q m after rows. follows q m after (set_end k q rows)) (set_start k p rows)
          ∙ ap (λ (os : List Outcome). first_of os closed) (untouched.same p p rows)
          ∙ first_written (2 * k) p (r p rows) closed
          ∙ ap (first_of (r p rows)) spanned
          ∙ sym (first_bind (r p rows) (spanning k p) trial);
    }

-- two ways, the preferred one first
ways_read : (mode : Mode) (a b : Tree) (again stop : Reading) (p : ℕ) (rows : Rows) (trial : Trial)
    → best a rows ≡ first_of (again p rows) trial → best b rows ≡ first_of (stop p rows) trial
    → best (ways mode a b) rows ≡ first_of (prefer mode again stop p rows) trial
ways_read greedy a b again stop p rows trial ra sb =
    ap (λ (o : Option Rows). before o (best b rows)) ra
    ∙ ap (before (first_of (again p rows) trial)) sb
    ∙ sym (first_append (again p rows) (stop p rows) trial)
ways_read lazy a b again stop p rows trial ra sb =
    ap (λ (o : Option Rows). before o (best a rows)) sb
    ∙ ap (before (first_of (stop p rows) trial)) ra
    ∙ sym (first_append (stop p rows) (again p rows) trial)

-- an optional pass: what the level drops at its end is what took nothing, so what comes next matters only after a byte
optional_read : {line : List ℕ} {a : ℕ → ℕ → Rest → Tree} {r : Reading} → Reads line a r
    → (s : Reading) (next : ℕ → Tree) (trial : Trial) (p level : ℕ)
    → ((q : ℕ) → p < q → q ≤ length line → (rows : Rows) → best (next q) rows ≡ first_of (s q rows) trial)
    → (rows : Rows) → best (a p (suc level) (at_end next)) rows ≡ first_of (in_turn (consuming r) s p rows) trial
optional_read {line} {a} {r} ra s next trial p level goes rows =
    ra.first p (suc level) (at_end next) (λ q rows. first_of (unless_at p q rows) (λ q rows. first_of (s q rows) trial)) ended rows
    ∙ sym (first_bind (r p rows) (unless_at p) (λ q rows. first_of (s q rows) trial))
    ∙ sym (first_bind (consuming r p rows) s trial)
  where
    ended : Follows line p (suc level) (at_end next) (λ q rows. first_of (unless_at p q rows) (λ q rows. first_of (s q rows) trial))
    ended q m stay rows = rw (eqb-suc-zero level, eq-eqb p p refl)
    ended q m (on h bound) rows = rw (ne_eqb q p (ne_of_gt h)) (goes q h bound rows ∙ sym (before_none (first_of (s q rows) trial)))

reads_optional : {line : List ℕ} {a b : ℕ → ℕ → Rest → Tree} {r s : Reading} (mode : Mode) → Reads line a r → Reads line b s
    → Reads line (λ p level rest. ways mode (a p (suc level) (at_end (λ q. b q 0 rest))) (rest p level)) (prefer mode (in_turn (consuming r) s) here)
reads_optional {line} {a} {b} {r} {s} mode ra sb =
    record {
      first = λ p level rest trial follows rows.
          ways_read mode (a p (suc level) (at_end (λ q. b q 0 rest))) (rest p level) (in_turn (consuming r) s) here p rows trial
          (optional_read ra s (λ q. b q 0 rest) trial p level
          (λ q h bound rows. sb.first q 0 rest trial (λ q' m' after' rows. follows q' m' (after_after (on h bound) after') rows) rows)
          rows)
          ((reads_here line).first p level rest trial follows rows);
    }

-- a star: as many passes as there are bytes left, and one more that dies at its end
loops_read : {line : List ℕ} {a : ℕ → ℕ → Rest → Tree} {r : Reading} → Reads line a r
    → (mode : Mode) (first n k p level : ℕ) (rest : Rest) (trial : Trial) → length line ≤ p + k → Follows line p level rest trial
    → (rows : Rows) → best (loops k mode first n a p level rest) rows ≡ first_of (optional_passes k mode (pass_of first n r) p rows) trial
loops_read {line} {a} {r} ra mode first n zero p level rest trial enough follows rows = ended mode
  where
    fruitless : best (a p (suc level) (λ q m. no_way)) (clear first n rows) ≡ none
    fruitless =
        ra.first p (suc level) (λ q m. no_way) (λ q rows. none) (λ q m after rows. refl) (clear first n rows)
        ∙ first_never (r p (clear first n rows))

    ended : (mode : Mode) → best (ways mode (act (clear first n) (a p (suc level) (λ q m. no_way))) (rest p level)) rows
        ≡ before (trial p rows) none
    ended greedy =
        ap (λ (o : Option Rows). before o (best (rest p level) rows)) fruitless
        ∙ follows p level stay rows ∙ sym (before_none (trial p rows))
    ended lazy = ap (before (best (rest p level) rows)) fruitless ∙ ap (λ (o : Option Rows). before o none) (follows p level stay rows)
loops_read {line} {a} {r} ra mode first n (suc k) p level rest trial enough follows rows =
    ways_read mode (act (clear first n) (a p (suc level) (at_end (λ q. loops k mode first n a q 0 rest)))) (rest p level)
    (in_turn (consuming (pass_of first n r)) (optional_passes k mode (pass_of first n r))) here p rows trial
    (optional_read (reads_pass first n ra) (optional_passes k mode (pass_of first n r)) (λ q. loops k mode first n a q 0 rest) trial p level
    (λ q h bound rows.
    loops_read ra mode first n k q 0 rest trial (omega arith) (λ q' m' after' rows. follows q' m' (after_after (on h bound) after') rows) rows)
    rows)
    ((reads_here line).first p level rest trial follows rows)

reads_star : {line : List ℕ} {r : Reading} (mode : Mode) (first n : ℕ) (e : Core) → Reads line (grow line e) r
    → Reads line (grow line (star mode first n e)) (optional_passes (length line) mode (pass_of first n r))
reads_star {line} mode first n e ra =
    record {
      first = λ p level rest trial follows rows. loops_read ra mode first n (length line) p level rest trial (omega arith) follows rows;
    }

reads_maybes : {line : List ℕ} {r : Reading} (mode : Mode) (first n k : ℕ) (e : Core) → Reads line (grow line e) r
    → Reads line (grow line (maybes k mode first n e)) (optional_passes k mode (pass_of first n r))
reads_maybes {line} mode first n zero e ra = reads_here line
reads_maybes mode first n (suc k) e ra = reads_optional mode (reads_pass first n ra) (reads_maybes mode first n k e ra)

reads_optionals : {line : List ℕ} {r : Reading} (least : ℕ) (upper : Upper) (mode : Mode) (first n : ℕ) (e : Core) → Reads line (grow line e) r
    → Reads line (grow line (optionals least upper mode first n e)) (optional_passes (optional_count least upper line) mode (pass_of first n r))
reads_optionals least (up_to most) mode first n e ra = reads_maybes mode first n (most - least) e ra
reads_optionals least no_end mode first n e ra = reads_star mode first n e ra

reads_musts : {line : List ℕ} {r s : Reading} (first n k : ℕ) (e next : Core) → Reads line (grow line e) r → Reads line (grow line next) s
    → Reads line (grow line (musts k first n e next)) (must_passes k (pass_of first n r) s)
reads_musts first n zero e next ra sb = sb
reads_musts first n (suc k) e next ra sb = reads_turn (reads_pass first n ra) (reads_musts first n k e next ra sb)

-- the tree of a pattern written out reads as the pattern
mutual
  pub reads : (e : Pattern) (line : List ℕ) (first : ℕ) → Reads line (grow line (written_out e first)) (read e line first)
  reads nothing line first = reads_nowhere line
  reads empty line first = reads_here line
  reads (bytes ranges) line first = reads_byte line ranges
  reads (group e) line first =
      reads_group first (read_untouched e line (suc first) (2 * first) (omega arith)) (reads e line (suc first))
  reads (sequence ms) line first = reads_sequence ms line first
  reads (alternation ms) line first = reads_alternation ms line first
  reads (repeat least upper mode e) line first =
      let inside = written_out e first in
      reads_musts first (groups e) least inside (optionals least upper mode first (groups e) inside) (reads e line first)
      (reads_optionals least upper mode first (groups e) inside (reads e line first))

  reads_sequence : (ms : Members) (line : List ℕ) (first : ℕ) → Reads line (grow line (chained ms first)) (read_sequence ms line first)
  reads_sequence (two a b) line first = reads_turn (reads a line first) (reads b line (first + groups a))
  reads_sequence (more a ms) line first = reads_turn (reads a line first) (reads_sequence ms line (first + groups a))

  reads_alternation : (ms : Members) (line : List ℕ) (first : ℕ) → Reads line (grow line (forked ms first)) (read_alternation ms line first)
  reads_alternation (two a b) line first = reads_or (reads a line first) (reads b line (first + groups a))
  reads_alternation (more a ms) line first = reads_or (reads a line first) (reads_alternation ms line (first + groups a))
