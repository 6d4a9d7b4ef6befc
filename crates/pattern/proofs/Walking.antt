-- How the walk's answers are put together: from what is found inside a record to what is found in it, one law a way out of each function.
use mir.Val.{bool_byte}
use Prim.Native.Nat.{ℕ, zero, suc, ◌+◌, ◌-◌, ◌≤◌, max}
use mathlib.Core.Path.{◌≡◌, refl, ap, sym, ◌∙◌}
use mathlib.Core.Bool.{Bool, true, false, cond}
use mathlib.Core.List.{List, [], ◌∷◌}
use mathlib.Core.Logic.{⊎_elim}
use native.Mathlib.Nat.{eq-zero-or-pos}
use native.Mathlib.Omega.{arith}
use lib.Dec.{ltb, eqb}
use lib.ListN.{length}
use borrow.Author.Tests.{le-leb, eq-eqb, ne_eqb}
use Rattle.std.specs.Prelude.{Result, Ok, Err}
use Rattle.paper.specs.Refusal.{Checked, accepted, ◌>>=◌, ◌>>◌, holds, repeat_wrong}
use Rattle.paper.specs.Pattern.{Pattern, Members, places, depth, groups, count, places_of_all, depth_of_all, groups_of_all}
use Rattle.paper.specs.Pattern.Pattern.{sequence, alternation, repeat}
use Rattle.paper.specs.Layout.{Kind, nothing_kind, empty_kind, bytes_kind, group_kind, sequence_kind, alternation_kind, repeat_kind, kinds, kind_number}
use Rattle.paper.specs.Check.{Walk, number_at, body_length, body_start, body_end, kind_at, kind_among, body, single, members_from, at_least_two, walk_record, repeat_numbers_right, upper_of, mode_of, repeat_head}
use Rattle.pattern.specs.declared.Refused.{Refused}
use Rattle.pattern.specs.declared.walk.Walked.{Walked}
use Rattle.pattern.specs.declared.walk.Members as declared
use Rattle.pattern.specs.Walk.{capped, optional_passes, pass_places, places_in, depth_in, groups_in, members_of, several_found, Counts, CountsAll, Tells}
use Rattle.pattern.proofs.Counting.{capped_add, capped_passes, repeat_passes, optional_passes_law}

-- an answer for the same thing found, with more room
pub passed_on : {stop stop' levels levels' end end' : ℕ} (before : ℕ) {found found' : Checked Pattern} (r : Result Walked Refused) → stop ≤ stop' → levels ≤ levels'
    → end ≡ end' → found ≡ found' → Tells stop levels end before found r → Tells stop' levels' end' before found' r
passed_on before (Err e) s l q f t = sym f ∙ t
passed_on before (Ok w) s l q f t = record {
  tree = t.tree;
  is = sym f ∙ t.is;
  ends = t.ends ∙ q;
  places_are = t.places_are;
  depth_is = t.depth_is;
  groups_are = t.groups_are;
  before_stop = omega (arith, t.before_stop);
  few_levels = omega (arith, t.few_levels);
  few_groups = t.few_groups;
}

-- ---- a record's header

module _ (bs : List ℕ) (at stop before : ℕ) where
  -- a kind is found by its number
  among : (kind : Kind) (number : ℕ) → kind_number kind ≡ number → kind_among kinds number at ≡ accepted kind
  among nothing_kind number e = rw (sym e)
  among empty_kind number e = rw (sym e)
  among bytes_kind number e = rw (sym e)
  among group_kind number e = rw (sym e)
  among sequence_kind number e = rw (sym e)
  among alternation_kind number e = rw (sym e)
  among repeat_kind number e = rw (sym e)

  -- with a level left the walk goes on in the body
  pub one_level : (levels : ℕ) (kind : Kind) → (levels ≡ 0 → ⊥) → body_end bs at ≤ stop → kind_number kind ≡ kind_at bs at
      → body kind (walk_record (levels - 1) bs) bs at before ≡ walk_record levels bs at stop before
  one_level zero kind n le known = absurd (n refl)
  one_level (suc left) kind n le known =
      let e : suc left - 1 ≡ left = omega arith in
      rw (e, le-leb (body_end bs at) stop le, among kind (kind_at bs at) known)

-- a body is empty where it ends as it starts
pub no_body : (start n : ℕ) → eqb start (start + n) ≡ eqb n 0
no_body start n = ⊎_elim
    (λ z. eq-eqb start (start + n) (omega arith) ∙ sym (eq-eqb n 0 z))
    (λ pos. ne_eqb start (start + n) (λ e. omega arith) ∙ sym (ne_eqb n 0 (λ e. omega arith)))
    (eq-zero-or-pos n)

-- ---- a repeat

module _ (walk : Walk) (bs : List ℕ) (at end left before : ℕ) where
  module _ {start least most mode : ℕ} (starts : start ≡ body_start at)
      (the-least : least ≡ number_at bs start) (the-most : most ≡ number_at bs (start + 2)) (the-mode : mode ≡ number_at bs (start + 4))
      (long : repeat_head ≤ body_length bs at) where
    numbers_judged : (right : Bool) → repeat_numbers_right least most mode ≡ right → body repeat_kind walk bs at before ≡
        (holds right repeat_wrong at >> (single walk bs at (start + repeat_head) before >>= λ e. accepted (repeat least (upper_of most) (mode_of mode) e)))
    numbers_judged right e =
        let q : repeat_numbers_right (number_at bs (body_start at)) (number_at bs (body_start at + 2)) (number_at bs (body_start at + 4)) ≡ right =
        rw (the-least, the-most, the-mode, starts) at e in
        rw (the-least, the-most, the-mode, starts, le-leb repeat_head (body_length bs at) long, q)

    -- a repeat's answer out of that of the one record inside
    pub repeat_counts : {optional more : ℕ} {w : Walked} → repeat_numbers_right least most mode ≡ true → optional ≡ optional_passes least (upper_of most)
        → more ≡ bool_byte (ltb 0 optional) → Counts end left end before (single walk bs at (start + repeat_head) before) w
        → Counts end (left + 1) end before (body repeat_kind walk bs at before)
        (record w { places = capped (pass_places least optional w.places); depth = w.depth + more })
    repeat_counts {optional} {more} {w} right o m t =
        let upper = upper_of most in
        let q : optional_passes least upper ≡ optional = sym o in
        let deeper : depth (repeat least upper (mode_of mode) t.tree) ≡ depth t.tree + more = rw (← optional_passes_law least upper, q, m) (level (ltb 0 optional)) in
        record {
          tree = repeat least upper (mode_of mode) t.tree;
          is = numbers_judged true right ∙ rw t.is;
          ends = t.ends;
          places_are = rw (t.places_are, o, capped_passes least (optional_passes least upper) (places t.tree), repeat_passes least upper (places t.tree));
          depth_is = omega (arith, deeper, t.depth_is);
          groups_are = t.groups_are;
          before_stop = t.before_stop;
          few_levels = rw m (one_at_most (ltb 0 optional) t.few_levels);
          few_groups = t.few_groups;
        }
      where
        level : (b : Bool) → cond b (suc (depth t.tree)) (depth t.tree) ≡ depth t.tree + bool_byte b
        level true = omega arith
        level false = omega arith

        one_at_most : (b : Bool) → w.depth ≤ left → w.depth + bool_byte b ≤ left + 1
        one_at_most true h = omega arith
        one_at_most false h = omega arith

-- ---- several records inside

all_places_law : (a b : Pattern) (rest : List Pattern) → places_of_all (members_from a b rest) ≡ places_in (a ∷ b ∷ rest)
all_places_law a b [] = omega arith
all_places_law a b (c ∷ rest) = ap (λ (n : ℕ). places a + n) (all_places_law b c rest)

all_depth : (a b : Pattern) (rest : List Pattern) → depth_of_all (members_from a b rest) ≡ depth_in (a ∷ b ∷ rest)
all_depth a b [] = omega arith
all_depth a b (c ∷ rest) = ap (max (depth a)) (all_depth b c rest)

all_groups : (a b : Pattern) (rest : List Pattern) → groups_of_all (members_from a b rest) ≡ groups_in (a ∷ b ∷ rest)
all_groups a b [] = omega arith
all_groups a b (c ∷ rest) = ap (λ (n : ℕ). groups a + n) (all_groups b c rest)

all_counted : (a b : Pattern) (rest : List Pattern) → count (members_from a b rest) ≡ length (a ∷ b ∷ rest)
all_counted a b [] = refl
all_counted a b (c ∷ rest) = ap suc (all_counted b c rest)

-- a sequence, or an alternation where there are forks
abbrev pub joined : Bool → Members → Pattern
joined false ms = sequence ms
joined true ms = alternation ms

-- what follows the members is judged by how many they are
several_law : (forks : Bool) (walk : Walk) (bs : List ℕ) (at before : ℕ)
    → several_found forks walk bs at before ≡ ((members_of walk bs at before >>= λ es. at_least_two es at) >>= λ ms. accepted (joined forks ms))
several_law true walk bs at before = refl
several_law false walk bs at before = refl

module _ (forks : Bool) (walk : Walk) (bs : List ℕ) (at end left before : ℕ) where
  module _ {m : declared.Members} (t : CountsAll left before (members_of walk bs at before) m) where
    -- a sequence's or an alternation's answer out of that of the records inside
    pub several_counts : {forked : ℕ} → 2 ≤ m.count → forked ≡ cond forks (m.count - 1) 0
        → Counts end (left + 1) end before (several_found forks walk bs at before)
        (record { end = end; places = capped (m.places + forked); depth = m.depth; groups = m.groups })
    several_counts {forked} enough f = look t.trees t.are t.count_is t.places_are t.depth_is t.groups_are where
      counted : (forks : Bool) (a b : Pattern) (rest : List Pattern) → m.count ≡ length (a ∷ b ∷ rest) → m.places ≡ capped (places_in (a ∷ b ∷ rest))
          → forked ≡ cond forks (m.count - 1) 0 → capped (m.places + forked) ≡ capped (places (joined forks (members_from a b rest)))
      counted true a b rest n p f = rw (p, f, n, all_places_law a b rest, all_counted a b rest) (capped_add (places_in (a ∷ b ∷ rest)) (length (a ∷ b ∷ rest) - 1))
      counted false a b rest n p f =
          let e : capped (capped (places_in (a ∷ b ∷ rest)) + 0) ≡ capped (places_in (a ∷ b ∷ rest)) = omega arith in
          rw (p, f, all_places_law a b rest, e)

      deep : (forks : Bool) (a b : Pattern) (rest : List Pattern) → depth_in (a ∷ b ∷ rest) ≡ depth (joined forks (members_from a b rest))
      deep true a b rest = sym (all_depth a b rest)
      deep false a b rest = sym (all_depth a b rest)

      many : (forks : Bool) (a b : Pattern) (rest : List Pattern) → groups_in (a ∷ b ∷ rest) ≡ groups (joined forks (members_from a b rest))
      many true a b rest = sym (all_groups a b rest)
      many false a b rest = sym (all_groups a b rest)

      look : (es : List Pattern) → members_of walk bs at before ≡ accepted es → m.count ≡ length es → m.places ≡ capped (places_in es) → m.depth ≡ depth_in es
          → m.groups ≡ before + groups_in es
          → Counts end (left + 1) end before (several_found forks walk bs at before)
          (record { end = end; places = capped (m.places + forked); depth = m.depth; groups = m.groups })
      look [] is n p d g = absurd (omega arith)
      look (a ∷ []) is n p d g = absurd (omega arith)
      look (a ∷ b ∷ rest) is n p d g = record {
        tree = joined forks (members_from a b rest);
        is = several_law forks walk bs at before ∙ rw is;
        ends = refl;
        places_are = counted forks a b rest n p f;
        depth_is = d ∙ deep forks a b rest;
        groups_are = g ∙ ap (λ (n : ℕ). before + n) (many forks a b rest);
        before_stop = omega arith;
        few_levels = omega (arith, t.few_levels);
        few_groups = t.few_groups;
      }
