-- A machine in its memory: its head stands before its table, which is the part of the memory that was built into, and a run reads both back.
use Prim.Native.Nat.{ℕ, ◌-◌, ◌*◌, ◌≤◌, ◌<◌, min}
use native.Mathlib.Nat.{min-le_left, min-le_right}
use native.Mathlib.Omega.{arith}
use mathlib.Core.Path.{◌≡◌, refl, sym, ap, subst, ◌∙◌}
use mathlib.Core.Bool.{Bool, true, false}
use mathlib.Core.List.{List, [], ◌∷◌, ◌++◌, append-nil}
use mir.Val.{bool_byte}
use lib.Dec.{eqb}
use lib.ListN.{length, get_or, set, take, drop, length-drop}
use lib.Seq.{take_all, drop-length, drop-drop, get_or-take}
use borrow.Rule.Slice.PartMut.{mid_of, put_mid, Post-is}
use Rattle.paper.specs.Limits.{line_bytes}
use Rattle.paper.specs.Tables.{place_numbers}
use Rattle.std.specs.Prelude.{Result, Ok}
use Rattle.pattern.specs.declared.Numbers.{Numbers}
use Rattle.pattern.specs.declared.Refused.{Refused}
use Rattle.machine.specs.declared.scratch.Scratch.{Scratch}
use Rattle.machine.specs.Machine.{Ready, Builds}
use Rattle.machine.specs.Scratch.{Runnable}
use Rattle.machine.proofs.Wiring.{ready_places, ready_pairs}
use Rattle.memory.specs.Memory.{head_numbers, places_in, depth_in, searches_in, machine_numbers, scratch_numbers, memories, shortest, MachineOf, Holds}

-- the memory with a table put behind its head
abbrev with_table : List ℕ → List ℕ → List ℕ
with_table machine table = put_mid head_numbers (length machine - head_numbers) machine table

-- the part behind the head is all that stands behind it
all_behind : (machine : List ℕ) → take (length machine - head_numbers) (drop head_numbers machine) ≡ drop head_numbers machine
all_behind machine = take_all (length machine - head_numbers) (drop head_numbers machine) (omega (arith, length-drop head_numbers machine))

module _ (machine table : List ℕ) (room : machine_numbers ≤ length machine) where
  put_behind : with_table machine table ≡ take head_numbers machine ++ table
  put_behind =
      ap (λ (z : List ℕ). take head_numbers machine ++ (table ++ z))
      (Post-is head_numbers (length machine) machine (omega arith) ∙ drop-length machine)
      ∙ ap (λ (z : List ℕ). take head_numbers machine ++ z) (append-nil table)

  -- then the head written
  pub stored : (a b c : ℕ) → set (set (set (with_table machine table) 0 a) 1 b) 2 c ≡ a ∷ b ∷ c ∷ table
  stored a b c = ap (λ (l : List ℕ). set (set (set l 0 a) 1 b) 2 c) put_behind ∙ by machine (omega arith)
    where
      by : (m : List ℕ) → head_numbers ≤ length m → set (set (set (take head_numbers m ++ table) 0 a) 1 b) 2 c ≡ a ∷ b ∷ c ∷ table
      by [] h = absurd (omega arith)
      by (x ∷ []) h = absurd (omega arith)
      by (x ∷ y ∷ []) h = absurd (omega arith)
      by (x ∷ y ∷ z ∷ m) h = refl

-- what building into the part behind the head promises of the memory
module _ (pattern : List ℕ) (searches : Bool) (machine table : List ℕ) (room : machine_numbers ≤ length machine) where
  abbrev Below : Result Numbers Refused → Type 0
  Below r = Builds pattern searches (mid_of head_numbers (length machine - head_numbers) machine) table r

  pub ready_below : {r : Result Numbers Refused} {n : Numbers} → Below r → r ≡ Ok n → Ready pattern table searches n.places n.depth
  ready_below b is = (subst Below is b).0

  pub built_in : {r : Result Numbers Refused} {n : Numbers} → Below r → r ≡ Ok n
      → Holds pattern searches machine (set (set (set (with_table machine table) 0 n.places) 1 n.depth) 2 (bool_byte searches)) n.places n.depth n.groups
  built_in {n = n} b is =
      let built = subst Below is b in
      let size = place_numbers * n.places in
      subst (λ (l : List ℕ). Holds pattern searches machine l n.places n.depth n.groups) (sym (stored machine table room n.places n.depth (bool_byte searches)))
      (record {
        head = refl;
        ready = built.0;
        many_are = built.1;
        behind = sym (drop-drop size head_numbers (n.places ∷ n.depth ∷ bool_byte searches ∷ table)) ∙ built.2 ∙ ap (drop size) (all_behind machine) ∙ drop-drop size head_numbers machine;
      })

-- a memory that holds a machine: its head reads back what was built
module _ {pattern : List ℕ} {searches : Bool} {before machine : List ℕ} {places deep many : ℕ} (held : Holds pattern searches before machine places deep many) where
  head_number : (i : ℕ) → i < head_numbers → get_or machine i 0 ≡ get_or (places ∷ deep ∷ bool_byte searches ∷ []) i 0
  head_number i low = sym (get_or-take head_numbers machine i 0 low) ∙ ap (λ (l : List ℕ). get_or l i 0) held.head

  pub held_places : places_in machine ≡ places
  held_places = head_number 0 (omega arith)

  held_depth : depth_in machine ≡ deep
  held_depth = head_number 1 (omega arith)

  held_search : searches_in machine ≡ searches
  held_search = ap (λ (n : ℕ). eqb n 1) (head_number 2 (omega arith)) ∙ read searches
    where
      read : (s : Bool) → eqb (bool_byte s) 1 ≡ s
      read true = refl
      read false = refl

  -- so it is what a run asks for
  pub held_machine : MachineOf pattern machine
  held_machine =
      subst (λ (s : Bool). Ready pattern (drop head_numbers machine) s (places_in machine) (depth_in machine)) (sym held_search)
      (subst (λ (n : ℕ). Ready pattern (drop head_numbers machine) searches n (depth_in machine)) (sym held_places)
      (subst (λ (n : ℕ). Ready pattern (drop head_numbers machine) searches places n) (sym held_depth) held.ready))

-- so a table there is ready in the part
pub ready_behind : {pattern : List ℕ} (machine : List ℕ) {searches : Bool} {places deep : ℕ} → Ready pattern (drop head_numbers machine) searches places deep
    → Ready pattern (take (length machine - head_numbers) (drop head_numbers machine)) searches places deep
ready_behind {pattern} machine {searches} {places} {deep} m =
    subst (λ (l : List ℕ). Ready pattern l searches places deep) (sym (all_behind machine)) m

-- four memories of which the shortest is long enough are scratch for it
pub ready_in : {pattern code line : List ℕ} {searches : Bool} {places deep : ℕ} (scratch : Scratch)
    → Ready pattern code searches places deep → length line ≤ line_bytes
    → scratch_numbers ≤ shortest (memories scratch.seen.now scratch.taken.now scratch.lists.now scratch.pending.now) → Runnable places deep line 0 scratch
ready_in scratch m short room =
    let seen = length scratch.seen.now in
    let taken = length scratch.taken.now in
    let lists = length scratch.lists.now in
    let pending = length scratch.pending.now in
    let front_long : scratch_numbers ≤ min seen taken = omega (arith, min-le_left (min seen taken) (min lists pending)) in
    let back_long : scratch_numbers ≤ min lists pending = omega (arith, min-le_right (min seen taken) (min lists pending)) in
    record {
      short = short;
      starts = omega arith;
      roomy = record {
        seen_long = omega (arith, ready_pairs m, min-le_left seen taken);
        taken_long = omega (arith, ready_places m, min-le_right seen taken);
        lists_long = omega (arith, ready_places m, min-le_left lists pending);
        pending_long = omega (arith, ready_places m, min-le_right lists pending);
      };
    }
