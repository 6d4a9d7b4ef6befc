-- What checking found and building wrote make a machine that is ready.
use Prim.Native.Nat.{ℕ, ◌+◌, ◌-◌, ◌*◌, max, ◌≤◌, ◌<◌}
use native.Mathlib.Omega.{arith}
use mathlib.Core.Path.{◌≡◌, refl, sym, ap, subst, ◌∙◌}
use mathlib.Core.Bool.{Bool, true, false}
use mathlib.Core.List.{List}
use lib.ListN.{length, get_or, drop, length-drop}
use lib.Seq.{get_or-drop, ext_get_or}
use Rattle.paper.specs.Refusal.{Checked, refused, accepted, ◌>>=◌}
use Rattle.paper.specs.Pattern.{Pattern, all_places, depth, groups}
use Rattle.paper.specs.Check.{pattern_of, Numbers, numbers_of}
use Rattle.paper.specs.Machine.{Place, places_of}
use Rattle.paper.specs.Tables.{place_numbers}
use Rattle.paper.proofs.layout.Lawful.{accepted_lawful}
use Rattle.paper.proofs.machine.Sizes.{places_wrap, depth_wrap}
use Rattle.std.specs.Prelude.{Result, Ok, Err}
use Rattle.pattern.specs.declared.Numbers as declared
use Rattle.pattern.specs.declared.Refused as refusing
use Rattle.pattern.specs.Refusals.{number_of}
use Rattle.pattern.specs.Answer.{answer_of, Checks}
use Rattle.laying.specs.Room.{table_room}
use Rattle.places.specs.Built as places
use Rattle.machine.specs.Machine.{wrapped, first_group, Ready, Builds}
use Rattle.machine.proofs.Wiring.{few_places}

-- the tree of a pattern that checking took, with its places, its depth and its groups
pub record Tree (pattern : List ℕ) (all deep many : ℕ) : Type 0 where
  pub tree : Pattern
  pub found : pattern_of pattern ≡ accepted tree
  pub all_are : all ≡ all_places tree
  pub deep_is : deep ≡ depth tree
  pub many_are : many ≡ groups tree

-- checking takes a pattern exactly where it has a tree
pub tree_of : {pattern : List ℕ} {r : Result declared.Numbers refusing.Refused} {n : declared.Numbers} → Checks pattern r → r ≡ Ok n → Tree pattern n.places n.depth n.groups
tree_of {pattern} {r} {n} checked is = look (pattern_of pattern) refl (sym (ap answer_of is) ∙ checked.answer)
  where
    look : (found : Checked Pattern) → pattern_of pattern ≡ found
        → accepted (record { places = n.places; depth = n.depth; groups = n.groups }) ≡ (found >>= λ e. accepted (numbers_of e))
        → Tree pattern n.places n.depth n.groups
    look (refused number place) is e = let z : ◌≡◌ {A = ℕ} 0 1 = cc in absurd (omega arith)
    look (accepted tree) is e =
        let same : ◌≡◌ {A = Numbers} (record { places = n.places; depth = n.depth; groups = n.groups }) (numbers_of tree) = cc in
        record { tree = tree; found = is; all_are = ap (λ (m : Numbers). m.places) same; deep_is = ap (λ (m : Numbers). m.depth) same; many_are = ap (λ (m : Numbers). m.groups) same }

-- so it can be built
pub accepted_of : {pattern : List ℕ} {n d g : ℕ} → Tree pattern n d g → places.Accepted pattern (n - 1) g
accepted_of t = record { tree = t.tree; found = t.found; places_are = omega (arith, t.all_are); groups_are = t.many_are }

-- and refuses it otherwise
pub fault_of : {pattern : List ℕ} {r : Result declared.Numbers refusing.Refused} {e : refusing.Refused} → Checks pattern r → r ≡ Err e
    → pattern_of pattern ≡ refused (number_of e.refusal) e.place
fault_of {pattern} {r} {e} checked is = look (pattern_of pattern) refl (sym (ap answer_of is) ∙ checked.answer)
  where
    look : (found : Checked Pattern) → pattern_of pattern ≡ found → refused (number_of e.refusal) e.place ≡ (found >>= λ e. accepted (numbers_of e))
        → pattern_of pattern ≡ refused (number_of e.refusal) e.place
    look (refused number' place') is q = let same : ◌≡◌ {A = Checked Pattern} (refused number' place') (refused (number_of e.refusal) e.place) = cc in is ∙ same
    look (accepted tree) is q = cc

-- what stands behind the places of a table that was built into is as it was
behind_places : {list : List Place} {count : ℕ} {pattern before after : List ℕ} → places.Built list count pattern before after
    → drop (place_numbers * count) after ≡ drop (place_numbers * count) before
behind_places {count = count} {before = before} {after} built =
    let n = place_numbers * count in
    ext_get_or 0 (drop n after) (drop n before) (length-drop n after ∙ ap (λ (k : ℕ). k - n) built.same_length ∙ sym (length-drop n before))
    (λ i h. get_or-drop n after i 0 ∙ built.untouched (n + i) (omega arith) ∙ sym (get_or-drop n before i 0))

module _ (pattern before after : List ℕ) (bytes : (i : ℕ) → get_or pattern i 0 < 256) (room : table_room ≤ length before) where
  -- a table that holds the places of the pattern to be built
  ready : (searches : Bool) (e : Pattern) (count deep : ℕ) → pattern_of pattern ≡ accepted e → count ≡ all_places (wrapped searches e)
      → deep ≡ depth (wrapped searches e) → places.Built (places_of (wrapped searches e) (first_group searches)) count pattern before after
      → Ready pattern after searches count deep
  ready searches e count deep found same low built =
      let lawful = (accepted_lawful pattern bytes e found).0 in
      record {
        tree = e;
        found = found;
        lawful = lawful;
        places_are = same;
        deep_is = low;
        long = omega (arith, built.same_length, few_places searches e lawful, same);
        decoded = built.decoded;
        readable = built.readable;
      }

  -- for a whole match
  pub builds_match : {count n d g : ℕ} (searches : Bool) → searches ≡ false → Tree pattern n d g → places.BuiltMatch pattern before after count
      → Builds pattern searches before after (Ok (record { places = count; depth = d; groups = g }))
  unfolding ready
  builds_match {count} {n} {d} {g} searches is t built =
      let e = t.tree in
      let same = built.count_is e t.found in
      let laid = subst (λ (n : ℕ). places.Built (places_of e 1) n pattern before after) (sym same) (built.built e t.found) in
      subst (λ (b : Bool). Builds pattern b before after (Ok (record { places = count; depth = d; groups = g }))) (sym is) (
        ready false e count d t.found same t.deep_is laid,
        t.many_are,
        behind_places laid,
      )

  -- for a search
  pub builds_search : {count n d g deep : ℕ} (searches : Bool) → searches ≡ true → deep ≡ max 1 d → Tree pattern n d g
      → places.BuiltSearch pattern before after count → Builds pattern searches before after (Ok (record { places = count; depth = deep; groups = g }))
  unfolding ready
  builds_search {count} {n} {d} {g} {deep = deep} searches is low t built =
      let e = t.tree in
      let same = built.count_is e t.found in
      let laid = subst (λ (n : ℕ). places.Built (places_of (wrapped true e) 0) n pattern before after) (sym same) (built.built e t.found) in
      subst (λ (b : Bool). Builds pattern b before after (Ok (record { places = count; depth = deep; groups = g }))) (sym is) (
        ready true e count deep t.found (same ∙ sym (places_wrap e)) (low ∙ ap (max 1) t.deep_is ∙ sym (depth_wrap e)) laid,
        t.many_are,
        behind_places laid,
      )
