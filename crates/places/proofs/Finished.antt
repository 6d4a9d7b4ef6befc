-- The whole pattern: what building it asks for, and the list of its places, alone or with a search's wrap around it.
use Prim.Native.Nat.{ℕ, suc, ◌+◌, ◌≤◌}
use mathlib.Core.Path.{◌≡◌, refl, sym, ap, subst, ◌∙◌}
use mathlib.Core.List.{List, [], ◌∷◌, ◌++◌}
use native.Mathlib.Omega.{arith}
use lib.ListN.{length}
use Rattle.paper.specs.Limits.{pattern_groups, pattern_places}
use Rattle.paper.specs.Refusal.{accepted}
use Rattle.paper.specs.Pattern.{greedy, lazy, Pattern, places, all_places, groups}
use Rattle.paper.specs.Check.{pattern_of}
use Rattle.paper.specs.Reading.{every_byte}
use Rattle.paper.specs.Machine.{Core, eats, captures, chain, star, accept, size, lay, written_out, places_of}
use Rattle.paper.specs.Match.{wrap}
use Rattle.paper.specs.Bounds.{search_places}
use Rattle.paper.proofs.layout.Accepted.{accepted_injective}
use Rattle.paper.proofs.machine.Sizes.{size_written}
use Rattle.laying.specs.Room.{most_places}
use Rattle.laying.specs.Laid.{Holds, Kept, Lays}
use Rattle.laying.specs.Single.{Put, StarLaid}
use Rattle.laying.proofs.Stores.{put_holds, lays_kept, kept_both}
use Rattle.laying.proofs.Entering.{entry_some}
use Rattle.places.specs.Walk.{One, OneLaid, GroupLaid}
use Rattle.places.specs.Built.{Accepted, Built}
use Rattle.places.proofs.Walked.{Whole, pattern_stands}
use Rattle.places.proofs.Listing.{listed, lists_one, lists_both, lays_lists, decode_listed}
use Rattle.places.proofs.Rows.{chain_lays}

-- the places that checking told are the tree's
pub whole_places : {bs : List ℕ} {e : Pattern} {p g : ℕ} → Accepted bs p g → pattern_of bs ≡ accepted e → p ≡ places e
whole_places a found = a.places_are ∙ ap places (accepted_injective (sym a.found ∙ found))

-- so are the groups
pub whole_groups : {bs : List ℕ} {e : Pattern} {p g : ℕ} → Accepted bs p g → pattern_of bs ≡ accepted e → g ≡ groups e
whole_groups a found = a.groups_are ∙ ap groups (accepted_injective (sym a.found ∙ found))

-- both keep the limits
pub whole_few : {bs : List ℕ} {p g : ℕ} → Accepted bs p g → (p + 1 ≤ pattern_places) × (g ≤ pattern_groups)
whole_few {bs} a =
    let w = pattern_stands bs a.tree a.found in
    (omega (arith, w.few_places, a.places_are), omega (arith, w.few_groups, a.groups_are))

-- its places stand from some index on, its first group is number 1
abbrev pub whole_one : {bs : List ℕ} {e : Pattern} {p g : ℕ} (base next : ℕ) → Whole bs e → p ≡ places e → g ≡ groups e → base + p ≤ most_places → next ≤ 510
    → One bs 0 (length bs) base next 1 p g
whole_one {bs} {e} base next w same sameg room follows =
    record {
      tree = e;
      inside = record { stand = w.stand; end_is = w.end_is; ends = omega arith; short = w.short; few = omega (arith, w.few_groups) };
      places_are = same;
      groups_are = sameg;
      small = omega (arith, w.few_places);
      room = room;
      follows = follows;
    }

-- what is laid, with an accepting place behind it, is built
built_of : {bs t t' : List ℕ} {n : ℕ} (c : Core) → Lays t' bs c 0 (size c) → Holds t' bs (size c) accept → Kept 0 n t t' → n ≡ size c + 1
    → Built (lay c 0 (size c) ++ (accept ∷ [])) n bs t t'
built_of {bs} {t} {t'} {n} c laid last kept count =
    let all = lists_both (lays_lists c t' bs 0 (size c) laid) (lists_one (subst (λ (x : ℕ). Holds t' bs x accept) (here (size c)) last)) in
    record {
      decoded = decode_listed t' bs n ∙ ap (listed t' bs 0) count ∙ all.are;
      readable = λ x lt. all.readable x (omega arith) (omega arith);
      same_length = kept.same_length;
      untouched = λ i le. kept.behind i (omega arith);
    }
  where
    here : (k : ℕ) → k ≡ 0 + k
    here k = omega arith

-- a whole match's places
pub match_built : {bs t t1 t2 : List ℕ} {e : Pattern} {p g : ℕ} → Whole bs e → p ≡ places e → g ≡ groups e → OneLaid bs 0 (length bs) 0 p 1 p g t t1 → Put t1 p 9 0 0 0 t2
    → Built (places_of e 1) (all_places e) bs t t2
match_built {bs} {t} {t1} {t2} {e} {p} {g} w same sameg o put =
    let c = written_out e 1 in
    let long : p ≡ size c = same ∙ sym (size_written e 1) in
    let laid = lays_kept c bs 0 p put.kept (omega arith) (o.laid (whole_one 0 p w same sameg (omega (arith, w.few_places)) (omega (arith, w.few_places)))) in
    let last = put_holds bs put (omega arith) (λ six. absurd (omega arith)) in
    let kept = kept_both 0 (all_places e) o.kept put.kept (omega arith) (omega arith) (omega arith) (omega arith) in
    built_of c (subst (λ (n : ℕ). Lays t2 bs c 0 n) long laid) (subst (λ (x : ℕ). Holds t2 bs x accept) long last) kept (omega arith)

-- a search's places
pub search_built : {bs t t1 t2 t3 t4 : List ℕ} {e : Pattern} {p g : ℕ} → Whole bs e → p ≡ places e → g ≡ groups e → StarLaid 0 1 4 0 t t1
    → GroupLaid bs 0 (length bs) 4 (p + 6) 1 p g 0 t1 t2 → StarLaid (p + 6) 0 (p + 6 + 4) (g + 1) t2 t3 → Put t3 (p + 6 + 4) 9 0 0 0 t4
    → Built (places_of (wrap e) 0) (search_places e) bs t t4
search_built {bs} {t} {t1} {t2} {t3} {t4} {e} {p} {g} w same sameg s h z put =
    let inner = written_out e 1 in
    let long : p ≡ size inner = same ∙ sym (size_written e 1) in
    let any = eats every_byte in
    let before = star lazy 0 0 any in
    let group = captures 0 inner in
    let behind = star greedy (0 + suc (groups e)) 0 any in
    let c = chain before (chain group behind) in
    let all : p + 6 + 4 ≡ size c = omega arith in
    let laid-behind : Lays t4 bs behind (4 + size group) (size c) =
    subst (λ (n : ℕ). Lays t4 bs behind (4 + size group) n) all
    (subst (λ (b : ℕ). Lays t4 bs behind b (p + 6 + 4)) (omega arith)
    (subst (λ (k : ℕ). Lays t4 bs (star greedy k 0 any) (p + 6) (p + 6 + 4)) (omega arith)
    (lays_kept (star greedy (g + 1) 0 any) bs (p + 6) (p + 6 + 4) put.kept (omega arith) (z.laid bs)))) in
    let laid-before : Lays t4 bs before 0 4 =
    lays_kept before bs 0 4 put.kept (omega arith)
    (lays_kept before bs 0 4 z.kept (omega arith) (lays_kept before bs 0 4 h.kept (omega arith) (s.laid bs))) in
    let laid-group : Lays t4 bs group 4 (p + 6) =
    lays_kept group bs 4 (p + 6) put.kept (omega arith)
    (lays_kept group bs 4 (p + 6) z.kept (omega arith)
    (h.laid (whole_one 5 (5 + p) w same sameg (omega (arith, w.few_places)) (omega (arith, w.few_places))))) in
    let laid : Lays t4 bs c 0 (size c) =
    chain_lays t4 bs before (chain group behind) 0 (size c) 4 4 refl (sym (entry_some (size (chain group behind)) 4 (size c) (λ none. omega arith)))
    laid-before
    (chain_lays t4 bs group behind 4 (size c) (size group) (p + 6) refl (omega arith) laid-group laid-behind) in
    let last = put_holds bs put (omega arith) (λ six. absurd (omega arith)) in
    let high = search_places e in
    let kept = kept_both 0 high
    (kept_both 0 high (kept_both 0 high s.kept h.kept (omega arith) (omega arith) (omega arith) (omega arith)) z.kept (omega arith) (omega arith)
    (omega arith) (omega arith))
    put.kept (omega arith) (omega arith) (omega arith) (omega arith) in
    built_of c laid (subst (λ (x : ℕ). Holds t4 bs x accept) all last) kept (omega arith)
