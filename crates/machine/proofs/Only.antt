-- A table is ready in one way only: an accepted pattern has one tree, and all else is equations and orders. So that it is ready somehow says how.
use Prim.Native.Nat.{ℕ, ◌*◌, ◌≤◌, ◌<◌}
use mathlib.Core.Path.{◌≡◌, sym, ap, subst, ◌∙◌, contract}
use mathlib.Core.Bool.{Bool}
use mathlib.Core.List.{List, [], ◌∷◌}
use mathlib.Core.Logic.{∥∥₁_elim}
use mathlib.Core.Sum.{⊎_set}
use lib.ListN.{length}
use Rattle.std.proofs.Props.{props}
use Rattle.paper.specs.Refusal.{Checked, refused, accepted}
use Rattle.paper.specs.Pattern.{Upper, up_to, no_end, Range, Pattern, Members, all_places, depth}
use Rattle.paper.specs.Pattern.Pattern.{nothing, empty, bytes, group, sequence, alternation, repeat}
use Rattle.paper.specs.Pattern.Members.{two, more}
use Rattle.paper.specs.Layout.{Apart, CountsRight, WellMade, AllWellMade, Lawful}
use Rattle.paper.specs.Check.{pattern_of}
use Rattle.paper.specs.Machine.{Place, places_of}
use Rattle.paper.specs.Tables.{place_numbers, decode}
use Rattle.laying.specs.Laid.{Readable}
use Rattle.machine.specs.Machine.{wrapped, first_group, Ready}

place_set : IsSet Place
place_set = Prim.hlevel (props, ⊎_set)

readable_prop : (t p : List ℕ) (x : ℕ) → IsProp (Readable t p x)
readable_prop t p x = Prim.hlevel props

apart_prop : (ranges : List Range) → IsProp (Apart ranges)
apart_prop [] = Prim.hlevel props
apart_prop (r ∷ []) = Prim.hlevel props
apart_prop (r ∷ s ∷ rs) = Prim.hlevel (props, apart_prop (s ∷ rs))

counts_prop : (least : ℕ) (upper : Upper) → IsProp (CountsRight least upper)
counts_prop least (up_to most) = Prim.hlevel props
counts_prop least no_end = Prim.hlevel props

mutual
  made_prop : (e : Pattern) → IsProp (WellMade e)
  made_prop nothing = Prim.hlevel props
  made_prop empty = Prim.hlevel props
  made_prop (bytes ranges) = Prim.hlevel (props, apart_prop ranges)
  made_prop (group e) = made_prop e
  made_prop (sequence ms) = all_made_prop ms
  made_prop (alternation ms) = all_made_prop ms
  made_prop (repeat least upper mode e) = Prim.hlevel (counts_prop least upper, made_prop e)

  all_made_prop : (ms : Members) → IsProp (AllWellMade ms)
  all_made_prop (two a b) = Prim.hlevel (made_prop a, made_prop b)
  all_made_prop (more a ms) = Prim.hlevel (made_prop a, all_made_prop ms)

lawful_prop : (e : Pattern) → IsProp (Lawful e)
lawful_prop e = Prim.hlevel (props, made_prop)

-- the tree of an accepted pattern, with its equation
abbrev Tree : Checked Pattern → Type 0
Tree found = (tree : Pattern) × (found ≡ accepted tree)

one_tree : (found : Checked Pattern) → IsProp (Tree found)
one_tree found t u = ap (λ (w : (f : Checked Pattern) × (found ≡ f)). read w.0 w.1) (alike t u)
  where
    read : (f : Checked Pattern) → found ≡ f → Tree found
    read (accepted tree) is = (tree, is)
    read (refused number place) is = t

    alike : (t u : Tree found) → ◌≡◌ {A = (f : Checked Pattern) × (found ≡ f)} (accepted t.0, t.1) (accepted u.0, u.1)
    alike t u = sym (contract t.1) ∙ contract u.1

module _ (pattern code : List ℕ) (searches : Bool) (places deep : ℕ) where
  -- what is known of a table beside the tree
  abbrev Rest : Pattern → Type 0
  Rest tree =
      let e = wrapped searches tree in
      Lawful tree
      × (places ≡ all_places e)
      × (deep ≡ depth e)
      × (place_numbers * places ≤ length code)
      × (decode code pattern places ≡ places_of e (first_group searches))
      × ((x : ℕ) → x < places → Readable code pattern x)

  abbrev Whole : Type 0
  Whole = (t : Tree (pattern_of pattern)) × Rest t.0

  parts : Ready pattern code searches places deep → Whole
  parts m = ((m.tree, m.found), (m.lawful, m.places_are, m.deep_is, m.long, m.decoded, m.readable))

  together : Whole → Ready pattern code searches places deep
  together w = record {
    tree = w.0.0;
    found = w.0.1;
    lawful = w.1.0;
    places_are = w.1.1;
    deep_is = w.1.2;
    long = w.1.3;
    decoded = w.1.4;
    readable = w.1.5;
  }

  ready_prop : IsProp (Ready pattern code searches places deep)
  unfolding parts together
  ready_prop m n = ap together (whole (parts m) (parts n))
    where
      whole : IsProp Whole
      whole = Prim.hlevel (props, place_set, lawful_prop, readable_prop, one_tree)

  only : ∥ Ready pattern code searches places deep ∥₁ → Ready pattern code searches places deep
  only somehow = ∥∥₁_elim somehow ready_prop (λ m. m)

-- what is known of a table that is ready somehow
pub ready_of : {pattern code : List ℕ} {searches : Bool} {places deep : ℕ} → ∥ Ready pattern code searches places deep ∥₁ → Ready pattern code searches places deep
ready_of {pattern} {code} {searches} {places} {deep} somehow = only pattern code searches places deep somehow

-- and of one that was built for a search, or for a whole match
pub ready_as : {pattern code : List ℕ} {searches built : Bool} {places deep : ℕ} → searches ≡ built → ∥ Ready pattern code searches places deep ∥₁
    → Ready pattern code built places deep
ready_as {pattern} {code} {places = places} {deep} is somehow = subst (λ (b : Bool). Ready pattern code b places deep) is (ready_of somehow)
