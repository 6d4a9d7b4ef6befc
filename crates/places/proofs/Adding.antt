-- What records add up to: the counts of a pattern are small, and a record's places and groups are those that its kind gives from what stands
-- inside it. A loop over records in a row keeps what is summed so far beside what is still to come.
use Prim.Native.Nat.{ℕ, zero, suc, ◌+◌, ◌-◌, ◌≤◌, ◌<◌}
use mathlib.Core.Path.{◌≡◌, refl, sym, ap, subst, ◌∙◌}
use mathlib.Core.Bool.{Bool, true, false, cond}
use mathlib.Core.List.{List, [], ◌∷◌}
use mathlib.Core.Logic.{◌⊎◌, inl, inr}
use Rattle.std.specs.Prelude.{Some}
use native.Mathlib.Nat.{mul-le-mul_right, min-eq_left}
use native.Mathlib.Omega.{arith}
use borrow.Author.Tests.{lt-ltb}
use lib.Dec.{ltb}
use lib.ListN.{length}
use Rattle.paper.specs.Limits.{pattern_bytes, pattern_places}
use Rattle.paper.specs.Pattern.{Mode, Upper, up_to, no_end, Pattern, Members, places, places_of_all, groups, groups_of_all, repeat_places}
use Rattle.paper.specs.Pattern.Pattern.{nothing, empty, bytes, group, sequence, alternation, repeat}
use Rattle.paper.specs.Pattern.Members.{two, more}
use Rattle.paper.specs.Pattern as pattern
use Rattle.paper.specs.Layout.{CountsRight}
use Rattle.paper.specs.Check.{number_at, kind_at, body_start, body_end, upper_of, repeat_head}
use Rattle.paper.proofs.layout.RepeatBody.{upper_of_number}
use Rattle.paper.proofs.layout.MemberList.{list_of}
use Rattle.pattern.specs.Walk.{capped, places_in, groups_in}
use Rattle.pattern.proofs.Counting.{repeat_passes}
use Rattle.pattern.specs.declared.Kind.{Kind}
use Rattle.pattern.specs.declared.Kind.TheVariants.{Nothing, Empty, Bytes}
use Rattle.places.specs.declared.sums.Sums.{Sums}
use Rattle.places.specs.declared.sums.Records.{Records}
use Rattle.places.specs.declared.sums.Record.{Record}
use Rattle.places.specs.Rowed.{Waiting, Goes, Alone, AddsUp}
use Rattle.places.specs.Sums.{number_of, KindAt, inside_start, own_places, OwnPlaces, own_groups, Counting, Summed, Counted}
use Rattle.places.specs.Standing.{Passes, Stands, AllStand, Row}

-- the records inside a record
abbrev pub held : Pattern → List Pattern
held nothing = []
held empty = []
held (bytes ranges) = []
held (group e) = e ∷ []
held (sequence ms) = list_of ms
held (alternation ms) = list_of ms
held (repeat least upper mode e) = e ∷ []

-- members that stand make a row
pub members_row : (ms : Members) (bs : List ℕ) (at stop : ℕ) → AllStand bs at stop ms → Row bs at stop (list_of ms)
members_row (two a b) bs at stop h = (h.0, (h.1, h.2))
members_row (more a ms) bs at stop h = (h.0, members_row ms bs (body_end bs at) stop h.1)

-- members add up to what paper says of them
pub members_places : (ms : Members) → places_in (list_of ms) ≡ places_of_all ms
members_places (two a b) = omega arith
members_places (more a ms) = omega (arith, members_places ms)

-- the groups of members
pub members_groups : (ms : Members) → groups_in (list_of ms) ≡ groups_of_all ms
members_groups (two a b) = omega arith
members_groups (more a ms) = omega (arith, members_groups ms)

-- how many members there are
pub members_count : (ms : Members) → length (list_of ms) ≡ pattern.count ms
members_count (two a b) = refl
members_count (more a ms) = ap suc (members_count ms)

-- members are two or more
pub members_two : (ms : Members) → 2 ≤ length (list_of ms)
members_two (two a b) = omega arith
members_two (more a ms) = omega (arith, members_two ms)

-- the records inside a record stand in a row from where they start to its end
pub held_row : (e : Pattern) (bs : List ℕ) (at : ℕ) → Stands bs at e
    → Row bs (inside_start (kind_at bs at) (body_start at) (body_end bs at)) (body_end bs at) (held e)
held_row nothing bs at h = ap (λ (k : ℕ). inside_start k (body_start at) (body_end bs at)) h
held_row empty bs at h = ap (λ (k : ℕ). inside_start k (body_start at) (body_end bs at)) h
held_row (bytes ranges) bs at h = ap (λ (k : ℕ). inside_start k (body_start at) (body_end bs at)) h.0
held_row (group e) bs at h =
    subst (λ (k : ℕ). Row bs (inside_start k (body_start at) (body_end bs at)) (body_end bs at) (e ∷ [])) (sym h.0) (h.1, h.2)
held_row (sequence ms) bs at h =
    subst (λ (k : ℕ). Row bs (inside_start k (body_start at) (body_end bs at)) (body_end bs at) (list_of ms)) (sym h.0) (members_row ms bs _ _ h.1)
held_row (alternation ms) bs at h =
    subst (λ (k : ℕ). Row bs (inside_start k (body_start at) (body_end bs at)) (body_end bs at) (list_of ms)) (sym h.0) (members_row ms bs _ _ h.1)
held_row (repeat least upper mode e) bs at h =
    subst (λ (k : ℕ). Row bs (inside_start k (body_start at) (body_end bs at)) (body_end bs at) (e ∷ [])) (sym h.0) (h.2, h.3)

-- records in a row take room
pub row_long : (es : List Pattern) (bs : List ℕ) (at stop : ℕ) → Row bs at stop es → length es + at ≤ stop
row_long [] bs at stop h = omega arith
row_long (e ∷ es) bs at stop h = omega (arith, row_long es bs (body_end bs at) stop h.1)

-- a repeat that has places has no fewer than what it repeats
pub repeat_more : (least : ℕ) (upper : Upper) (p : ℕ) → CountsRight least upper → 0 < repeat_places least upper p → p ≤ repeat_places least upper p
repeat_more least no_end p right some = omega arith
repeat_more (suc least) (up_to most) p right some = omega (arith, mul-le-mul_right {m = 1} {n = suc least} (1 + p) (omega arith))
repeat_more zero (up_to zero) p right some = absurd (omega arith)
repeat_more zero (up_to (suc most)) p right some = omega (arith, mul-le-mul_right {m = 1} {n = suc most - zero} (3 + p) (omega arith))

-- the places of a repeat by cut places inside: where the repeat has none, the inside does not matter
pub repeat_cut : (least : ℕ) (upper : Upper) (p q : ℕ) → CountsRight least upper → (p ≤ pattern_places → q ≡ p) → repeat_places least upper p ≤ pattern_places
    → repeat_places least upper q ≡ repeat_places least upper p
repeat_cut least no_end p q right same small = ap (repeat_places least no_end) (same (omega (arith, repeat_more least no_end p right (omega arith))))
repeat_cut (suc least) (up_to most) p q right same small =
    ap (repeat_places (suc least) (up_to most)) (same (omega (arith, mul-le-mul_right {m = 1} {n = suc least} (1 + p) (omega arith))))
repeat_cut zero (up_to zero) p q right same small = omega arith
repeat_cut zero (up_to (suc most)) p q right same small =
    ap (repeat_places zero (up_to (suc most))) (same (omega (arith, mul-le-mul_right {m = 1} {n = suc most - zero} (3 + p) (omega arith))))

-- the places of a record are those that its kind gives
pub own_places_law : (e : Pattern) (bs : List ℕ) (at p k : ℕ) → Stands bs at e → (places_in (held e) ≤ pattern_places → p ≡ places_in (held e)) → k ≡ length (held e)
    → places e ≤ pattern_places → own_places bs (kind_at bs at) (body_start at) p k ≡ places e
own_places_law nothing bs at p k h same count small = ap (λ (n : ℕ). own_places bs n (body_start at) p k) h
own_places_law empty bs at p k h same count small = ap (λ (n : ℕ). own_places bs n (body_start at) p k) h
own_places_law (bytes ranges) bs at p k h same count small = ap (λ (n : ℕ). own_places bs n (body_start at) p k) h.0
own_places_law (group e) bs at p k h same count small =
    ap (λ (n : ℕ). own_places bs n (body_start at) p k) h.0 ∙ omega (arith, same (omega arith))
own_places_law (sequence ms) bs at p k h same count small =
    ap (λ (n : ℕ). own_places bs n (body_start at) p k) h.0 ∙ omega (arith, members_places ms, same (omega (arith, members_places ms)))
own_places_law (alternation ms) bs at p k h same count small =
    ap (λ (n : ℕ). own_places bs n (body_start at) p k) h.0
    ∙ omega (arith, members_places ms, members_count ms, same (omega (arith, members_places ms)))
own_places_law (repeat least upper mode e) bs at p k h same count small =
    ap (λ (n : ℕ). own_places bs n (body_start at) p k) h.0
    ∙ ap capped (repeat_passes (number_at bs (body_start at)) (upper_of (number_at bs (body_start at + 2))) p)
    ∙ ap (λ (n : ℕ). capped (repeat_places n (upper_of (number_at bs (body_start at + 2))) p)) h.1.least_is
    ∙ ap (λ (n : ℕ). capped (repeat_places least (upper_of n) p)) h.1.upper_is
    ∙ ap (λ (u : Upper). capped (repeat_places least u p)) (upper_of_number least upper h.1.right)
    ∙ ap capped (repeat_cut least upper (places e) p h.1.right (λ le. same (omega arith) ∙ omega arith) small)
    ∙ min-eq_left small

-- so are its groups
pub own_groups_law : (e : Pattern) (bs : List ℕ) (at : ℕ) → Stands bs at e → own_groups (kind_at bs at) (groups_in (held e)) ≡ groups e
own_groups_law nothing bs at h = ap (λ (n : ℕ). own_groups n 0) h
own_groups_law empty bs at h = ap (λ (n : ℕ). own_groups n 0) h
own_groups_law (bytes ranges) bs at h = ap (λ (n : ℕ). own_groups n 0) h.0
own_groups_law (group e) bs at h = ap (λ (n : ℕ). own_groups n (groups e + 0)) h.0 ∙ omega arith
own_groups_law (sequence ms) bs at h = ap (λ (n : ℕ). own_groups n (groups_in (list_of ms))) h.0 ∙ members_groups ms
own_groups_law (alternation ms) bs at h = ap (λ (n : ℕ). own_groups n (groups_in (list_of ms))) h.0 ∙ members_groups ms
own_groups_law (repeat least upper mode e) bs at h = ap (λ (n : ℕ). own_groups n (groups e + 0)) h.0 ∙ omega arith

-- a record has no fewer groups than stand inside it
pub held_groups : (e : Pattern) → groups_in (held e) ≤ groups e
held_groups nothing = omega arith
held_groups empty = omega arith
held_groups (bytes ranges) = omega arith
held_groups (group e) = omega arith
held_groups (sequence ms) = omega (arith, members_groups ms)
held_groups (alternation ms) = omega (arith, members_groups ms)
held_groups (repeat least upper mode e) = omega arith

-- the counts of a repeat that stands are right
pub counts_right : {bs : List ℕ} {start least : ℕ} {upper : Upper} {mode : Mode} → Passes bs start least upper mode
    → CountsRight (number_at bs start) (upper_of (number_at bs (start + 2)))
counts_right {bs} {start} {least} {upper} h =
    subst (λ (n : ℕ). CountsRight n (upper_of (number_at bs (start + 2)))) (sym h.least_is)
    (subst (CountsRight least) (sym (ap upper_of h.upper_is ∙ upper_of_number least upper h.right)) h.right)

-- an alternation has a record inside, and a repeat its three numbers
alternation_some : (e : Pattern) (bs : List ℕ) (at : ℕ) → Stands bs at e → kind_at bs at ≡ 5 → 1 ≤ length (held e)
alternation_some nothing bs at h five = absurd (omega (arith, h))
alternation_some empty bs at h five = absurd (omega (arith, h))
alternation_some (bytes ranges) bs at h five = absurd (omega (arith, h.0))
alternation_some (group e) bs at h five = absurd (omega (arith, h.0))
alternation_some (sequence ms) bs at h five = absurd (omega (arith, h.0))
alternation_some (alternation ms) bs at h five = omega (arith, members_two ms)
alternation_some (repeat least upper mode e) bs at h five = absurd (omega (arith, h.0))

repeat_here : (e : Pattern) (bs : List ℕ) (at : ℕ) → Stands bs at e → 5 < kind_at bs at → body_start at + 4 ≤ body_end bs at
repeat_here nothing bs at h six = absurd (omega (arith, h))
repeat_here empty bs at h six = absurd (omega (arith, h))
repeat_here (bytes ranges) bs at h six = absurd (omega (arith, h.0))
repeat_here (group e) bs at h six = absurd (omega (arith, h.0))
repeat_here (sequence ms) bs at h six = absurd (omega (arith, h.0))
repeat_here (alternation ms) bs at h six = absurd (omega (arith, h.0))
repeat_here (repeat least upper mode e) bs at h six = omega (arith, h.3)

repeat_right : (e : Pattern) (bs : List ℕ) (at : ℕ) → Stands bs at e → 5 < kind_at bs at
    → CountsRight (number_at bs (body_start at)) (upper_of (number_at bs (body_start at + 2)))
repeat_right nothing bs at h six = absurd (omega (arith, h))
repeat_right empty bs at h six = absurd (omega (arith, h))
repeat_right (bytes ranges) bs at h six = absurd (omega (arith, h.0))
repeat_right (group e) bs at h six = absurd (omega (arith, h.0))
repeat_right (sequence ms) bs at h six = absurd (omega (arith, h.0))
repeat_right (alternation ms) bs at h six = absurd (omega (arith, h.0))
repeat_right (repeat least upper mode e) bs at h six = counts_right h.1

-- what `own_places` asks holds of a record that stands
pub own_asked : (e : Pattern) (bs : List ℕ) (at p k : ℕ) → Stands bs at e → body_end bs at ≤ length bs → length bs ≤ pattern_bytes → p ≤ pattern_places
    → k ≡ length (held e) → OwnPlaces bs (kind_at bs at) (body_start at) p k
own_asked e bs at p k h ends short small count =
    record {
      places_small = small;
      records_small = omega (arith, row_long (held e) bs _ _ (held_row e bs at h));
      some = λ five. omega (arith, alternation_some e bs at h five);
      here = λ six. omega (arith, repeat_here e bs at h six);
      numbers = λ six. repeat_right e bs at h six;
    }

-- the first of the records that are still to come
pub record First (bs : List ℕ) (at stop : ℕ) : Type 0 where
  pub tree : Pattern
  pub stand : Stands bs at tree
  pub fits : body_end bs at ≤ stop
  pub ends : stop ≤ length bs
  pub short : length bs ≤ pattern_bytes
  pub few : groups tree ≤ 10

-- every record that stands has a kind's number
pub kind_known : (e : Pattern) (bs : List ℕ) (at : ℕ) → Stands bs at e → kind_at bs at ≤ 6
kind_known nothing bs at h = omega (arith, h)
kind_known empty bs at h = omega (arith, h)
kind_known (bytes ranges) bs at h = omega (arith, h.0)
kind_known (group e) bs at h = omega (arith, h.0)
kind_known (sequence ms) bs at h = omega (arith, h.0)
kind_known (alternation ms) bs at h = omega (arith, h.0)
kind_known (repeat least upper mode e) bs at h = omega (arith, h.0)

-- the kind that was found is the record's
pub first_kind : {bs : List ℕ} {at stop : ℕ} (kind : Kind) → First bs at stop → KindAt bs at kind → number_of kind ≡ kind_at bs at
first_kind {bs} {at} kind f known = known (kind_known f.tree bs at f.stand)

-- where records are left there is a first
pub first : {bs : List ℕ} {at stop : ℕ} → Counting bs at stop → at < stop → First bs at stop
first {bs} {at} {stop} m lt = on m.records m.stand m.few
  where
    on : (es : List Pattern) → Row bs at stop es → groups_in es ≤ 10 → First bs at stop
    on [] h few = absurd (omega arith)
    on (e ∷ es) h few =
        record { tree = e; stand = h.0; fits = omega (arith, row_long es bs _ stop h.1); ends = m.ends; short = m.short; few = omega arith }

-- and others may follow it
pub others : {bs : List ℕ} {at stop : ℕ} → Counting bs at stop → at < stop → Counting bs (body_end bs at) stop
others {bs} {at} {stop} m lt = on m.records m.stand m.few
  where
    on : (es : List Pattern) → Row bs at stop es → groups_in es ≤ 10 → Counting bs (body_end bs at) stop
    on [] h few = absurd (omega arith)
    on (e ∷ es) h few = record { records = es; stand = h.1; ends = m.ends; short = m.short; few = omega arith }

-- the first alone
abbrev pub only : {bs : List ℕ} {at stop : ℕ} → First bs at stop → Counting bs at (body_end bs at)
only f = record { records = f.tree ∷ []; stand = (f.stand, refl); ends = omega arith; short = f.short; few = omega (arith, f.few) }

-- the records inside the first
abbrev pub first_inside : {bs : List ℕ} {at stop : ℕ} → First bs at stop → Counting bs (inside_start (kind_at bs at) (body_start at) (body_end bs at)) (body_end bs at)
first_inside {bs} {at} f =
    record {
      records = held f.tree;
      stand = held_row f.tree bs at f.stand;
      ends = omega arith;
      short = f.short;
      few = omega (arith, held_groups f.tree);
    }

-- what is summed so far, beside the records from here on, is the sum of all
pub record Rest (bs : List ℕ) (at stop : ℕ) (all : List Pattern) (p g k : ℕ) : Type 0 where
  pub records : List Pattern
  pub stand : Row bs at stop records
  pub places_left : places_in all ≤ pattern_places → p + places_in records ≡ places_in all
  pub groups_left : g + groups_in records ≡ groups_in all
  pub count_left : k + length records ≡ length all

-- what the loop over a row keeps: the sum so far is cut, and with the rest it makes the whole for every tree
pub record Adding (bs : List ℕ) (at stop from p g k : ℕ) : Type 0 where
  pub small : p ≤ pattern_places
  pub passed : at + k ≤ from
  pub rest : (m : Counting bs at stop) → Rest bs from stop m.records p g k

-- nothing is summed where the loop begins
pub adding_none : {bs : List ℕ} (at stop : ℕ) → Adding bs at stop at 0 0 0
adding_none at stop =
    record {
      small = omega arith;
      passed = omega arith;
      rest = λ n. record { records = n.records; stand = n.stand; places_left = λ le. omega arith; groups_left = omega arith; count_left = omega arith };
    }

-- one record more: its places, cut, and its groups are added
pub adding_one : {bs : List ℕ} {at stop from p g k op og ok q : ℕ} → Adding bs at stop from p g k → from < stop → Counted bs from (body_end bs from) op og ok
    → q ≡ capped (p + op) → Adding bs at stop (body_end bs from) q (g + og) (k + 1)
adding_one {bs} {at} {stop} {from} {p} {g} {k} {op} {og} {ok} {q} a lt c cut =
    record { small = omega (arith, cut); passed = omega (arith, a.passed); rest = λ m. let r = a.rest m in on m r.records r.stand r.places_left r.groups_left r.count_left }
  where
    on : (m : Counting bs at stop) (es : List Pattern) → Row bs from stop es → (places_in m.records ≤ pattern_places → p + places_in es ≡ places_in m.records)
        → g + groups_in es ≡ groups_in m.records → k + length es ≡ length m.records → Rest bs (body_end bs from) stop m.records q (g + og) (k + 1)
    on m [] h ps gs ks = absurd (omega arith)
    on m (e ∷ es) h ps gs ks =
        let f : First bs from stop =
        record { tree = e; stand = h.0; fits = omega (arith, row_long es bs _ stop h.1); ends = m.ends; short = m.short; few = omega (arith, m.few) } in
        let s = c.sums (only f) in
        record {
          records = es;
          stand = h.1;
          places_left = λ le. omega (arith, ps le, s.places_are (omega (arith, ps le)), cut);
          groups_left = omega (arith, s.groups_are);
          count_left = omega arith;
        }

-- the sum is the sum of all where none is left
pub adding_all : {bs : List ℕ} {at stop from p g k : ℕ} → Adding bs at stop from p g k → stop ≤ from → Counted bs at stop p g k
adding_all {bs} {at} {stop} {from} {p} {g} {k} a le =
    record { small = a.small; sums = λ m. let r = a.rest m in done m.records r.records r.stand r.places_left r.groups_left r.count_left }
  where
    done : (all es : List Pattern) → Row bs from stop es → (places_in all ≤ pattern_places → p + places_in es ≡ places_in all) → g + groups_in es ≡ groups_in all
        → k + length es ≡ length all → Summed all p g k
    done all [] h ps gs ks = record { places_are = λ few. omega (arith, ps few); groups_are = omega arith; records_are = omega arith }
    done all (e ∷ es) h ps gs ks = absurd (omega (arith, row_long es bs _ stop h.1))

-- what is left for the loop, and the groups are few
pub adding_left : {bs : List ℕ} {at stop from p g k : ℕ} → Counting bs at stop → Adding bs at stop from p g k → Counting bs from stop
adding_left m a =
    let r = a.rest m in record { records = r.records; stand = r.stand; ends = m.ends; short = m.short; few = omega (arith, r.groups_left, m.few) }

-- the loop over the members of a holder
pub record Summing (all left : Records) (sums : Sums) : Type 0 where
  pub same_pattern : left.pattern ≡ all.pattern
  pub same_stop : left.stop ≡ all.stop
  pub adding : Adding all.pattern.now all.at all.stop left.at sums.places sums.groups sums.records

-- a turn of the loop
module _ {all left next : Records} {sums : Sums} {r : Record} (m : Waiting all) (s : Summing all left sums) (g : Goes left (Some r) next) where
  going : left.at < all.stop
  going = omega (arith, g.0, s.same_stop)

  -- the record that comes
  pub summing_first : First all.pattern.now left.at all.stop
  summing_first = first (adding_left m s.adding) going

  -- its bytes are among those of all
  pub summing_inside : (all.at ≤ r.at) × (r.end ≤ all.stop)
  summing_inside = (omega (arith, g.2, s.adding.passed), rw (g.3, s.same_pattern) summing_first.fits)

  -- it stands alone
  pub summing_alone : Alone r
  summing_alone =
      let c : Counting left.pattern.now left.at (body_end left.pattern.now left.at) = rw s.same_pattern (only summing_first) in
      record { counting = rw (g.1, g.2, g.3) c; ends = rw (g.1, g.2) (sym g.3) }

  -- what it adds up to
  module _ {own : Sums} (c : Counted r.pattern.now r.at r.end own.places own.groups own.records) where
    summing_own : Counted all.pattern.now left.at (body_end all.pattern.now left.at) own.places own.groups own.records
    summing_own = let d = rw (g.1, g.2, g.3) at c in rw s.same_pattern at d

    -- the groups are few
    pub summing_few : sums.groups + own.groups ≤ 10
    summing_few = omega (arith, ((adding_one s.adding going summing_own refl).rest m).groups_left, m.few)

    -- it is summed
    pub summing_more : {q : ℕ} → q ≡ capped (sums.places + own.places)
        → Summing all next (record { places = q; groups = sums.groups + own.groups; records = sums.records + 1 })
    summing_more cut =
        record {
          same_pattern = g.4 ∙ s.same_pattern;
          same_stop = g.6 ∙ s.same_stop;
          adding = rw (g.5, g.3, s.same_pattern) (adding_one s.adding going summing_own cut);
        }

-- all are summed
pub summing_all : {all left : Records} {sums : Sums} → Summing all left sums → left.stop ≤ left.at → AddsUp all sums
summing_all s le = adding_all s.adding (omega (arith, s.same_stop))

-- what is left stands
pub summing_left : {all left : Records} {sums : Sums} → Waiting all → Summing all left sums → Waiting left
summing_left m s = rw (s.same_pattern, s.same_stop) (adding_left m s.adding)

-- a record alone, by what stands inside it
pub own_counted : {bs : List ℕ} {at stop ip ig ik q : ℕ} → body_end bs at ≡ stop
    → Counted bs (inside_start (kind_at bs at) (body_start at) (body_end bs at)) (body_end bs at) ip ig ik
    → q ≡ capped (own_places bs (kind_at bs at) (body_start at) ip ik) → Counted bs at stop q (own_groups (kind_at bs at) ig) 1
own_counted {bs} {at} {stop} {ip} {ig} {ik} {q} ends c cut = record { small = omega (arith, cut); sums = λ m. on m m.records m.stand m.few }
  where
    on : (m : Counting bs at stop) (es : List Pattern) → Row bs at stop es → groups_in es ≤ 10 → Summed es q (own_groups (kind_at bs at) ig) 1
    on m [] h few = absurd (omega (arith, ends))
    on m (e ∷ f ∷ es) h few = absurd (omega (arith, ends, row_long (f ∷ es) bs (body_end bs at) stop h.1))
    on m (e ∷ []) h few =
        let f : First bs at stop = record { tree = e; stand = h.0; fits = omega (arith, ends); ends = m.ends; short = m.short; few = omega arith } in
        let s = c.sums (first_inside f) in
        record {
          places_are = λ le. omega (arith, cut, own_places_law e bs at ip ik h.0 s.places_are s.records_are (omega arith));
          groups_are = ap (own_groups (kind_at bs at)) s.groups_are ∙ own_groups_law e bs at h.0 ∙ omega arith;
          records_are = refl;
        }

-- nothing stands inside a record whose kind has a low number
none_inside : {bs : List ℕ} (at : ℕ) → kind_at bs at < 3
    → Counted bs (inside_start (kind_at bs at) (body_start at) (body_end bs at)) (body_end bs at) 0 0 0
none_inside {bs} at low =
    let few : ltb (kind_at bs at) 3 ≡ true = lt-ltb (kind_at bs at) 3 low in
    let law : inside_start (kind_at bs at) (body_start at) (body_end bs at) ≡ body_end bs at =
    ap (λ (b : Bool). cond b (body_end bs at) (cond (ltb (kind_at bs at) 6) (body_start at) (body_start at + repeat_head))) few in
    adding_all (adding_none _ (body_end bs at)) (omega (arith, law))

-- a record of such a kind, by itself
leaf_counted : {bs : List ℕ} {at stop : ℕ} (kind leaf : Kind) → Counting bs at stop → body_end bs at ≡ stop → KindAt bs at kind → kind ≡ leaf → number_of leaf < 3
    → Counted bs at stop (capped (own_places bs (number_of leaf) (body_start at) 0 0)) (own_groups (number_of leaf) 0) 1
leaf_counted {bs} {at} kind leaf m ends known is low =
    let ek : number_of leaf ≡ kind_at bs at = ap number_of (sym is) ∙ first_kind kind (first m (omega (arith, ends))) known in
    rw ek (own_counted ends (none_inside at (omega (arith, ek))) refl)

-- a byte set, and a record that takes nothing, is one place
pub place_counted : {bs : List ℕ} {at stop : ℕ} {kind : Kind} → Counting bs at stop → body_end bs at ≡ stop → KindAt bs at kind → (kind ≡ Nothing) ⊎ (kind ≡ Bytes)
    → Counted bs at stop 1 0 1
place_counted m ends known (inl is) = leaf_counted _ Nothing m ends known is (omega arith)
place_counted m ends known (inr is) = leaf_counted _ Bytes m ends known is (omega arith)

-- an empty one has none
pub empty_counted : {bs : List ℕ} {at stop : ℕ} {kind : Kind} → Counting bs at stop → body_end bs at ≡ stop → KindAt bs at kind → kind ≡ Empty → Counted bs at stop 0 0 1
empty_counted m ends known is = leaf_counted _ Empty m ends known is (omega arith)

-- what stands inside a record starts behind its header
pub inside_after : (kind start end : ℕ) → start ≤ end → start ≤ inside_start kind start end
inside_after kind start end le = pick (ltb kind 3) (ltb kind 6)
  where
    pick : (a b : Bool) → start ≤ cond a end (cond b start (start + repeat_head))
    pick true b = le
    pick false true = omega arith
    pick false false = omega arith

-- the same facts of the numbers that were read
module _ {bs : List ℕ} {end r : ℕ} (at : ℕ) (kind : Kind) (ek : number_of kind ≡ kind_at bs at) (ends : body_end bs at ≡ end)
    (er : r ≡ inside_start (number_of kind) (at + 4) end) where
  -- the records inside the one that was read
  pub read_inside : First bs at end → Counting bs r end
  read_inside f = rw (er, ek, sym ends) (first_inside f)

  -- what they add up to
  pub read_counted : {ip ig ik : ℕ} → Counted bs r end ip ig ik
      → Counted bs (inside_start (kind_at bs at) (body_start at) (body_end bs at)) (body_end bs at) ip ig ik
  read_counted c = rw (er, ek, sym ends) at c

  -- what `own_places` asks of them
  pub read_own : {ip ig ik : ℕ} → First bs at end → Counted bs r end ip ig ik → OwnPlaces bs (number_of kind) (at + 4) ip ik
  read_own {ip = ip} {ik = ik} f c =
      rw ek (own_asked f.tree bs at ip ik f.stand (omega arith) f.short c.small ((read_counted c).sums (first_inside f)).records_are)

  -- their groups are few
  pub read_groups : {ip ig ik : ℕ} → First bs at end → Counted bs r end ip ig ik → ig ≤ 10
  read_groups f c = omega (arith, ((read_counted c).sums (first_inside f)).groups_are, held_groups f.tree)

  -- what the record adds up to
  pub read_all : {ip ig ik own q og : ℕ} → Counted bs r end ip ig ik → own ≡ own_places bs (number_of kind) (at + 4) ip ik → q ≡ capped own
      → og ≡ own_groups (number_of kind) ig → Counted bs at end q og 1
  read_all c eo cut eg = rw (eg, ek) (own_counted ends (read_counted c) (rw (eo, ek) at cut))
