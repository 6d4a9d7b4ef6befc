-- Building records in a row, as a sequence or as an alternation.
use Prim.Native.Nat.{ℕ, ◌+◌, ◌-◌, ◌≤◌, ◌<◌}
use mathlib.Core.Path.{◌≡◌, refl, sym, ap, subst, ◌∙◌}
use mathlib.Core.Bool.{Bool, true, false, false≢true}
use mathlib.Core.List.{List, [], ◌∷◌}
use native.Mathlib.Omega.{arith}
use mir.Val.{bool_byte as from_bool}
use Rattle.paper.specs.Pattern.{Pattern, places, groups}
use Rattle.paper.specs.Check.{body_end}
use Rattle.paper.specs.Machine.{Core, chain, either, size, written_out, fork}
use Rattle.paper.proofs.machine.Sizes.{size_written}
use Rattle.laying.specs.Room.{most_places}
use Rattle.pattern.specs.Walk.{places_in, groups_in}
use Rattle.laying.specs.Laid.{Holds, entry_of, Lays}
use Rattle.laying.specs.Single.{Put}
use Rattle.laying.proofs.Stores.{plain_holds, holds_kept, lays_kept, kept_both}
use Rattle.laying.proofs.Entering.{entry_small}
use Rattle.places.specs.Sums.{Counting, Counted}
use Rattle.places.specs.declared.walk.Part.{Part}
use Rattle.places.specs.Walk.{One, OneLaid, Several, SeveralLaid, Joining, Joined, OneAsked, OneMade, RowMade}
use Rattle.places.specs.Standing.{Stands, Row, row_places, row_core}
use Rattle.places.proofs.Adding.{row_long}
use Rattle.places.proofs.Sizes.{row_size}

-- the last record of a row, and one with others behind it
pub record Last (bs : List ℕ) (at stop first n gs : ℕ) (es : List Pattern) : Type 0 where
  pub tree : Pattern
  pub is : es ≡ tree ∷ []
  pub stand : Stands bs at tree
  pub places_are : n ≡ places tree
  pub groups_are : gs ≡ groups tree
  pub few : first + groups tree ≤ 10

-- a record that is not the last
pub record More (bs : List ℕ) (at stop : ℕ) (forks : Bool) (first n gs : ℕ) (es : List Pattern) : Type 0 where
  pub tree : Pattern
  pub second : Pattern
  pub others : List Pattern
  pub is : es ≡ tree ∷ second ∷ others
  pub stand : Stands bs at tree
  pub rest : Row bs (body_end bs at) stop (second ∷ others)
  pub places_are : n ≡ row_places forks (tree ∷ second ∷ others)
  pub groups_are : gs ≡ groups_in (tree ∷ second ∷ others)
  pub few : first + groups_in (tree ∷ second ∷ others) ≤ 10

last_of : {bs : List ℕ} {at stop first n gs : ℕ} (forks : Bool) (es : List Pattern) → Row bs at stop es → at < stop → n ≡ row_places forks es
    → gs ≡ groups_in es → first + groups_in es ≤ 10 → body_end bs at ≡ stop → Last bs at stop first n gs es
last_of forks [] h lt p q g e = absurd (omega arith)
last_of false (x ∷ []) h lt p q g e = record { tree = x; is = refl; stand = h.0; places_are = omega arith; groups_are = omega arith; few = omega arith }
last_of true (x ∷ []) h lt p q g e = record { tree = x; is = refl; stand = h.0; places_are = omega arith; groups_are = omega arith; few = omega arith }
last_of {bs} {at} {stop} forks (x ∷ y ∷ es) h lt p q g e = absurd (omega (arith, row_long (y ∷ es) bs (body_end bs at) stop h.1))

more_of : {bs : List ℕ} {at stop first n gs : ℕ} (forks : Bool) (es : List Pattern) → Row bs at stop es → at < stop → n ≡ row_places forks es
    → gs ≡ groups_in es → first + groups_in es ≤ 10 → (body_end bs at ≡ stop → ⊥) → More bs at stop forks first n gs es
more_of forks [] h lt p q g e = absurd (omega arith)
more_of forks (x ∷ []) h lt p q g e = absurd (e h.1)
more_of forks (x ∷ y ∷ es) h lt p q g e = record { tree = x; second = y; others = es; is = refl; stand = h.0; rest = h.1; places_are = p; groups_are = q; few = g }

-- `row`, the last record
module _ {bs : List ℕ} {at stop base next first n gs end : ℕ} {forks : Bool} (ee : end ≡ body_end bs at) (es : end ≡ stop) where
  -- the record is the last
  pub last : (m : Several bs at stop forks base next first n gs) → Last bs at stop first n gs m.records
  last m = last_of forks m.records m.stand m.some m.places_are m.groups_are m.few (sym ee ∙ es)

  -- what it is asked for
  abbrev pub last_one : Several bs at stop forks base next first n gs → One bs at stop base next first n gs
  last_one m =
      let v = last m in
      record {
        tree = v.tree;
        inside = record { stand = v.stand; end_is = sym ee ∙ es; ends = m.ends; short = m.short; few = v.few };
        places_are = v.places_are;
        groups_are = v.groups_are;
        small = m.small;
        room = m.room;
        follows = m.follows;
      }

  -- it lays the row
  pub last_laid : {t t' : List ℕ} → OneLaid bs at stop base next first n gs t t' → SeveralLaid bs at stop forks base next first n gs t t'
  last_laid {t' = t'} o =
      record {
        kept = o.kept;
        laid = λ m. subst (λ (r : List Pattern). Lays t' bs (row_core forks r first) base next) (sym (last m).is) (o.laid (last_one m));
      }

-- `row`, a record with others behind it: what it adds up to
module _ {bs : List ℕ} {at stop base next first n gs end : ℕ} {forks : Bool} (ee : end ≡ body_end bs at) (es : end ≡ stop → ⊥) where
  -- the record is not the last
  pub more : (m : Several bs at stop forks base next first n gs) → More bs at stop forks first n gs m.records
  more m = more_of forks m.records m.stand m.some m.places_are m.groups_are m.few (λ e. es (ee ∙ e))

  -- it is counted alone
  abbrev pub more_counting : Several bs at stop forks base next first n gs → Counting bs at end
  more_counting m =
      let v = more m in
      record {
        records = v.tree ∷ [];
        stand = (v.stand, sym ee);
        ends = omega (arith, ee, row_long (v.second ∷ v.others) bs (body_end bs at) stop v.rest, m.ends);
        short = m.short;
        few = omega (arith, v.few);
      }

  -- it has no more places than the row
  pub more_small : (m : Several bs at stop forks base next first n gs) → places (more m).tree + places_in ((more m).second ∷ (more m).others) ≤ n
  more_small m = least forks ((more m).tree ∷ (more m).second ∷ (more m).others) (more m).places_are
    where
      least : (f : Bool) (es : List Pattern) → n ≡ row_places f es → places_in es ≤ n
      least false es e = omega arith
      least true es e = omega arith

  -- its places
  pub more_places : {p g k : ℕ} → Counted bs at end p g k → (m : Several bs at stop forks base next first n gs) → p ≡ places (more m).tree
  more_places c m = omega (arith, (c.sums (more_counting m)).places_are (omega (arith, more_small m, m.small)))

  -- its groups
  pub more_groups : {p g k : ℕ} → Counted bs at end p g k → (m : Several bs at stop forks base next first n gs) → g ≡ groups (more m).tree
  more_groups c m = omega (arith, (c.sums (more_counting m)).groups_are)

  -- the groups up to the next record are few
  pub more_few : {p g k : ℕ} → Counted bs at end p g k → (m : Several bs at stop forks base next first n gs) → first + g ≤ 10
  more_few c m = omega (arith, (more m).few, more_groups c m)

  -- it has no more groups than the row
  pub more_inside : {p g k : ℕ} → Counted bs at end p g k → (m : Several bs at stop forks base next first n gs) → g ≤ gs
  more_inside c m = omega (arith, (more m).groups_are, more_groups c m)

-- one expression, then another
pub chain_lays : (t bs : List ℕ) (a b : Core) (base next p v : ℕ) → p ≡ size a → v ≡ entry_of (size b) (base + p) next → Lays t bs a base v
    → Lays t bs b (base + p) next → Lays t bs (chain a b) base next
chain_lays t bs a b base next p v ep ev =
    subst
    (λ (p : ℕ). v ≡ entry_of (size b) (base + p) next → Lays t bs a base v → Lays t bs b (base + p) next → Lays t bs (chain a b) base next)
    (sym ep)
    (λ ev x y. (subst (λ (v : ℕ). Lays t bs a base v) ev x, y))
    ev

either_lays : (t bs : List ℕ) (a b : Core) (base next p v : ℕ) → p ≡ size a → v ≡ entry_of (size b) (base + 1 + p) next
    → Holds t bs base (fork (entry_of p (base + 1) next) v) → Lays t bs a (base + 1) next → Lays t bs b (base + 1 + p) next
    → Lays t bs (either a b) base next
either_lays t bs a b base next p v ep ev =
    subst
    (λ (p : ℕ). v ≡ entry_of (size b) (base + 1 + p) next → Holds t bs base (fork (entry_of p (base + 1) next) v) → Lays t bs a (base + 1) next
    → Lays t bs b (base + 1 + p) next → Lays t bs (either a b) base next)
    (sym ep)
    (λ ev x y z. (subst (λ (v : ℕ). Holds t bs base (fork (entry_of (size a) (base + 1) next) v)) ev x, y, z))
    ev

-- a record of a sequence, then the others
module _ {bs : List ℕ} {at stop base next first n gs end p g k : ℕ} (ee : end ≡ body_end bs at) (es : end ≡ stop → ⊥) (c : Counted bs at end p g k) where
  -- its places and those of the others are the places of the sequence
  pub chain_sum : (m : Several bs at stop false base next first n gs) → n ≡ p + places_in ((more ee es m).second ∷ (more ee es m).others)
  chain_sum m = omega (arith, (more ee es m).places_are, more_places ee es c m)

  -- what it is asked for
  abbrev pub chain_one : (v : ℕ) → v ≡ entry_of (n - p) (base + p) next → Several bs at stop false base next first n gs → One bs at end base v first p g
  chain_one v ev m =
      let w = more ee es m in
      record {
        tree = w.tree;
        inside = record { stand = w.stand; end_is = sym ee; ends = (more_counting ee es m).ends; short = m.short; few = omega (arith, w.few) };
        places_are = more_places ee es c m;
        groups_are = more_groups ee es c m;
        small = omega (arith, chain_sum m, m.small);
        room = omega (arith, chain_sum m, m.room);
        follows = omega (arith, ev, entry_small (n - p) (base + p) next {most = most_places} (omega (arith, chain_sum m, m.room)) m.follows);
      }

  -- what the others are asked for
  abbrev pub chain_rest : Several bs at stop false base next first n gs → Several bs end stop false (base + p) next (first + g) (n - p) (gs - g)
  chain_rest m =
      let w = more ee es m in
      record {
        records = w.second ∷ w.others;
        stand = subst (λ (e : ℕ). Row bs e stop (w.second ∷ w.others)) (sym ee) w.rest;
        some = omega (arith, ee, row_long (w.second ∷ w.others) bs (body_end bs at) stop w.rest);
        ends = m.ends;
        short = m.short;
        few = omega (arith, w.few, more_groups ee es c m);
        places_are = omega (arith, chain_sum m);
        groups_are = omega (arith, w.groups_are, more_groups ee es c m);
        small = omega (arith, m.small);
        room = omega (arith, chain_sum m, m.room);
        follows = m.follows;
      }

  -- both lay the sequence
  pub chain_laid : {v : ℕ} {t t1 t2 : List ℕ} → v ≡ entry_of (n - p) (base + p) next → Several bs at stop false base next first n gs
      → OneLaid bs at end base v first p g t t1 → SeveralLaid bs end stop false (base + p) next (first + g) (n - p) (gs - g) t1 t2
      → SeveralLaid bs at stop false base next first n gs t t2
  chain_laid {v} {t} {t1} {t2} ev m0 o r =
      record {
        kept = kept_both base (base + n) o.kept r.kept (omega arith) (omega (arith, chain_sum m0)) (omega arith) (omega (arith, chain_sum m0));
        laid = λ m.
            let w = more ee es m in
            let a = written_out w.tree first in
            let b = row_core false (w.second ∷ w.others) (first + groups w.tree) in
            let ep : p ≡ size a = more_places ee es c m ∙ sym (size_written w.tree first) in
            let eb : n - p ≡ size b = (chain_rest m).places_are ∙ sym (row_size false (w.second ∷ w.others) (first + groups w.tree)) in
            subst (λ (l : List Pattern). Lays t2 bs (row_core false l first) base next) (sym w.is)
            (chain_lays t2 bs a b base next p v ep (ev ∙ ap (λ (k : ℕ). entry_of k (base + p) next) eb)
            (lays_kept a bs base v r.kept (omega arith) (o.laid (chain_one v ev m)))
            (subst (λ (k : ℕ). Lays t2 bs (row_core false (w.second ∷ w.others) (first + k)) (base + p) next) (more_groups ee es c m)
            (r.laid (chain_rest m))));
      }

-- a record of an alternation behind its fork, then the others
module _ {bs : List ℕ} {at stop base next first n gs end p g k : ℕ} (ee : end ≡ body_end bs at) (es : end ≡ stop → ⊥) (c : Counted bs at end p g k) where
  -- the fork, its places and those of the others are the places of the alternation
  pub fork_sum : (m : Several bs at stop true base next first n gs) → n ≡ 1 + p + row_places true ((more ee es m).second ∷ (more ee es m).others)
  fork_sum m = omega (arith, (more ee es m).places_are, more_places ee es c m)

  -- what it is asked for
  abbrev pub fork_one : Several bs at stop true base next first n gs → One bs at end (base + 1) next first p g
  fork_one m =
      let w = more ee es m in
      record {
        tree = w.tree;
        inside = record { stand = w.stand; end_is = sym ee; ends = (more_counting ee es m).ends; short = m.short; few = omega (arith, w.few) };
        places_are = more_places ee es c m;
        groups_are = more_groups ee es c m;
        small = omega (arith, fork_sum m, m.small);
        room = omega (arith, fork_sum m, m.room);
        follows = m.follows;
      }

  -- what the others are asked for
  abbrev pub fork_rest : Several bs at stop true base next first n gs → Several bs end stop true (base + 1 + p) next (first + g) (n - 1 - p) (gs - g)
  fork_rest m =
      let w = more ee es m in
      record {
        records = w.second ∷ w.others;
        stand = subst (λ (e : ℕ). Row bs e stop (w.second ∷ w.others)) (sym ee) w.rest;
        some = omega (arith, ee, row_long (w.second ∷ w.others) bs (body_end bs at) stop w.rest);
        ends = m.ends;
        short = m.short;
        few = omega (arith, w.few, more_groups ee es c m);
        places_are = omega (arith, fork_sum m);
        groups_are = omega (arith, w.groups_are, more_groups ee es c m);
        small = omega (arith, m.small);
        room = omega (arith, fork_sum m, m.room);
        follows = m.follows;
      }

  -- the fork and both lay the alternation
  pub fork_laid : {u v : ℕ} {t t1 t2 t3 : List ℕ} → u ≡ entry_of p (base + 1) next → v ≡ entry_of (n - 1 - p) (base + 1 + p) next
      → Several bs at stop true base next first n gs → Put t base 0 u v 0 t1 → OneLaid bs at end (base + 1) next first p g t1 t2
      → SeveralLaid bs end stop true (base + 1 + p) next (first + g) (n - 1 - p) (gs - g) t2 t3 → SeveralLaid bs at stop true base next first n gs t t3
  fork_laid {u} {v} {t} {t1} {t2} {t3} eu ev m0 put o r =
      let high = base + n in
      record {
        kept = kept_both base high
            (kept_both base high put.kept o.kept (omega arith) (omega (arith, fork_sum m0)) (omega arith) (omega (arith, fork_sum m0))) r.kept
            (omega arith) (omega arith) (omega arith) (omega (arith, fork_sum m0));
        laid = λ m.
            let w = more ee es m in
            let a = written_out w.tree first in
            let b = row_core true (w.second ∷ w.others) (first + groups w.tree) in
            let ep : p ≡ size a = more_places ee es c m ∙ sym (size_written w.tree first) in
            let eb : n - 1 - p ≡ size b = (fork_rest m).places_are ∙ sym (row_size true (w.second ∷ w.others) (first + groups w.tree)) in
            subst (λ (l : List Pattern). Lays t3 bs (row_core true l first) base next) (sym w.is)
            (either_lays t3 bs a b base next p v ep (ev ∙ ap (λ (k : ℕ). entry_of k (base + 1 + p) next) eb)
            (subst (λ (u : ℕ). Holds t3 bs base (fork u v)) eu
            (holds_kept r.kept (omega arith) (holds_kept o.kept (omega arith) (plain_holds bs put (omega arith)))))
            (lays_kept a bs (base + 1) next r.kept (omega arith) (o.laid (fork_one m)))
            (subst (λ (k : ℕ). Lays t3 bs (row_core true (w.second ∷ w.others) (first + k)) (base + 1 + p) next) (more_groups ee es c m)
            (r.laid (fork_rest m))));
      }

-- the first record of a row ends inside the holder
pub row_header : {bs : List ℕ} {at stop base next first n gs : ℕ} {forks : Bool} → Several bs at stop forks base next first n gs → body_end bs at ≤ stop
row_header {bs} {at} {stop} m = on m.records m.stand m.some
  where
    on : (es : List Pattern) → Row bs at stop es → at < stop → body_end bs at ≤ stop
    on [] h lt = absurd (omega arith)
    on (e ∷ es) h lt = omega (arith, row_long es bs (body_end bs at) stop h.1)

-- no fork takes no place
without : {head : ℕ} (base p : ℕ) → head ≡ 0 → base + head + p ≡ base + p
without base p eh = omega (arith, eh)

n_without : {head : ℕ} (n p : ℕ) → head ≡ 0 → n - head - p ≡ n - p
n_without n p eh = omega (arith, eh)

base_without : {head : ℕ} (base : ℕ) → head ≡ 0 → base + head ≡ base
base_without base eh = omega (arith, eh)

-- a record that others follow, as a sequence or as an alternation, behind so many places of its own fork
module _ {bs : List ℕ} {at stop base next first n gs end p g k head : ℕ} (ee : end ≡ body_end bs at) (es : end ≡ stop → ⊥) (c : Counted bs at end p g k) where
  -- its places and those of the others are the places of the row
  pub join_sum : (forks : Bool) → head ≡ from_bool forks → Several bs at stop forks base next first n gs → head + p ≤ n
  join_sum false eh m = omega (arith, eh, chain_sum ee es c m)
  join_sum true eh m = omega (arith, eh, fork_sum ee es c m)

  -- what leading on from it asks for
  pub join_ask : (forks : Bool) → head ≡ from_bool forks → Several bs at stop forks base next first n gs → Joining forks base (base + head + p) next
  join_ask false eh m =
      record { room = λ is. absurd (false≢true is); place = omega (arith, join_sum false eh m, m.room); follows = m.follows }
  join_ask true eh m =
      record { room = λ is. omega (arith, fork_sum ee es c m, m.room); place = omega (arith, join_sum true eh m, m.room); follows = m.follows }

  -- what the others are asked for
  pub join_rest : (forks : Bool) → head ≡ from_bool forks → Several bs at stop forks base next first n gs
      → Several bs end stop forks (base + head + p) next (first + g) (n - head - p) (gs - g)
  join_rest false eh m = rw (without base p eh, n_without n p eh) (chain_rest ee es c m)
  join_rest true eh m = rw eh (fork_rest ee es c m)

  -- what it is asked for
  pub join_one : (forks : Bool) {out : ℕ} (t t1 : List ℕ) → head ≡ from_bool forks → Joined forks base p (base + head + p) (n - head - p) next out t t1
      → Several bs at stop forks base next first n gs → One bs at end (base + head) out first p g
  join_one false t t1 eh j m = rw (base_without base eh) (chain_one ee es c _ (rw (without base p eh, n_without n p eh) at j.0) m)
  join_one true t t1 eh j m = rw (eh, j.0) (fork_one ee es c m)

  -- both lay the row
  pub join_laid : (forks : Bool) {out : ℕ} (t t1 : List ℕ) {t2 t3 : List ℕ} → head ≡ from_bool forks
      → Joined forks base p (base + head + p) (n - head - p) next out t t1 → Several bs at stop forks base next first n gs
      → OneLaid bs at end (base + head) out first p g t1 t2
      → SeveralLaid bs end stop forks (base + head + p) next (first + g) (n - head - p) (gs - g) t2 t3 → SeveralLaid bs at stop forks base next first n gs t t3
  join_laid false t t1 eh j m o r =
      rw (sym j.1)
      (chain_laid ee es c (rw (without base p eh, n_without n p eh) at j.0) m (rw (base_without base eh) at o) (rw (without base p eh, n_without n p eh) at r))
  join_laid true t t1 eh j m o r = fork_laid ee es c refl refl m (rw eh at j.1) (rw (eh, j.0) at o) (rw eh at r)

-- `row`, record by record: what is left is a row of the same part, and whoever lays it has laid all
pub record Along (part : Part) (forks : Bool) (left : Part) (end : ℕ) (before now : List ℕ) : Type 0 where
  pub same_pattern : left.pattern ≡ part.pattern
  pub same_stop : left.stop ≡ part.stop
  pub same_next : left.next ≡ part.next
  pub row : Several part.pattern.now left.at part.stop forks left.base part.next left.first left.places left.groups
  pub end_is : end ≡ body_end part.pattern.now left.at
  pub passed : part.at + 4 ≤ left.at
  pub laid : (after : List ℕ) → SeveralLaid part.pattern.now left.at part.stop forks left.base part.next left.first left.places left.groups now after
      → RowMade part forks before after

-- one record less
pub along_one : {part left : Part} {forks : Bool} {end end' head out p g k : ℕ} {t0 t t1 t2 : List ℕ} → Along part forks left end t0 t → (end ≡ part.stop → ⊥)
    → Counted part.pattern.now left.at end p g k → head ≡ from_bool forks
    → Joined forks left.base p (left.base + head + p) (left.places - head - p) part.next out t t1
    → OneLaid part.pattern.now left.at end (left.base + head) out left.first p g t1 t2 → end' ≡ body_end part.pattern.now end
    → Along part forks (record {
      pattern = left.pattern;
      at = end;
      stop = left.stop;
      first = left.first + g;
      places = left.places - head - p;
      groups = left.groups - g;
      base = left.base + head + p;
      next = left.next;
    }) end' t0 t2
along_one {forks = forks} i es c eh j o ee' =
    record {
      same_pattern = i.same_pattern;
      same_stop = i.same_stop;
      same_next = i.same_next;
      row = join_rest i.end_is es c forks eh i.row;
      end_is = ee';
      passed = omega (arith, i.passed, i.end_is);
      laid = λ after r. i.laid after (join_laid i.end_is es c forks _ _ eh j i.row o r);
    }

-- the last record is asked for as one
pub along_ask : {part left : Part} {forks : Bool} {end : ℕ} {t0 t : List ℕ} → Along part forks left end t0 t → end ≡ part.stop → OneAsked left
along_ask i es = rw (i.same_pattern, i.same_stop, i.same_next) (last_one i.end_is es i.row)

-- and lays all
pub along_last : {part left : Part} {forks : Bool} {end : ℕ} {t0 t t1 : List ℕ} → Along part forks left end t0 t → end ≡ part.stop → OneMade left t t1
    → RowMade part forks t0 t1
along_last i es o = i.laid _ (last_laid i.end_is es (rw (i.same_pattern, i.same_stop, i.same_next) at o))
