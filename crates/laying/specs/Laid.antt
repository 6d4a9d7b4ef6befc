-- What a table holds at a place, and when it holds all the places of a written-out pattern: place by place, as paper's `lay` lists them.
use Rattle.std.specs.Prelude.{ℕ, ◌+◌, ◌*◌, ◌≤◌, ◌<◌, ◌≡◌, cond, List, eqb, length, get_or}
use Rattle.paper.specs.Limits.{set_pairs}
use Rattle.paper.specs.Machine.{Core, dead, skip, eats, captures, chain, either, must, maybe, star, Place, one_of, stop, fork, opening, closing, begin, begin_optional, ending, size, entry, pass_fork}
use Rattle.paper.specs.Tables.{place_numbers, place_kind_at, place_first_at, place_many_at, place_at, set_place, accept_place}

-- whoever reads the place stays in range: its kind is one of the ten, and a set's pairs stand in the pattern
pub record Readable (table pattern : List ℕ) (x : ℕ) : Type 0 where
  pub known : place_kind_at table x ≤ accept_place
  pub pairs_end : place_kind_at table x ≡ set_place → place_first_at table x + 2 * place_many_at table x ≤ length pattern
  pub few_pairs : place_kind_at table x ≡ set_place → place_many_at table x ≤ set_pairs

-- the table's numbers at an index stand for a place
pub record Holds (table pattern : List ℕ) (x : ℕ) (place : Place) : Type 0 where
  pub decoded : place_at table pattern x ≡ place
  pub readable : Readable table pattern x

-- a table afterwards that differs from the one before only in the places from `low` up to `high`
pub record Kept (low high : ℕ) (before after : List ℕ) : Type 0 where
  pub same_length : length after ≡ length before
  pub below : (i : ℕ) → i < place_numbers * low → get_or after i 0 ≡ get_or before i 0
  pub behind : (i : ℕ) → place_numbers * high ≤ i → get_or after i 0 ≡ get_or before i 0

-- where an expression of so many places is entered
abbrev pub entry_of : ℕ → ℕ → ℕ → ℕ
entry_of places base next = cond (eqb places 0) next base

-- the table holds, from `base` on, the places of a written-out pattern that is followed by the place `next`
abbrev pub Lays : List ℕ → List ℕ → Core → ℕ → ℕ → Type 0
Lays t p dead base next = Holds t p base stop
Lays t p skip base next = Unit {0}
Lays t p (eats ranges) base next = Holds t p base (one_of ranges next)
Lays t p (captures k e) base next =
    let close = base + 1 + size e in
    Holds t p base (opening k (entry e (base + 1) close)) × Lays t p e (base + 1) close × Holds t p close (closing k next)
Lays t p (chain a b) base next = let second = base + size a in Lays t p a base (entry b second next) × Lays t p b second next
Lays t p (either a b) base next =
    let second = base + 1 + size a in
    Holds t p base (fork (entry a (base + 1) next) (entry b second next)) × Lays t p a (base + 1) next × Lays t p b second next
Lays t p (must first n e then) base next =
    let after = base + 1 + size e in
    let out = entry then after next in
    Holds t p base (begin first n (entry e (base + 1) out)) × Lays t p e (base + 1) out × Lays t p then after next
Lays t p (maybe mode first n e then) base next =
    let end = base + 1 + 1 + size e in
    Holds t p base (pass_fork mode (base + 1) next)
    × Holds t p (base + 1) (begin_optional first n (entry e (base + 1 + 1) end))
    × Lays t p e (base + 1 + 1) end
    × Holds t p end (ending (entry then (end + 1) next))
    × Lays t p then (end + 1) next
Lays t p (star mode first n e) base next =
    let end = base + 1 + 1 + size e in
    Holds t p base (pass_fork mode (base + 1) next)
    × Holds t p (base + 1) (begin_optional first n (entry e (base + 1 + 1) end))
    × Lays t p e (base + 1 + 1) end
    × Holds t p end (ending base)
