-- T5 of the exported calls: the promise of each allows one status, one `out` and one lent table or buffer. The promise under it fixes what is told, and what is
-- told fixes status and `out`. The memory of a built machine is fixed but for the numbers that its places stand as, and the scratch of a run where there is no answer.
use Prim.Native.Nat.{ℕ, ◌≤◌, ◌<◌}
use native.Mathlib.Omega.{arith}
use mathlib.Core.Path.{◌≡◌, refl, sym, ap, subst, ◌∙◌}
use mathlib.Core.Bool.{Bool, true, false}
use mathlib.Core.List.{List, [], ◌∷◌}
use borrow.Author.Tests.{ltb-true, ltb-false}
use lib.Dec.{ltb}
use lib.ListN.{length, take, drop}
use mir.Val.{bool_byte}
use Rattle.paper.specs.Refusal.{Checked, accepted, ◌>>=◌}
use Rattle.paper.specs.Pattern.{Pattern, all_places, depth, groups}
use Rattle.paper.specs.Check.{pattern_of}
use Rattle.paper.specs.Machine.{places_of}
use Rattle.paper.specs.Tables.{decode}
use Rattle.std.specs.Prelude.{Result, Ok, Err}
use Rattle.pattern.specs.declared.Numbers.{Numbers}
use Rattle.pattern.specs.declared.Refused as checking
use Rattle.pattern.specs.Answer.{answer_of}
use Rattle.pattern.proofs.Answering.{one_answer}
use Rattle.matcher.specs.declared.Found as matching
use Rattle.matcher.specs.Answer as found
use Rattle.machine.specs.Machine.{wrapped, first_group}
use Rattle.matcher.specs.Promise.{Answers}
use Rattle.matcher.proofs.Answering.{one_match, one_search}
use Rattle.replacer.specs.declared.Replaced as replacing
use Rattle.replacer.specs.Answer as replaced
use Rattle.replacer.proofs.Promises.{one_replaced}
use Rattle.telling.specs.Told.{answered, status_of, Tells, check_numbers, found_numbers, replaced_numbers, built_numbers}
use Rattle.memory.specs.Memory.{head_numbers, places_in, machine_numbers, scratch_numbers, searches_in, machine_end, Memories, shortest, Holds, BuildsIn}
use Rattle.memory.proofs.Keeping.{held_places}
use Rattle.exports.specs.Replies.{Untouched, CheckReplies, MatchReplies, SearchReplies, ReplaceReplies, PieceReplies, BuildReplies, RunReplies}

-- lent memory is too short or long enough
pub by_length : {P : Type 0} (long room : ℕ) → (long < room → P) → (room ≤ long → P) → P
by_length {P} long room short enough = look (ltb long room) refl
  where
    look : (b : Bool) → ltb long room ≡ b → P
    look true e = short (ltb-true long room e)
    look false e = enough (ltb-false long room e)

module _ {out : List ℕ} {status status' : ℕ} {after after' : List ℕ} where
  -- an answer is told in one way, and memory that is too short in one
  tells_one : {answer : Checked (List ℕ)} → Tells answer out status after → Tells answer out status' after' → (status ≡ status') × (after ≡ after')
  tells_one t u = (t.status_is ∙ sym u.status_is, t.out_is ∙ sym u.out_is)

  untouched_one : Untouched out status after → Untouched out status' after' → (status ≡ status') × (after ≡ after')
  untouched_one t u = (t.0 ∙ sym u.0, t.1 ∙ sym u.1)

  -- so are two answers that are one
  told_one : {A : Type 0} (numbers : A → Checked (List ℕ)) {a b : A} → a ≡ b → Tells (numbers a) out status after → Tells (numbers b) out status' after'
      → (status ≡ status') × (after ≡ after')
  told_one {A} numbers same t u = tells_one t (subst (λ (x : A). Tells (numbers x) out status' after') (sym same) u)

  -- status and `out` of a call that has written a table or a buffer, and what it left there
  module _ {lent' lent'' : List ℕ} where
    left_one : {lent : List ℕ} → (Untouched out status after × (lent' ≡ lent)) → (Untouched out status' after' × (lent'' ≡ lent)) → (status ≡ status') × (after ≡ after') × (lent' ≡ lent'')
    left_one t u = let same = untouched_one t.0 u.0 in (same.0, same.1, t.1 ∙ sym u.1)

    told_left : {A : Type 0} (numbers : A → Checked (List ℕ)) {a b : A} → (a ≡ b) × (lent' ≡ lent'') → Tells (numbers a) out status after
        → Tells (numbers b) out status' after' → (status ≡ status') × (after ≡ after') × (lent' ≡ lent'')
    told_left numbers same t u = let one = told_one numbers same.0 t u in (one.0, one.1, same.1)

-- a run answers as the one call or as the other
answers_one : (searches : Bool) (pattern line lent : List ℕ) {a b : Result matching.Found checking.Refused} {after after' : List ℕ} → Answers searches pattern line lent a after
    → Answers searches pattern line lent b after' → (a ≡ b) × (after ≡ after')
answers_one false pattern line lent p q = one_match p q
answers_one true pattern line lent p q = one_search p q

-- ---- the calls

pub one_check_reply : {pattern out : List ℕ} {status status' : ℕ} {after after' : List ℕ} → CheckReplies pattern out status after → CheckReplies pattern out status' after'
    → (status ≡ status') × (after ≡ after')
one_check_reply {out = out} p q =
    by_length (length out) 3 (λ h. untouched_one (p.short h) (q.short h))
    (λ h. let t = p.told h in let u = q.told h in told_one (λ (r : Result Numbers checking.Refused). check_numbers (answer_of r)) (one_answer t.1 u.1) t.2 u.2)

pub one_match_reply : {pattern line table table' table'' out : List ℕ} {status status' : ℕ} {after after' : List ℕ}
    → MatchReplies pattern line table table' out status after → MatchReplies pattern line table table'' out status' after'
    → (status ≡ status') × (after ≡ after') × (table' ≡ table'')
one_match_reply {out = out} p q =
    by_length (length out) 2 (λ h. left_one (p.short h) (q.short h))
    (λ h. let t = p.told h in let u = q.told h in told_left (λ (r : Result matching.Found checking.Refused). found_numbers (found.answer_of r)) (one_match t.1 u.1) t.2 u.2)

pub one_search_reply : {pattern line table table' table'' out : List ℕ} {status status' : ℕ} {after after' : List ℕ}
    → SearchReplies pattern line table table' out status after → SearchReplies pattern line table table'' out status' after'
    → (status ≡ status') × (after ≡ after') × (table' ≡ table'')
one_search_reply {out = out} p q =
    by_length (length out) 2 (λ h. left_one (p.short h) (q.short h))
    (λ h. let t = p.told h in let u = q.told h in told_left (λ (r : Result matching.Found checking.Refused). found_numbers (found.answer_of r)) (one_search t.1 u.1) t.2 u.2)

pub one_replace_reply : {pattern template line buffer buffer' buffer'' out : List ℕ} {status status' : ℕ} {after after' : List ℕ}
    → ReplaceReplies pattern template line buffer buffer' out status after → ReplaceReplies pattern template line buffer buffer'' out status' after'
    → (status ≡ status') × (after ≡ after') × (buffer' ≡ buffer'')
one_replace_reply {pattern} {template} {line} {buffer} {buffer'} {buffer''} {out} p q =
    by_length (length out) 3 (λ h. left_one (p.short h) (q.short h))
    (λ h.
    let t = p.told h in
    let u = q.told h in
    told_left (λ (r : Result replacing.Replaced checking.Refused). replaced_numbers (replaced.answer_of r))
    (one_replaced pattern template line buffer t.0 u.0 buffer' buffer'' t.1 u.1) t.2 u.2)

pub one_piece_reply : {template line table : List ℕ} {number : ℕ} {out : List ℕ} {status status' : ℕ} {after after' : List ℕ}
    → PieceReplies template line table number out status after → PieceReplies template line table number out status' after' → (status ≡ status') × (after ≡ after')
one_piece_reply {out = out} p q =
    by_length (length out) 3 (λ h. untouched_one (p.short h) (q.short h)) (λ h. tells_one (p.told h) (q.told h))

-- of a run that is no answer also the four memories
pub one_run_reply : {pattern machine line : List ℕ} {lent lent' lent'' : Memories} {table table' table'' out : List ℕ} {status status' : ℕ} {after after' : List ℕ}
    → RunReplies pattern machine line lent lent' table table' out status after → RunReplies pattern machine line lent lent'' table table'' out status' after'
    → (status ≡ status') × (after ≡ after') × (table' ≡ table'') × ((status ≡ answered → ⊥) → lent' ≡ lent'')
one_run_reply {pattern} {machine} {line} {lent} {table = table} {table'} {table''} {out} {status} {status'} {after} {after'} p q =
    let one : (status ≡ status') × (after ≡ after') × (table' ≡ table'') =
    by_length (length out) 2 (λ h. left_one (p.short h) (q.short h))
    (λ h. by_length (length machine) machine_numbers (λ k. left_one (p.small k) (q.small k))
    (λ k. by_length (shortest lent) scratch_numbers (λ l. left_one (p.narrow l) (q.narrow l))
    (λ l.
    let t = p.told h k l in
    let u = q.told h k l in
    told_left (λ (r : Result matching.Found checking.Refused). found_numbers (found.answer_of r)) (answers_one (searches_in machine) pattern line table t.1 u.1) t.2 u.2))) in
    (one.0, one.1, one.2, λ other. p.kept other ∙ sym (q.kept (λ e. other (one.0 ∙ e))))

-- ---- building

-- two memories that hold one machine: the same head, the same places in the table, and the same numbers behind it
pub record SameMachine (pattern machine machine' : List ℕ) : Type 0 where
  pub head : take head_numbers machine ≡ take head_numbers machine'
  pub places : decode (drop head_numbers machine) pattern (places_in machine) ≡ decode (drop head_numbers machine') pattern (places_in machine)
  pub behind : drop (machine_end (places_in machine)) machine ≡ drop (machine_end (places_in machine)) machine'

same_machine : (pattern : List ℕ) {machine machine' : List ℕ} → machine ≡ machine' → SameMachine pattern machine machine'
same_machine pattern {machine} e = subst (SameMachine pattern machine) e (record { head = refl; places = refl; behind = refl })

module _ (pattern : List ℕ) (searches : Bool) where
  -- what is told of an accepted pattern's machine
  abbrev machine_told : Pattern → Checked (List ℕ)
  machine_told e = accepted (all_places (wrapped searches e) ∷ depth (wrapped searches e) ∷ groups e ∷ [])

  three_same : {a b c a' b' c' : ℕ} → a ≡ a' → b ≡ b' → c ≡ c' → ◌≡◌ {A = Checked (List ℕ)} (accepted (a ∷ b ∷ c ∷ [])) (accepted (a' ∷ b' ∷ c' ∷ []))
  three_same p q r = λ i. accepted (p i ∷ q i ∷ r i ∷ [])

  -- whatever the memory holds around the machine, the numbers are those of the pattern
  built_told : (before after : List ℕ) (r : Result Numbers checking.Refused) → BuildsIn pattern searches before after r
      → built_numbers r ≡ (pattern_of pattern >>= machine_told)
  built_told before after (Err e) b = sym (ap (λ (c : Checked Pattern). c >>= machine_told) b.0)
  built_told before after (Ok numbers) h =
      let m = h.ready in
      three_same m.places_are m.deep_is h.many_are ∙ sym (ap (λ (c : Checked Pattern). c >>= machine_told) m.found)

  -- one machine is built, and nothing where it is refused
  module _ (before after after' : List ℕ) where
    built_same : {n n' : Numbers} → built_numbers (Ok n) ≡ built_numbers (Ok n')
        → Holds pattern searches before after n.places n.depth n.groups → Holds pattern searches before after' n'.places n'.depth n'.groups → SameMachine pattern after after'
    built_same {n} {n'} e h h' =
        let count : n.places ≡ n'.places = cc in
        let low : n.depth ≡ n'.depth = cc in
        let read : places_in after ≡ n.places = held_places h in
        let tree : h.ready.tree ≡ h'.ready.tree = cc (h.ready.found, h'.ready.found) in
        record {
          head = h.head ∙ (λ i. count i ∷ low i ∷ bool_byte searches ∷ []) ∙ sym h'.head;
          places = subst (λ (k : ℕ). decode (drop head_numbers after) pattern k ≡ decode (drop head_numbers after') pattern k) (sym read)
              (h.ready.decoded ∙ ap (λ (t : Pattern). places_of (wrapped searches t) (first_group searches)) tree
              ∙ sym (subst (λ (k : ℕ). decode (drop head_numbers after') pattern k ≡ places_of (wrapped searches h'.ready.tree) (first_group searches)) (sym count) h'.ready.decoded));
          behind = subst (λ (k : ℕ). drop (machine_end k) after ≡ drop (machine_end k) after') (sym read)
              (h.behind ∙ sym (subst (λ (k : ℕ). drop (machine_end k) after' ≡ drop (machine_end k) before) (sym count) h'.behind));
        }

    builds_one : (r r' : Result Numbers checking.Refused) → built_numbers r ≡ built_numbers r' → BuildsIn pattern searches before after r
        → BuildsIn pattern searches before after' r' → SameMachine pattern after after' × ((status_of (built_numbers r) ≡ answered → ⊥) → after ≡ after')
    builds_one (Err refused) (Err refused') e h k =
        let same = h.1 ∙ sym k.1 in
        (same_machine pattern same, λ other. same)
    builds_one (Err refused) (Ok n) e h k = let z : ◌≡◌ {A = ℕ} 0 1 = cc in absurd (omega arith)
    builds_one (Ok n) (Err refused) e h k = let z : ◌≡◌ {A = ℕ} 0 1 = cc in absurd (omega arith)
    builds_one (Ok n) (Ok n') e h k = (built_same e h k, λ other. absurd (other refl))

-- the memory is the same but for the numbers of the table, which stand for the same places
pub one_build_reply : {pattern : List ℕ} {searches : Bool} {machine machine' machine'' out : List ℕ} {status status' : ℕ} {after after' : List ℕ}
    → BuildReplies pattern searches machine machine' out status after → BuildReplies pattern searches machine machine'' out status' after'
    → (status ≡ status') × (after ≡ after') × SameMachine pattern machine' machine'' × ((status ≡ answered → ⊥) → machine' ≡ machine'')
one_build_reply {pattern} {searches} {machine} {machine'} {machine''} {out} {status} {status'} {after} {after'} p q =
    by_length (length out) 3 (λ h. left (p.short h) (q.short h))
    (λ h. by_length (length machine) machine_numbers (λ k. left (p.small k) (q.small k))
    (λ k.
    let t = p.told h k in
    let u = q.told h k in
    let same : built_numbers t.0 ≡ built_numbers u.0 = built_told pattern searches machine machine' t.0 t.1 ∙ sym (built_told pattern searches machine machine'' u.0 u.1) in
    let told = told_one (λ (c : Checked (List ℕ)). c) same t.2 u.2 in
    let one = builds_one pattern searches machine machine' machine'' t.0 u.0 same t.1 u.1 in
    (told.0, told.1, one.0, λ other. one.1 (λ e. other (t.2.status_is ∙ e)))))
  where
    left : (Untouched out status after × (machine' ≡ machine)) → (Untouched out status' after' × (machine'' ≡ machine))
        → (status ≡ status') × (after ≡ after') × SameMachine pattern machine' machine'' × ((status ≡ answered → ⊥) → machine' ≡ machine'')
    left t u = let one = left_one t u in (one.0, one.1, same_machine pattern one.2, λ other. one.2)
