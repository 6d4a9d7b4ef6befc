-- A machine that `toj_build` answered 0 for is what `toj_run` asks for.
use Prim.Native.Nat.{ℕ}
use native.Mathlib.Omega.{arith}
use mathlib.Core.Path.{◌≡◌}
use mathlib.Core.Bool.{Bool}
use mathlib.Core.List.{List}
use lib.ListN.{length}
use Rattle.std.specs.Prelude.{Result, Ok, Err}
use Rattle.pattern.specs.declared.Numbers.{Numbers}
use Rattle.pattern.specs.declared.Refused.{Refused}
use Rattle.memory.specs.Memory.{machine_numbers, MachineOf, Runs, BuildsIn}
use Rattle.memory.proofs.Keeping.{held_machine}
use Rattle.telling.specs.Told.{answered, Tells, built_numbers}
use Rattle.exports.specs.Replies.{Untouched, BuildReplies}
use Rattle.exports.proofs.OneReply.{by_length}

-- memory that is too short has another status
not_short : {P : Type 0} {out after : List ℕ} → Untouched out answered after → P
not_short u = let z : ◌≡◌ {A = ℕ} 0 255 = u.0 in absurd (omega arith)

-- a refusal has another status, and any other answer leaves the machine
machine_built : (pattern : List ℕ) (searches : Bool) (before machine : List ℕ) (r : Result Numbers Refused) {out after : List ℕ} → BuildsIn pattern searches before machine r
    → Tells (built_numbers r) out answered after → MachineOf pattern machine
machine_built pattern searches before machine (Err e) b t = absurd (omega (arith, t.numbered.0, t.status_is))
machine_built pattern searches before machine (Ok numbers) b t = held_machine b

pub answered_build_runs : {pattern : List ℕ} {searches : Bool} {before machine out after : List ℕ} → BuildReplies pattern searches before machine out answered after
    → Runs pattern machine
answered_build_runs {pattern} {searches} {before} {machine} {out} p =
    by_length (length out) 3 (λ h. not_short (p.short h).0)
    (λ h. by_length (length before) machine_numbers (λ k. not_short (p.small k).0) (λ k. let t = p.told h k in λ room. machine_built pattern searches before machine t.0 t.1 t.2))
