-- The machine's rows with the whole line as row 0 are the whole match's.
use Rattle.std.proofs.Common.{◌≡◌, refl, sym, ap, List, ℕ, length, Option}
use Rattle.paper.specs.Match.{with_row0}
use Rattle.paper.specs.Rows.{Rows}
use Rattle.machine.specs.Machine.{found_of}
use Rattle.machine.proofs.Only.{ready_as}
use Rattle.machine.proofs.Running.{match_gives}
use Rattle.machine.proofs.Machine.match_rows.Goals as goal

-- row 0 is put into the rows that the run left
told_rows : (line : List ℕ) {left rows : Option Rows} → left ≡ rows → with_row0 (length line) (found_of rows) ≡ with_row0 (length line) (found_of left)
told_rows line is = sym (ap (λ (o : Option Rows). with_row0 (length line) (found_of o)) is)

pub returns-in-Some-clause-gives : goal.returns-in-Some-clause-gives
returns-in-Some-clause-gives c =
    match_gives c.args.self.pattern.now c.args.self.code.now c.args.line.now c.args.self.places c.args.self.depth c.run_built-ran.result
    (ready_as c.requires.built c.args.self.ready) c.run_built-ran.ensures.runs refl (told_rows c.args.line.now c.in-Some.is)

pub returns-in_default-clause-gives : goal.returns-in_default-clause-gives
returns-in_default-clause-gives c =
    match_gives c.args.self.pattern.now c.args.self.code.now c.args.line.now c.args.self.places c.args.self.depth c.run_built-ran.result
    (ready_as c.requires.built c.args.self.ready) c.run_built-ran.ensures.runs refl (rw c.in_default.is refl)
