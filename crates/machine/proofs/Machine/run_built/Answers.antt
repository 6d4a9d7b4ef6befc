-- The machine is safe to run in the parts of the scratch that it needs, and its run is the list machine's on the rest of the line.
use Rattle.std.proofs.Common.{◌+◌, ◌*◌, length, take}
use Rattle.std.proofs.Math.Seq.{length-take-le}
use Rattle.machine.proofs.Only.{ready_of}
use Rattle.machine.proofs.Running.{runs_safely, run_from}
use Rattle.machine.proofs.Machine.run_built.Goals as goal

pub run-requires : goal.run-requires
run-requires c =
    let roomy = c.requires.roomy in
    runs_safely (ready_of c.args.self.ready) (length-take-le (c.args.self.places * (c.args.self.depth + 1)) c.args.scratch.now.seen.now roomy.seen_long)
    (length-take-le c.args.self.places c.args.scratch.now.taken.now roomy.taken_long) roomy.lists_long roomy.pending_long c.requires.short c.requires.starts

pub returns-clause-runs : goal.returns-clause-runs
returns-clause-runs c = λ searches m.
    let cells = c.args.self.places * (c.args.self.depth + 1) in
    run_from m c.args.line.now c.args.from (length (take cells c.args.scratch.now.seen.now)) c.run.result.steps c.run.result.rows
    c.requires.short c.requires.starts (length-take-le cells c.args.scratch.now.seen.now c.requires.roomy.seen_long) c.run.ensures
