-- Eight or four rows, and then those that are left.
use Rattle.std.proofs.Common.{◌-◌, arith}
use Rattle.threads.proofs.Clearing.{clear_then}
use Rattle.threads.proofs.clear_rows.Goals as goal

pub returns-then-count-lt8 : goal.returns-then-count-lt8
returns-then-count-lt8 c =
    clear_then c.args.first 4 (c.args.count - 4) c.args.count c.args.rows.now c.clear_some.ensures c.clear_under_four-then-count-lt8.ensures (omega arith)

pub returns-else-count-lt8 : goal.returns-else-count-lt8
returns-else-count-lt8 c =
    clear_then c.args.first 8 (c.args.count - 8) c.args.count c.args.rows.now c.clear_some-else-count-lt8.ensures c.clear_under_four-else-count-lt8.ensures (omega arith)
