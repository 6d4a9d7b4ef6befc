-- `sets::right` meets its contract: 1 to 32 whole pairs that are apart.
use Rattle.std.proofs.Common.{arith, rules, ◌∙◌}
use Rattle.pattern.proofs.Pairs.{few_pairs}
use Rattle.pattern.proofs.sets.right.Goals as goal

pub returns-in-1-to-32 : goal.returns-in-1-to-32
returns-in-1-to-32 c = rw c.as_chunks.ensures.front at c.apart.ensures ∙ few_pairs c.args.body.now (search rules) (omega arith) (omega arith)
