-- `begun`: the head is written, and then the copy behind it, unless what is copied stands there already.
use Rattle.std.proofs.Common.{◌∙◌}
use Rattle.laying.proofs.Passing.{begun_laid, begun_there}
use Rattle.laying.proofs.repeats.Pass.begun.Goals as goal

pub returns-then-self-to : goal.returns-then-self-to
returns-then-self-to c = (c.copied.ensures.0 ∙ c.put.ensures.0, begun_laid c.requires c.entered.ensures c.put.ensures.1 c.copied.ensures.1)

pub returns-else-next-to : goal.returns-else-next-to
returns-else-next-to c = (c.put.ensures.0, begun_there c.requires c.entered.ensures c.put.ensures.1 c.if-self-to.false c.if-next-to.false)
