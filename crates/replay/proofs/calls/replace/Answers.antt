-- `calls::replace` is safe: the output stands in the buffer.
use Rattle.std.proofs.Common.{◌∙◌, sym, ap}
use Rattle.replacer.specs.Answer.{answer_of}
use Rattle.replay.proofs.Output.{output_fits}
use Rattle.replay.proofs.calls.replace.Goals as goal

pub split_at-requires : goal.split_at-requires
split_at-requires c = output_fits _ _ _ _ (ap answer_of (sym c.in-Ok.is) ∙ c.replace_all.ensures.answer) c.replace_all.ensures.buffer
