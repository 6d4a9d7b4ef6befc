-- `part` meets its contract: what `piece` answers lies in its source.
use Rattle.std.proofs.Common.{sym}
use Rattle.template.specs.Answer.{span_of}
use Rattle.template.proofs.Pieces.{call_inside}
use Rattle.template.proofs.part.Goals as goal

pub bytes-requires : goal.bytes-requires
bytes-requires c = call_inside c.args.template.now c.args.line.now (span_of c.in-Ok.span) c.args.table.now c.args.number (sym c.in-Ok.ensures)
