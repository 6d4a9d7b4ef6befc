-- `append` into a buffer meets its contract: after i turns the buffer is the one at entry with the first i bytes pasted in.
use Rattle.std.proofs.Common.{◌≡◌}
use Rattle.turns.proofs.Written.{Copying}
use Rattle.turns.proofs.output.BufferOutput.append.Given as goal

abbrev pub invariant-loop-i : goal.invariant-loop-i
invariant-loop-i l = record {
  copying : Copying l.bytes l.initial.self.bytes.now l.at l.self.bytes.now l.i;
  same_buffer : l.self.bytes.ghost_name ≡ l.initial.self.bytes.ghost_name;
}
