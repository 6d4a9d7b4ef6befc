-- What the two outputs promise: bytes that are counted, and bytes that are written behind those of a buffer.
use Rattle.std.specs.Prelude.{ℕ, ◌+◌, ◌≤◌, ◌<◌, ◌^◌, ◌≡◌, List, length}
use Rattle.turns.specs.declared.output.Length.{Length}
use Rattle.turns.specs.declared.output.Buffer.{Buffer}
use Rattle.turns.specs.Appended.{Appended}

-- the count does not pass 2^64
abbrev pub CountRoom : Length → List ℕ → Type 0
CountRoom s bytes = s.bytes + length bytes < 2 ^ 64

abbrev pub Counts : Length → List ℕ → Length → Type 0
Counts s bytes t = t.bytes ≡ s.bytes + length bytes

-- the buffer has room behind what is written
abbrev pub WriteRoom : Buffer → List ℕ → Type 0
WriteRoom s bytes = s.end + length bytes ≤ length s.bytes.now

-- and it is the same buffer
abbrev pub Writes : Buffer → List ℕ → Buffer → Type 0
Writes s bytes t = Appended s.bytes.now t.bytes.now s.end bytes t.end × (t.bytes.ghost_name ≡ s.bytes.ghost_name)
