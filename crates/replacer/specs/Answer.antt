-- The answer of replace-all, read as `paper`'s.
use Rattle.std.specs.Prelude.{ℕ, Result, Ok, Err}
use Rattle.paper.specs.Refusal.{Checked}
use Rattle.paper.specs.Replace as paper
use Rattle.pattern.specs.declared.Refused.{Refused}
use Rattle.pattern.specs.Refusals.{checked_of}
use Rattle.replacer.specs.declared.Replaced.{Replaced}

-- the output's length, the replacements and the sum of the steps
abbrev pub replaced_of : Replaced → paper.Replaced
replaced_of r = record { output_length = r.length; replaced = r.replacements; steps = r.steps }

-- a refusal's number and place, or those three
abbrev pub answer_of : Result Replaced Refused → Checked paper.Replaced
answer_of r = checked_of replaced_of r

-- the steps that an answer tells
abbrev pub steps_told : Result Replaced Refused → ℕ
steps_told (Ok r) = r.steps
steps_told (Err r) = 0
