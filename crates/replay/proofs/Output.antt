-- What replace-all answers of its output's length fits the buffer that it was lent.
use Rattle.std.proofs.Common.{◌≡◌, ℕ, ◌≤◌, List, length, drop, length-append, arith, ap}
use Rattle.paper.specs.Refusal.{Checked, refused, accepted}
use Rattle.paper.specs.Replace.{Scanned, Replaced, replace_answer, buffer_after}

pub output_fits : (call : Checked Scanned) (lent after : List ℕ) (r : Replaced) → accepted r ≡ replace_answer call → after ≡ buffer_after call lent → r.output_length ≤ length after
output_fits (refused number place) lent after r e b = cc
output_fits (accepted s) lent after r e b =
    let told : r ≡ record { output_length = length s.output; replaced = s.replaced; steps = s.steps } = cc in
    omega (arith, ap (λ t. t.output_length) told, ap length b, length-append s.output (drop (length s.output) lent))
