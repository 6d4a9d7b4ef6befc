use Rattle.std.proofs.Common.{sym, ap, ap₂, ◌∙◌, ◌&&◌, ℕ}
use Rattle.std.specs.Prelude.{leb}
use Rattle.std.specs.List.{list_any}
use Rattle.std.proofs.lemmas.List.{drop_all}
use Rattle.moves.proofs.Ranges.{holds_byte, pairs_hold, holds_here}
use Rattle.moves.proofs.in_set.Goals as goal

pub returns-then-in_range : goal.returns-then-in_range
returns-then-in_range c =
    let pairs = c.as_chunks.result.0.now in
    let held = ap₂ (λ (low high : ℕ). leb low c.args.byte && leb c.args.byte high) (sym c.from.ensures) (sym c.from-in-loop-low.ensures)
    ∙ (sym c.in_range.ensures ∙ c.if-in_range.true) in
    sym (holds_here c.args.byte pairs c.loop-low.low-index c.loop-low-test.true held)
    ∙ (c.loop-low.invariant ∙ pairs_hold c.args.pattern.now c.args.offset c.args.count c.args.byte pairs c.requires c.as_chunks.ensures.front)

pub returns : goal.returns
returns c =
    let pairs = c.as_chunks.result.0.now in
    sym (ap (list_any (holds_byte c.args.byte)) (drop_all c.loop-low.low-index pairs c.loop-low-test.false))
    ∙ (c.loop-low.invariant ∙ pairs_hold c.args.pattern.now c.args.offset c.args.count c.args.byte pairs c.requires c.as_chunks.ensures.front)
