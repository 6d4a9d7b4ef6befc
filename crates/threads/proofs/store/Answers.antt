use Rattle.std.proofs.Common.{ℕ, List, ◌≡◌, ◌+◌, ◌<◌, length, get_or, set, sym, ap, ◌∙◌, arith, add-one, rules}
use Rattle.std.proofs.Math.ListN.{length-set}
use Rattle.std.proofs.Math.Seq.{paste, paste-suc}
use Rattle.threads.proofs.store.Goals as goal

pub loop-j-preserved : goal.loop-j-preserved
loop-j-preserved c =
    let list = set c.args.list.now c.args.offset c.args.place in
    let at = c.args.offset + 1 in
    let rows = c.args.rows in
    let long : length rows ≡ 20 = search rules in
    let inside : at + c.loop-j.j < length list = omega (arith, length-set c.args.list.now c.args.offset c.args.place) in
    let below : c.loop-j.j < length rows = omega (arith, c.loop-j-test.true) in (
      length-set c.loop-j.list (at + c.loop-j.j) (get_or rows c.loop-j.j 0) ∙ c.loop-j.invariant.0,
      ap (λ (l : List ℕ). set l (at + c.loop-j.j) (get_or rows c.loop-j.j 0)) c.loop-j.invariant.1
          ∙ (paste-suc list at rows c.loop-j.j 0 inside below ∙ ap (λ (n : ℕ). paste list at rows n) (sym (add-one c.loop-j.j))),
    )
