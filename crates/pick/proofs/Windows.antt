-- What becomes of the bytes of a job that are read and not yet used: the first left out, and what reading behind them leaves.
use Rattle.std.proofs.Common.{ℕ, ◌≡◌, ◌≤◌, ◌+◌, ◌-◌, List, length, take, drop, arith, sym, ap, ◌∙◌}
use Rattle.std.proofs.lemmas.List.{drop-take, drop-drop, take-take, length-take, length-take-le}
use Rattle.std.proofs.lemmas.Slice.{take-put_mid_below}
use Rattle.std.proofs.Math.ListN.{length-drop}
use borrow.Rule.Slice.PartMut.{put_mid}
use Rattle.paper.specs.Check.{part}
use Rattle.pick.specs.Window.{Grown}

-- a part of a list is a part of its beginning
part_front : (l : List ℕ) (start end : ℕ) → start ≤ end → part l start end ≡ drop start (take end l)
part_front l start end forward =
    let whole : start + (end - start) ≡ end = omega arith in
    sym (ap (λ (n : ℕ). drop start (take n l)) (sym whole) ∙ drop-take start (end - start) l)

-- the first of a part left out
pub part_later : (l : List ℕ) (start n end : ℕ) → n ≤ length (part l start end) → part l (start + n) end ≡ drop n (part l start end)
part_later l start n end inside =
    let whole : n + (end - (start + n)) ≡ end - start = omega (arith, length-take (end - start) (drop start l)) in
    sym (ap (λ (k : ℕ). drop n (take k (drop start l))) (sym whole) ∙ drop-take n (end - (start + n)) (drop start l) ∙ ap (take (end - (start + n))) (drop-drop n start l))

-- what is read behind a part leaves it the first
pub grown_read : (l came : List ℕ) (start end to room : ℕ) → start ≤ end → end ≤ to → end ≤ length l → Grown (part l start end) (part (put_mid end room l came) start to)
grown_read l came start end to room forward further inside =
    let new = put_mid end room l came in
    let long : length (part l start end) ≡ end - start = length-take-le (end - start) (drop start l) (omega (arith, length-drop start l)) in
    ap (λ (n : ℕ). take n (part new start to)) long
    ∙ take-take (end - start) (to - start) (drop start new) (omega arith)
    ∙ part_front new start end forward
    ∙ ap (drop start) (take-put_mid_below end room l came end (omega arith) inside)
    ∙ sym (part_front l start end forward)
