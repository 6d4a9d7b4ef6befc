-- Two answers that the promise on what comes next in a job allows are equal.
use Rattle.std.proofs.Common.{ℕ, ◌≡◌, sym, ◌∙◌, List, Option, Result}
use Rattle.job.specs.Comes.{comes}
use Rattle.job.specs.declared.Body.{Body}
use Rattle.job.specs.declared.Broken.{Broken}

pub comes_once : (bs : List ℕ) (at stop kind : ℕ) (one other : Result (Option Body) Broken) → one ≡ comes bs at stop kind → other ≡ comes bs at stop kind → one ≡ other
comes_once bs at stop kind one other e f = e ∙ sym f
