-- What comes next in a job (01, "Known answers", on pick), by the bytes from an offset up to a stop.
use Rattle.std.specs.Prelude.{ℕ, Bool, cond, ◌&&◌, List, leb, eqb, Option, None, Some, Result, Ok, Err}
use Rattle.paper.specs.Check.{kind_at, body_length, body_start, body_end}
use Rattle.job.specs.declared.Body.{Body}
use Rattle.job.specs.declared.Broken.{Broken}

-- the kind of the record whose body is the pattern, that of the records whose bodies are lines, and the most bytes that a body has
abbrev pub pattern_record : ℕ
pattern_record = 64

abbrev pub line_record : ℕ
line_record = 65

abbrev pub body_bytes : ℕ
body_bytes = 4096

-- whether the record at an offset is whole and as described: it ends at the stop or before, has the kind, and its body is not too long
abbrev pub as_described : List ℕ → ℕ → ℕ → ℕ → Bool
as_described bs at stop kind = leb (body_end bs at) stop && eqb (kind_at bs at) kind && leb (body_length bs at) body_bytes

-- nothing at the stop; before it the record's body, or that the job is broken there
abbrev pub comes : List ℕ → ℕ → ℕ → ℕ → Result (Option Body) Broken
comes bs at stop kind =
    cond (eqb at stop) (Ok None)
    (cond (as_described bs at stop kind) (Ok (Some (record { start = body_start at; end = body_end bs at }))) (Err (record {})))
