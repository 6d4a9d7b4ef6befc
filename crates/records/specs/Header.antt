-- What the header at an offset says of the bytes there, in the words of `paper`.
use Rattle.std.specs.Prelude.{ℕ, ◌≤◌, ◌<◌, ◌≡◌, List, Option, Some, None}
use Rattle.paper.specs.Check.{kind_at, body_start, body_end}
use Rattle.records.specs.declared.Header.{Header}

-- where there is none the record ends past its holder; any other has its kind and where its body starts and ends
abbrev pub Shows : List ℕ → ℕ → ℕ → Option Header → Type 0
Shows bs at stop None = stop < body_end bs at
Shows bs at stop (Some header) =
    (body_end bs at ≤ stop) × (header.kind ≡ kind_at bs at) × (header.start ≡ body_start at) × (header.end ≡ body_end bs at)
