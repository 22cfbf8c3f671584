-- The places of a row of bytes, two bytes each.
use Rattle.std.specs.Prelude.{ℕ, ◌+◌, ◌*◌, ◌<◌, List, length}

-- both bytes of a place lie in the row
abbrev pub Holds : List ℕ → ℕ → Type 0
Holds bytes place = 2 * place + 1 < length bytes
