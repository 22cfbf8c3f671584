-- The lent marks: one bit per cell for cells given, the first cell in the lowest bit of the first byte.
use Rattle.std.specs.Prelude.{ℕ, ◌*◌, ◌/◌, ◌%◌, ◌^◌, List, Bool, length, get_or, set, eqb}
use Rattle.std.specs.Int.Bits.{bit_or}

-- a cell's mark is set; a bit that is not there is not set
unfoldable pub marked : List ℕ → ℕ → Bool
marked marks c = eqb (get_or marks (c / 8) 0 / 2 ^ (c % 8) % 2) 1

-- the marks with that of a cell set
unfoldable pub mark : List ℕ → ℕ → List ℕ
mark marks c = set marks (c / 8) (bit_or (get_or marks (c / 8) 0) (2 ^ (c % 8)))

-- how many bits there are
abbrev pub bits_of : List ℕ → ℕ
bits_of marks = 8 * length marks
