-- What the program does with what it reads. No contract can say which bytes come; this one says that whatever came was fed to the
-- reader, piece after piece and nothing else.
use mathlib.Core.List.{flatten}
use Rattle.std.specs.Prelude.{◌≡◌, List, ℕ, ◌+◌, ◌≤◌, length, Option, None, Some}
use Rattle.std.specs.Io.KnownBytes.{Consumes}
use Rattle.scenario.specs.Reasons.{Desk}
use Rattle.scenario.specs.Feeding.{fed_all}

pub record Fed (before now : Desk) : Type 0 where
  pub pieces : List (List ℕ)
  pub fed : now ≡ fed_all before pieces

-- The same, and where it is known which bytes the input had left, the pieces together are those that it has no longer.
pub record FedFrom (left rest : Option (List ℕ)) (before now : Desk) : Type 0 where
  pub all : Fed before now
  pub taken : Consumes left rest (flatten all.pieces)

-- Where it is known which bytes the input had left, it has at least so many fewer.
abbrev pub Loses : Option (List ℕ) → Option (List ℕ) → ℕ → Type 0
Loses None rest least = Unit {0}
Loses (Some xs) None least = ⊥
Loses (Some xs) (Some ys) least = length ys + least ≤ length xs
