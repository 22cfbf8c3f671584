-- VOTE with threshold q over a list.
use Rattle.std.specs.Prelude.{ℕ, List, [], ◌∷◌, Bool, true, false, cond, eqb, leb}
use Rattle.rules.specs.Lists.{count, keep, all}
use Rattle.rules.specs.declared.Outcome.{Outcome}

-- at least q entries equal v
unfoldable pub reaches : ℕ → List ℕ → ℕ → Bool
reaches q xs v = leb q (count (eqb v) xs)

-- of the entries that reached the threshold: none gives the default, one value gives that value, two values are a tie
unfoldable pub settle : List ℕ → Outcome
settle [] = record { word = 0; tie = false }
settle (v ∷ vs) = cond (all (eqb v) vs) (record { word = v; tie = false }) (record { word = 0; tie = true })

-- the value that at least q entries equal, if exactly one value has that many; else the default
unfoldable pub vote : ℕ → List ℕ → Outcome
vote q xs = settle (keep (reaches q xs) xs)
