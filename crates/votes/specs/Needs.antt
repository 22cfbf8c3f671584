-- What the functions of this crate ask of their callers.
use Rattle.std.specs.Prelude.{ℕ, ◌+◌, ◌≤◌, ◌<◌, ◌≡◌, List, length}
use Rattle.rules.specs.Words.{word_at, plain}
use Rattle.words.specs.Places.{Holds}

-- an entry, and a word that is not reserved
pub record Comparable (list : List ℕ) (place word : ℕ) : Type 0 where
  pub inside : Holds list place
  pub ordinary : word ≤ 65000

-- the entry in a place, which no more entries than the spare ones stand before
pub record Candidate (list : List ℕ) (place word spare : ℕ) : Type 0 where
  pub inside : Holds list place
  pub stands : word ≡ plain (word_at list place)
  pub early : place ≤ spare

-- a threshold that all but so many entries reach, and that is more than half of them
pub record AboveHalf (threshold : ℕ) (entries : List ℕ) (spare : ℕ) : Type 0 where
  pub rest : spare + threshold ≡ length entries
  pub most : spare < threshold
