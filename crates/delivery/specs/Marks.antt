-- What the set of a route's numbers says.
use Rattle.std.specs.Prelude.{ℕ, ◌≡◌, not, List}
use Rattle.rules.specs.Words.{faulty}
use Rattle.rules.specs.Routes.{free}

-- a word whose set bits are the numbers of a route
pub record Marks (used : ℕ) (p : List ℕ) : Type 0 where
  pub marks : (x : ℕ) → faulty used x ≡ not (free p x)
