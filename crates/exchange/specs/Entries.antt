-- What is gathered for a vote.
use Rattle.std.specs.Prelude.{ℕ, ◌-◌, List, map}
use Rattle.rules.specs.Lists.{total}
use Rattle.rules.specs.Words.{bytes_of}
use Rattle.rules.specs.Routes.{receivers}
use Rattle.rules.specs.Decision.{via, byz, entries}
use Rattle.rules.specs.declared.Settings.{Settings}

-- words in bytes, and the ties met on the way to them
pub record Gathered : Type 0 where
  pub bytes : List ℕ
  pub ties : ℕ

-- the entries of a route's receiver
abbrev pub gathered : Settings → List ℕ → ℕ → List ℕ → Gathered
gathered s table left p = record {
  bytes = bytes_of (entries s table (left - 1) p);
  ties = total (map (λ j. (byz s table (left - 1) (via j p)).ties) (receivers s.n s.sender p));
}
