-- What the functions that deliver a word ask of their callers. That every route's cell lies in the table is asked as it stands, so
-- that nothing here knows how cells are numbered; the exchange shows it once.
use Rattle.std.specs.Prelude.{ℕ, ◌+◌, ◌*◌, ◌≤◌, ◌<◌, ◌≡◌, true, List, length}
use Rattle.rules.specs.Routes.{held, receiver, is_path, is_route}
use Rattle.rules.specs.Cells.{cell}
use Rattle.rules.proofs.Accepted.{SettingsAccepted}
use Rattle.rules.specs.declared.Settings.{Settings}
use Rattle.rules.specs.declared.Route as R

-- accepted settings, and a table in which every route's cell lies
pub record Given (s : Settings) (table : List ℕ) : Type 0 where
  pub judged : SettingsAccepted s
  pub room : (p : List ℕ) → is_route s.n s.m s.sender p ≡ true → 2 * cell s.n s.sender p + 1 < length table

-- a route on which a word is delivered
pub record Told (s : Settings) (r : R.Route) : Type 0 where
  pub some : 0 < r.len
  pub short : r.len ≤ s.m + 1
  pub path : is_path s.n s.sender (held r) ≡ true

-- and a relay that may be put before its receiver
pub record Relayed (s : Settings) (r : R.Route) (relay : ℕ) : Type 0 where
  pub told : Told s r
  pub room : r.len ≤ s.m
  pub next : receiver s.n s.sender (held r) relay ≡ true
