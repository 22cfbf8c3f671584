-- What the functions of the exchange ask of their callers.
use Rattle.std.specs.Prelude.{ℕ, ◌+◌, ◌≤◌, ◌<◌, ◌≡◌, true}
use Rattle.rules.specs.Routes.{held, is_path}
use Rattle.rules.specs.declared.Settings.{Settings}
use Rattle.rules.specs.declared.Route as R

-- a route on which its receiver decides with rounds left
pub record Ready (s : Settings) (r : R.Route) (left : ℕ) : Type 0 where
  pub some : 0 < r.len
  pub more : 0 < left
  pub short : r.len + left ≤ s.m + 1
  pub path : is_path s.n s.sender (held r) ≡ true
