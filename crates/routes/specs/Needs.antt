-- What the functions of this crate ask of their callers.
use Rattle.std.specs.Prelude.{ℕ, ◌≤◌, ◌<◌, ◌≡◌, true}
use Rattle.rules.specs.Routes.{back, held, is_path}
use Rattle.rules.specs.Cells.{rank}
use Rattle.rules.specs.declared.Route as R

-- a route that takes one more relay
pub record Extendable (r : R.Route) : Type 0 where
  pub some : 0 < r.len
  pub room : r.len < 4

-- a route whose numbers all stand in its row
pub record Short (r : R.Route) : Type 0 where
  pub some : 0 < r.len
  pub most : r.len ≤ 4

-- k numbers of n nodes
pub record Depth (n k : ℕ) : Type 0 where
  pub few : n ≤ 15
  pub deep : k ≤ 4
  pub below : k < n

-- a route that has a cell
pub record Numbered (n s : ℕ) (r : R.Route) : Type 0 where
  pub few : n ≤ 15
  pub sender : s < n
  pub some : 0 < r.len
  pub most : r.len ≤ 4
  pub wide : r.len < n
  pub path : is_path n s (held r) ≡ true

-- one that is numbered up to its first k numbers, and has another
pub record RankedTo (n sender : ℕ) (r : R.Route) (k c : ℕ) : Type 0 where
  pub route : Numbered n sender r
  pub more : k < r.len
  pub place : c ≡ rank n sender (back r.nodes k)

-- the first k numbers of a row, all different and none the sender: they are a path among some nodes
pub record Apart (sender : ℕ) (r : R.Route) (k : ℕ) : Type 0 where
  pub few : k ≤ 3
  pub nodes : ℕ
  pub path : is_path nodes sender (back r.nodes k) ≡ true
