-- Routes and cells convert both ways without loss: what one conversion answers, the other takes back to what was given.
use mathlib.Core.Path.{◌≡◌}
use Prim.Native.Nat.{ℕ}
use Rattle.rules.specs.Routes.{held}
use Rattle.rules.specs.Cells.{cell, route_at}
use Rattle.rules.specs.Refusals.{route_refusal, cell_refusal}
use Rattle.rules.specs.Answers.{row_of_route, cell_found, route_found}
use Rattle.rules.specs.declared.Route as R
use Rattle.rules.specs.declared.CellFound.{CellFound}
use Rattle.rules.specs.declared.RouteFound.{RouteFound}
use Rattle.rules.proofs.Numbering.{cell-lt}
use Rattle.rules.proofs.Inverse.{route-at-is, cell-of-route-at, route-at-of-cell}
use Rattle.rules.proofs.Rows.{held-row}
use Rattle.rules.proofs.Accepted.{route-accepted, cell-accepted}

module _ (n m sender : ℕ) where
  -- an accepted route's cell is accepted, and its route has the numbers that were given, 0 beyond them
  pub route-and-back : (r : R.Route) → route_refusal n m sender r ≡ 0 →
      ◌≡◌ {A = RouteFound} (route_found n m sender (cell_found n m sender r).cell) (record { refusal = 0; route = row_of_route (held r) })
  unfolding cell_found route_found
  route-and-back r e =
      let a = (route-accepted n m sender r).0 e in
      let c = cell n sender (held r) in
      let k : cell_refusal n m sender c ≡ 0 =
      (cell-accepted n m sender c).1 (record { layout = a.layout; sender-below = a.sender-below; cell_below = cell-lt n sender a.sender-below m (held r) a.route }) in
      rw (e, k, route-at-of-cell n sender a.sender-below m (held r) a.route)

  -- an accepted cell's route is accepted, and its cell is the one that was given
  pub cell-and-back : (c : ℕ) → cell_refusal n m sender c ≡ 0 →
      ◌≡◌ {A = CellFound} (cell_found n m sender (route_found n m sender c).route) (record { refusal = 0; cell = c })
  unfolding cell_found route_found
  cell-and-back c e =
      let a = (cell-accepted n m sender c).0 e in
      let p = route_at n m sender c in
      let h = held-row p in
      let k : route_refusal n m sender (row_of_route p) ≡ 0 =
      (route-accepted n m sender (row_of_route p)).1 (record { layout = a.layout; sender-below = a.sender-below; route = rw h (route-at-is n sender a.sender-below m c a.cell_below) }) in
      rw (e, k, h, cell-of-route-at n sender a.sender-below m c a.cell_below)
