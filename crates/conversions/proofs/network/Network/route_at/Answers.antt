-- `conversions::network::Network::route_at`: its round, and its place there.
use Rattle.std.proofs.Common.{arith}
use Rattle.conversions.proofs.Found.{round-below, place-in-round, route-is}
use Rattle.conversions.proofs.network.Network.route_at.Goals as goal

pub overflow_add-round : goal.overflow_add-round
overflow_add-round c = let deep = c.args.self.deep in omega (arith, round-below _ _ _ _ c.round_of-round.ensures)

pub cells_before-requires : goal.cells_before-requires
cells_before-requires c =
    let deep = c.args.self.deep in
    let below = round-below _ _ _ _ c.round_of-round.ensures in
    record { few = omega arith; deep = omega arith; below = omega arith }

pub overflow_sub-c : goal.overflow_sub-c
overflow_sub-c c = place-in-round _ _ _ _ c.round_of-round.ensures _ (rw c.from.ensures at c.cells_before.ensures)

pub route_at_place-requires : goal.route_at_place-requires
route_at_place-requires c = omega (arith, round-below _ _ _ _ c.round_of-round.ensures)

pub returns : goal.returns
returns c = route-is _ _ _ _ c.round_of-round.ensures _ (rw c.from.ensures at c.cells_before.ensures) _ _ c.route_at_place.ensures
