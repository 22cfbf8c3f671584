-- `conversions::network::Network::route_at_place`: the route one shorter, and one number more.
use Rattle.std.proofs.Common.{arith}
use Rattle.conversions.proofs.Found.{place_short, place-more}
use Rattle.conversions.proofs.network.Network.+route_at_place.Goals as goal

pub nth_receiver-requires : goal.nth_receiver-requires
nth_receiver-requires t c = let deep = c.args.self.deep in place_short _ _ _ _ _ (omega arith) c.route_at_place-r.ensures

pub returns : goal.returns
returns t c =
    let deep = c.args.self.deep in
    place-more _ _ _ _ _ _ c.if-len-eq0.false (omega arith) (rw c.from.ensures at c.route_at_place-r.ensures) (rw c.from.ensures at c.nth_receiver.ensures)
