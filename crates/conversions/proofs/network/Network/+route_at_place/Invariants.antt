use Rattle.conversions.proofs.network.Network.+route_at_place.Given as goal

abbrev pub decreases-route_at_place : goal.decreases-route_at_place
decreases-route_at_place l = l.len
