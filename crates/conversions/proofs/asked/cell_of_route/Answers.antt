-- `conversions::asked::cell_of_route`: judged, and then numbered.
use Rattle.conversions.proofs.Judged.{network-refuses-route}
use Rattle.conversions.proofs.Answered.{not-a-route, route-passes, route-numbered, cell-found, cell-fits-word}
use Rattle.conversions.proofs.asked.cell_of_route.Goals as goal

pub returns-in_err-network : goal.returns-in_err-network
returns-in_err-network c = network-refuses-route _ _ _ _ _ c.from_residual.ensures.1 _ c.in_err-network.ensures _

pub returns-then-not-is_route : goal.returns-then-not-is_route
returns-then-not-is_route c = not-a-route _ _ _ c.in_ok-network.network c.in_ok-network.ensures _ c.if-not-is_route.ensures

pub cell_at-requires : goal.cell_at-requires
cell_at-requires c = route-numbered _ _ _ c.in_ok-network.network c.in_ok-network.ensures _ c.if-not-is_route.ensures

pub overflow_cast-result : goal.overflow_cast-result
overflow_cast-result c = cell-fits-word _ _ _ c.in_ok-network.network c.in_ok-network.ensures _ c.if-not-is_route.ensures _ c.cell_at.ensures

pub returns : goal.returns
returns c = (route-passes _ _ _ c.in_ok-network.network c.in_ok-network.ensures _ c.if-not-is_route.ensures, cell-found _ _ _ c.in_ok-network.network c.in_ok-network.ensures _ c.if-not-is_route.ensures _ c.cell_at.ensures)
