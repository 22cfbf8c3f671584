-- `conversions::asked::route_of_cell`: judged, and then its round and its place there.
use Rattle.conversions.proofs.Judged.{network-refuses-cell, cell-refused, cell-taken}
use Rattle.conversions.proofs.Answered.{route-found}
use Rattle.conversions.proofs.asked.route_of_cell.Goals as goal

pub returns-in_err-network : goal.returns-in_err-network
returns-in_err-network c = network-refuses-cell _ _ _ _ _ c.from_residual.ensures.1 _ c.in_err-network.ensures _

pub returns-then-c-message_count : goal.returns-then-c-message_count
returns-then-c-message_count c = cell-refused _ _ _ c.in_ok-network.ensures.0 _ _ c.message_count.ensures c.if-c-message_count.true

pub returns : goal.returns
returns c = (
  cell-taken _ _ _ c.in_ok-network.ensures.0 _ _ c.message_count.ensures c.if-c-message_count.false,
  route-found _ _ _ c.in_ok-network.network c.in_ok-network.ensures _ _ c.route_at.ensures,
)
