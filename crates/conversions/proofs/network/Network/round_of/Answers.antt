-- `conversions::network::Network::round_of`: round after round, from the last.
use Rattle.std.proofs.Common.{arith}
use Rattle.conversions.proofs.Found.{round-here, round-lower, round-first}
use Rattle.conversions.proofs.network.Network.round_of.Goals as goal

pub returns-then-c-cells_before : goal.returns-then-c-cells_before
returns-then-c-cells_before c = round-here _ _ _ _ _ c.loop-k.invariant c.loop-k-test.true (rw c.from-n.ensures at c.cells_before.ensures) (omega arith)

pub loop-k-preserved : goal.loop-k-preserved
loop-k-preserved c = round-lower _ _ _ _ _ c.loop-k.invariant c.loop-k-test.true (rw c.from-n.ensures at c.cells_before.ensures) (omega arith)

pub returns : goal.returns
returns c = search round-first
