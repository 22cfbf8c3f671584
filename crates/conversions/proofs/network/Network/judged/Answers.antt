-- `conversions::network::Network::judged`: nodes and rounds, and then the sender.
use Rattle.std.proofs.Common.{refl}
use Rattle.conversions.proofs.Judged.{layout-refuses, all-rounds, sender-refused, network-taken}
use Rattle.conversions.proofs.network.Network.judged.Goals as goal

pub returns-in_err-layout : goal.returns-in_err-layout
returns-in_err-layout c = layout-refuses _ _ _ _ _ c.from_residual.ensures.1 c.in_err-layout.ensures _

pub returns-then-sender-n : goal.returns-then-sender-n
returns-then-sender-n c = sender-refused _ _ c.in_ok-layout.ensures.0 _ c.if-sender-n.true

pub invariant_of-result : goal.invariant_of-result
invariant_of-result c = let (pass, (n, m)) = c.in_ok-layout.ensures in record { deep = rw (n, m) (all-rounds _ _ pass); node = rw n c.if-sender-n.false }

pub returns : goal.returns
returns c = let (pass, (n, m)) = c.in_ok-layout.ensures in (network-taken _ _ pass _ c.if-sender-n.false, (n, m, refl))
