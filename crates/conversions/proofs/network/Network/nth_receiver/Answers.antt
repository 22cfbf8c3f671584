-- `conversions::network::Network::nth_receiver`: the d-th of those who may receive.
use Rattle.std.proofs.Common.{rules, arith}
use Rattle.std.proofs.lemmas.Iterator.{YieldsList-from_range}
use Rattle.std.proofs.lemmas.Iterator.Consumers.{YieldsList-from_filter, nth_from_yields_List}
use Rattle.rules.specs.Routes.{held, receiver}
use Rattle.conversions.proofs.Found.{nth-is}
use Rattle.conversions.proofs.network.Network.nth_receiver.Goals as goal

pub returns : goal.returns
returns c =
    nth-is c.args.self.n c.args.self.sender (held c.args.r) _ _ _ c.unwrap_or.ensures
    (nth_from_yields_List _ _ _ c.nth.ensures.ran
    (YieldsList-from_filter _ (receiver c.args.self.n c.args.self.sender (held c.args.r)) (YieldsList-from_range 0 c.args.self.n c.args.self.n (cc) (omega arith)) c.filter.ensures.closure (λ x b q k. search rules)))
