use Rattle.conversions.proofs.Found.{RoundTo}
use Rattle.conversions.proofs.network.Network.round_of.Given as goal

abbrev pub invariant-loop-k : goal.invariant-loop-k
invariant-loop-k l = RoundTo l.fn.self.n l.fn.self.m l.c l.k
