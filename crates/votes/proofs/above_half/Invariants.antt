-- Before each turn no value that reaches the threshold stands before the place.
use Rattle.votes.proofs.Majority.{Unled}
use Rattle.votes.proofs.above_half.Given as goal

abbrev pub invariant-loop-place : goal.invariant-loop-place
invariant-loop-place l = Unled l.threshold l.list l.spare l.place
