-- After i turns it keeps the one value, if any, that reaches the threshold and stands among the first i entries.
use Rattle.votes.proofs.Counts.{Scan}
use Rattle.votes.proofs.by_counts.Given as goal

abbrev pub invariant-loop-i : goal.invariant-loop-i
invariant-loop-i l = Scan l.threshold l.list l.kept l.i
