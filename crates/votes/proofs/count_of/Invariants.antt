-- After i turns it has counted among the first i entries.
use Rattle.std.proofs.Common.{◌≡◌, ◌≤◌, eqb}
use Rattle.rules.specs.Lists.{count}
use Rattle.votes.proofs.Entries.{firsts}
use Rattle.votes.proofs.count_of.Given as goal

abbrev pub invariant-loop-i : goal.invariant-loop-i
invariant-loop-i l = record { so_far : l.equal ≡ count (eqb l.word) (firsts l.list l.i); few : l.equal ≤ l.i }
