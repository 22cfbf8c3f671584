-- The lines of the nodes so far stand behind what was written before.
use Rattle.std.proofs.Common.{◌≡◌, ◌++◌}
use Rattle.answering.specs.Finish.{row_text}
use Rattle.answering.proofs.lines.put_nodes.Given as goal

abbrev pub invariant-loop-i : goal.invariant-loop-i
invariant-loop-i l = l.text ≡ l.initial.text ++ row_text l.s l.row l.i
