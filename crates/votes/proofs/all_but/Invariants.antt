-- The entries passed are those that missed and those that equal the word.
use Rattle.votes.proofs.Entries.{Missed}
use Rattle.votes.proofs.all_but.Given as goal

abbrev pub invariant-loop-i : goal.invariant-loop-i
invariant-loop-i l = Missed l.list l.place l.word l.spare l.missed l.i
