use Rattle.std.proofs.Common.{arith}
use Rattle.votes.proofs.Entries.{candidate-plain, missed-before, missed_more, missed-hit, missed-over, missed-few}
use Rattle.votes.proofs.all_but.Goals as goal
use Rattle.votes.proofs.all_but.Goals.{then-not-entry_is+else-missed-spare, else-not-entry_is}

pub loop-i-init : goal.loop-i-init
loop-i-init c = search missed-before

pub entry_is-requires : goal.entry_is-requires
entry_is-requires c = record { inside = omega arith; ordinary = search candidate-plain }

pub returns-then-missed-spare : goal.returns-then-missed-spare
returns-then-missed-spare c = search missed-over

pub loop-i-preserved : goal.loop-i-preserved
loop-i-preserved c =
    elim c.if-not-entry_is.branch [ then-not-entry_is+else-missed-spare w ↦ search missed_more | else-not-entry_is w ↦ search missed-hit ]

pub returns : goal.returns
returns c = search missed-few
