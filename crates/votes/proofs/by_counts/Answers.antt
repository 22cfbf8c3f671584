use Rattle.votes.proofs.Counts.{scan-start, scan-first, scan-skip, scan-again, scan-tie, scan-end}
use Rattle.votes.proofs.by_counts.Goals as goal
use Rattle.votes.proofs.by_counts.Goals.{then-eq-via-then-eq, then-eq-via-else-eq+then-not-reaches_from}

pub loop-i-init : goal.loop-i-init
loop-i-init c = search scan-start

pub loop-i-preserved-then-eq : goal.loop-i-preserved-then-eq
loop-i-preserved-then-eq c =
    elim c.then-eq.branch [ then-eq-via-then-eq w ↦ search scan-again | then-eq-via-else-eq+then-not-reaches_from w ↦ search scan-skip ]

pub returns-then-is_some : goal.returns-then-is_some
returns-then-is_some c = search scan-tie

pub loop-i-preserved : goal.loop-i-preserved
loop-i-preserved c = search scan-first

pub returns : goal.returns
returns c = search scan-end
