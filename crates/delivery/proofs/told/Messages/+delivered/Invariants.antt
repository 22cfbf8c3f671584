use Rattle.delivery.proofs.told.Messages.+delivered.Given as goal

abbrev pub decreases-delivered : goal.decreases-delivered
decreases-delivered l = l.r.len
