-- Each way of voting gives the vote, and the faster one is taken where it may be.
use Rattle.votes.proofs.Majority.{above-all, above_half}
use Rattle.votes.proofs.tally.Goals as goal

pub returns-then-threshold-entries : goal.returns-then-threshold-entries
returns-then-threshold-entries c = search above-all

pub above_half-requires : goal.above_half-requires
above_half-requires c = search above_half
