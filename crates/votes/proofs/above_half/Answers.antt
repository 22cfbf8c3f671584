use Rattle.votes.proofs.Majority.{unled-start, in_list, candidate, led, unled-next, unled-all}
use Rattle.votes.proofs.above_half.Goals as goal

pub loop-place-init : goal.loop-place-init
loop-place-init c = search unled-start

pub plain_at-word-requires : goal.plain_at-word-requires
plain_at-word-requires c = search in_list

pub all_but-requires : goal.all_but-requires
all_but-requires c = search candidate

pub returns-then-all_but : goal.returns-then-all_but
returns-then-all_but c = search led

pub loop-place-preserved : goal.loop-place-preserved
loop-place-preserved c = search unled-next

pub returns-else-all_but : goal.returns-else-all_but
returns-else-all_but c = search unled-all
