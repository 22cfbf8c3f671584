-- `routes::numbering::rank_of`: number by number.
use Rattle.std.proofs.Common.{refl}
use Rattle.rules.specs.Routes.{back}
use Rattle.rules.specs.Cells.{rank}
use Rattle.routes.proofs.numbering.rank_of.Goals as goal

pub next_rank-one-requires : goal.next_rank-one-requires
unfolding rank back
next_rank-one-requires c = record { route = c.requires; more = c.requires.some; place = refl }
