-- `routes::numbering::next_rank`: one number more.
use Rattle.routes.proofs.Digits.{place-fits, ranked-apart, next_fits, next_place}
use Rattle.routes.proofs.numbering.next_rank.Goals as goal

pub overflow_mul-result : goal.overflow_mul-result
overflow_mul-result c = rw c.from.ensures (search place-fits)

pub digit_of-requires : goal.digit_of-requires
digit_of-requires c = search ranked-apart

pub overflow_add-result : goal.overflow_add-result
overflow_add-result c = rw c.from.ensures (search next_fits)

pub returns : goal.returns
returns c = rw c.from.ensures (search next_place)
