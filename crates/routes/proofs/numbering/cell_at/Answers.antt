-- `routes::numbering::cell_at`: the rounds before a route, and its place in its own.
use Rattle.std.proofs.Common.{arith}
use Rattle.rules.proofs.Growth.{cells-most}
use Rattle.routes.proofs.Digits.{cell-sum, rank-few}
use Rattle.routes.proofs.numbering.cell_at.Goals as goal

pub overflow_add-result : goal.overflow_add-result
overflow_add-result c =
    omega (arith, cells-most _ _ _ c.cells_before.ensures (omega (arith, c.requires.few)) (omega arith), rank-few _ _ _ _ c.requires c.rank_of.ensures)

pub returns : goal.returns
returns c = cell-sum _ _ _ _ _ (rw c.from.ensures at c.cells_before.ensures) c.rank_of.ensures
