-- `reasons::kinds::lent_judged`: the table's bytes, and then the marks'.
use Rattle.std.proofs.Common.{arith}
use Rattle.rules.proofs.Growth.{cells-few}
use Rattle.settings.proofs.Depths.{settings-deep}
use Rattle.reasons.proofs.KindCascade.{short-table, short-marks, lent-enough}
use Rattle.reasons.proofs.kinds.lent_judged.Goals as goal

pub message_count-cells-requires : goal.message_count-cells-requires
message_count-cells-requires c = search settings-deep

pub overflow_mul-cells : goal.overflow_mul-cells
overflow_mul-cells c = omega (arith, c.message_count-cells.ensures, cells-few _ c.requires)

pub returns-then-table-cells : goal.returns-then-table-cells
returns-then-table-cells c = search short-table

pub returns-then-marks-div_ceil : goal.returns-then-marks-div_ceil
returns-then-marks-div_ceil c = short-marks _ _ _ _ c.message_count-cells.ensures c.if-table-cells.false (rw (← c.div_ceil.ensures) c.if-marks-div_ceil.true)

pub returns : goal.returns
returns c = (lent-enough _ _ _ _ c.message_count-cells.ensures c.if-table-cells.false (rw (← c.div_ceil.ensures) c.if-marks-div_ceil.false), tt)
