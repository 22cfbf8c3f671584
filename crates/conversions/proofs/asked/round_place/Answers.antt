-- `conversions::asked::round_place`: judged, and then the cells before the round and those before the next.
use Rattle.std.proofs.Common.{arith}
use native.Mathlib.Numerals.{add-one}
use Rattle.conversions.proofs.Judged.{layout-refuses-part, all-rounds, table_fits, table-refused, round-refused, round-taken}
use Rattle.conversions.proofs.Answered.{start-depth, end-depth, bytes-most}
use Rattle.conversions.proofs.asked.round_place.Goals as goal

pub returns-in_err-judged : goal.returns-in_err-judged
returns-in_err-judged c = layout-refuses-part _ _ _ _ _ c.from_residual.ensures.1 c.in_err-judged.ensures _ _

pub message_count-requires : goal.message_count-requires
message_count-requires c = all-rounds _ _ c.in_ok-judged.ensures.0

pub overflow_mul-message_count : goal.overflow_mul-message_count
overflow_mul-message_count c = table_fits _ _ c.in_ok-judged.ensures.0 _ c.message_count.ensures

pub returns-then-bytes-message_count : goal.returns-then-bytes-message_count
returns-then-bytes-message_count c = table-refused _ _ c.in_ok-judged.ensures.0 _ _ _ c.message_count.ensures c.if-bytes-message_count.true

pub returns-then-round-m : goal.returns-then-round-m
returns-then-round-m c = round-refused _ _ c.in_ok-judged.ensures.0 _ _ _ c.message_count.ensures c.if-bytes-message_count.false c.if-round-m.true

pub cells_before-start-requires : goal.cells_before-start-requires
cells_before-start-requires c = start-depth _ _ _ c.in_ok-judged.ensures.0 c.if-round-m.false

pub overflow_mul-start : goal.overflow_mul-start
overflow_mul-start c = omega (arith, bytes-most _ _ _ (start-depth _ _ _ c.in_ok-judged.ensures.0 c.if-round-m.false) c.cells_before-start.ensures)

pub cells_before-end-requires : goal.cells_before-end-requires
cells_before-end-requires c = end-depth _ _ _ c.in_ok-judged.ensures.0 c.if-round-m.false

pub overflow_mul-end : goal.overflow_mul-end
overflow_mul-end c = omega (arith, bytes-most _ _ _ (end-depth _ _ _ c.in_ok-judged.ensures.0 c.if-round-m.false) c.cells_before-end.ensures)

pub overflow_cast-result : goal.overflow_cast-result
overflow_cast-result c = omega (arith, bytes-most _ _ _ (start-depth _ _ _ c.in_ok-judged.ensures.0 c.if-round-m.false) c.cells_before-start.ensures)

pub overflow_cast-result-2 : goal.overflow_cast-result-2
overflow_cast-result-2 c = omega (arith, bytes-most _ _ _ (end-depth _ _ _ c.in_ok-judged.ensures.0 c.if-round-m.false) c.cells_before-end.ensures)

pub returns : goal.returns
returns c =
    let later = rw add-one at c.cells_before-end.ensures in
    (round-taken _ _ c.in_ok-judged.ensures.0 _ _ _ c.message_count.ensures c.if-bytes-message_count.false c.if-round-m.false, (rw c.cells_before-start.ensures, rw later))
