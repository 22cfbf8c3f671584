-- `exchange::judging::judged`: the settings', and then the two lengths.
use Rattle.std.proofs.lemmas.Result.{err_from_is_err_and}
use Rattle.settings.proofs.Depths.{settings-deep}
use Rattle.exchange.proofs.Refusing
use Rattle.exchange.proofs.judging.judged.Goals as goal

pub returns-in_err-judged : goal.returns-in_err-judged
returns-in_err-judged c =
    let p = err_from_is_err_and c.from_residual.result c.from_residual.ensures.1 in
    rw (p.1, p.2) (Refusing.settings-refused _ _ _ _ c.in_err-judged.ensures)

pub message_count-requires : goal.message_count-requires
message_count-requires c = settings-deep _ c.in_ok-judged.ensures.0

pub overflow_mul-message_count : goal.overflow_mul-message_count
overflow_mul-message_count c = Refusing.cells-scaled _ _ c.in_ok-judged.ensures.0 c.message_count.ensures

pub returns-then-table-message_count : goal.returns-then-table-message_count
returns-then-table-message_count c = Refusing.wrong-table _ _ _ _ c.in_ok-judged.ensures.0 c.message_count.ensures c.if-table-message_count.true

pub returns-then-row-s : goal.returns-then-row-s
returns-then-row-s c =
    Refusing.wrong-row _ _ _ _ c.in_ok-judged.ensures.0 c.message_count.ensures c.if-table-message_count.false c.if-row-s.true

pub returns : goal.returns
returns c = (
  Refusing.lengths-pass _ _ _ _ c.in_ok-judged.ensures.0 c.message_count.ensures c.if-table-message_count.false c.if-row-s.false,
  c.in_ok-judged.ensures.1,
)
