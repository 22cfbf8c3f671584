-- `reasons::kinds::open_judged`: the settings, and then what is lent.
use Rattle.reasons.proofs.KindCascade.{answered, settings-refused, settings-passed}
use Rattle.reasons.proofs.kinds.open_judged.Goals as goal

pub returns-in_err-try_from : goal.returns-in_err-try_from
returns-in_err-try_from c = answered _ _ _ _ c.from_residual.ensures.1 (settings-refused c.args.s c.args.table c.args.marks _ c.in_err-try_from.ensures)

pub returns : goal.returns
returns c = rw (settings-passed c.args.s c.args.table c.args.marks c.in_ok-try_from.ensures.0) c.lent_judged.ensures
