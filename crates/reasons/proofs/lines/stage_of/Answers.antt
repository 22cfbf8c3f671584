-- `reasons::lines::stage_of`: no stage without settings that pass.
use Rattle.std.proofs.Common.{arith, ◌∙◌, sym}
use Rattle.reasons.proofs.LineCascade.{stage-none, stage-known, stage-unknown}
use Rattle.reasons.proofs.lines.stage_of.Goals as goal

pub returns-then-is_err : goal.returns-then-is_err
returns-then-is_err c = stage-none c.args.r _ _ c.try_from.ensures (sym c.is_err.ensures.value ∙ c.if-is_err.true)

pub returns-in-1 : goal.returns-in-1
returns-in-1 c = stage-known c.args.r _ _ c.try_from.ensures (sym c.is_err.ensures.value ∙ c.if-is_err.false) 1 c.in-1.is (omega arith)

pub returns-in-2 : goal.returns-in-2
returns-in-2 c = stage-known c.args.r _ _ c.try_from.ensures (sym c.is_err.ensures.value ∙ c.if-is_err.false) 2 c.in-2.is (omega arith)

pub returns-in_default : goal.returns-in_default
returns-in_default c = search stage-unknown
