-- `reasons::lines::line_judged`: a frame, its place, its size, and then what it says.
use Rattle.std.proofs.Common.{sym, ◌∙◌}
use Rattle.reasons.proofs.KindCascade.{answered}
use Rattle.reasons.proofs.LineCascade.{line-none, line-out, line-wrong, line-ready, line-read, line-said}
use Rattle.reasons.proofs.lines.line_judged.Goals as goal

pub returns-then-no_frame : goal.returns-then-no_frame
returns-then-no_frame c = line-none c.args.r _ _ _ c.line_held-held.ensures (sym c.if-no_frame.ensures)

pub returns-then-out_of_place : goal.returns-then-out_of_place
returns-then-out_of_place c = line-out c.args.r _ _ _ c.line_held-held.ensures (sym c.if-no_frame.ensures) _ c.frame_of-frame.ensures _ c.stage_of.ensures (sym c.if-out_of_place.ensures)

pub returns-then-held-size_of : goal.returns-then-held-size_of
returns-then-held-size_of c = line-wrong c.args.r _ _ _ c.line_held-held.ensures (sym c.if-no_frame.ensures) _ c.frame_of-frame.ensures _ c.stage_of.ensures (sym c.if-out_of_place.ensures) _ c.size_of.ensures c.if-held-size_of.true

pub said_judged-requires : goal.said_judged-requires
said_judged-requires c = line-ready c.args.r c.args.table.now c.args.marks.now _ c.line_held-held.ensures (sym c.if-no_frame.ensures) _ c.frame_of-frame.ensures _ c.stage_of.ensures (sym c.if-out_of_place.ensures) _ c.line_in-line.ensures

pub returns-in_err-said_judged : goal.returns-in_err-said_judged
returns-in_err-said_judged c = answered _ _ _ _ c.from_residual.ensures.1 (c.in_err-said_judged.ensures ∙ sym (line-said c.args.r _ _ _ c.line_held-held.ensures (sym c.if-no_frame.ensures) _ c.frame_of-frame.ensures _ c.stage_of.ensures (sym c.if-out_of_place.ensures) _ c.size_of.ensures c.if-held-size_of.false _ c.line_in-line.ensures))

pub returns : goal.returns
returns c = (line-said c.args.r _ _ _ c.line_held-held.ensures (sym c.if-no_frame.ensures) _ c.frame_of-frame.ensures _ c.stage_of.ensures (sym c.if-out_of_place.ensures) _ c.size_of.ensures c.if-held-size_of.false _ c.line_in-line.ensures ∙ c.in_ok-said_judged.ensures.0, line-read c.args.r c.args.table.now c.args.marks.now _ c.line_held-held.ensures (sym c.if-no_frame.ensures) _ c.frame_of-frame.ensures _ c.stage_of.ensures (sym c.if-out_of_place.ensures) _ c.size_of.ensures c.if-held-size_of.false _ c.line_in-line.ensures)
