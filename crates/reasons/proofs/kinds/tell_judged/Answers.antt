-- `reasons::kinds::tell_judged`: the route, its mark, and then what is lent.
use Rattle.std.proofs.Common.{sym}
use Rattle.reasons.proofs.KindCascade.{routeless-line, given-twice, told-once}
use Rattle.reasons.proofs.kinds.tell_judged.Goals as goal

pub returns-in_default : goal.returns-in_default
returns-in_default c = routeless-line c.args.r c.args.table.now c.args.marks.now c.args.route c.requires _ c.in_default.ensures

pub returns-then-is_marked : goal.returns-then-is_marked
returns-then-is_marked c = given-twice c.args.r c.args.table.now c.args.marks.now c.args.route c.in-Ok.cell c.in-Ok.ensures (sym c.if-is_marked.ensures)

pub returns : goal.returns
returns c =
    rw (told-once c.args.r c.args.table.now c.args.marks.now c.args.route c.in-Ok.cell c.in-Ok.ensures (sym c.if-is_marked.ensures)) c.lent_judged.ensures
