-- `answering::lines::put_nodes`: one line more.
use Rattle.std.proofs.Common.{arith, append-nil, length-append, length, ap}
use Rattle.rules.specs.Lists.{up_to}
use Rattle.scenario.specs.Answer.{text_of}
use Rattle.answering.specs.Finish.{row_text}
use Rattle.answering.proofs.AnswerText.{nodes_more, row-long}
use Rattle.answering.proofs.lines.put_nodes.Goals as goal

pub loop-i-init : goal.loop-i-init
unfolding row_text up_to text_of
loop-i-init c = rw append-nil

pub put_node-requires-clause-room : goal.put_node-requires-clause-room
put_node-requires-clause-room c =
    let e = ap length c.loop-i.invariant in omega (arith, e, length-append c.args.text.now (row_text c.args.s c.args.row.now c.loop-i.i), row-long c.args.s c.args.row.now c.loop-i.i)

pub loop-i-preserved : goal.loop-i-preserved
loop-i-preserved c = search nodes_more
