-- `answering::lines::put_node`: a node's line.
use Rattle.answering.proofs.AnswerText.{node_line}
use Rattle.answering.proofs.lines.put_node.Goals as goal

pub returns : goal.returns
returns c = search node_line
