-- `answering::ending::refused_text`: the one line.
use Rattle.std.proofs.Common.{arith}
use Rattle.answering.proofs.AnswerText.{refusal_line}
use Rattle.answering.proofs.ending.refused_text.Goals as goal

pub returns : goal.returns
returns c = refusal_line _ _ (omega arith) _ c.to_be_bytes.ensures _ _ c.new-text.ensures c.put_line.ensures
