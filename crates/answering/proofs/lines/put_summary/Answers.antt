-- `answering::lines::put_summary`: the summary's line.
use Rattle.answering.proofs.AnswerText.{summary_line}
use Rattle.answering.proofs.lines.put_summary.Goals as goal

pub returns : goal.returns
returns c = search summary_line
