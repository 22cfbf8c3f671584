-- `answering::text::Text::copy_to`: nothing where the text does not fit.
use Rattle.std.proofs.Common.{arith}
use Rattle.answering.proofs.AnswerText.{no_room, copied}
use Rattle.answering.proofs.text.Text.copy_to.Goals as goal

pub returns-then-out-n : goal.returns-then-out-n
returns-then-out-n c = no_room _ _ c.self.inside.bytes _ c.self.view_is (omega arith) (omega (arith, c.if-out-n.true))

pub returns : goal.returns
returns c = copied _ _ c.self.inside.bytes _ c.self.view_is (omega arith) (omega (arith, c.if-out-n.false)) _ c.copy_from_slice.ensures.after
