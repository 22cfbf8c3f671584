-- `answering::ending::write_played`: nothing where the answer does not fit.
use Rattle.std.proofs.Common.{arith}
use Rattle.answering.proofs.Playing.{answer_short}
use Rattle.answering.proofs.ending.write_played.Goals as goal

pub returns-then-out-s : goal.returns-then-out-s
returns-then-out-s c = answer_short _ _ _ (omega (arith, c.if-out-s.true))
