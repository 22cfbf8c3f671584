-- `answering::ending::finish`: refused, or played.
use mathlib.Core.Path.{refl}
use Rattle.answering.proofs.EndOfInput.{says_played, says_refused}
use Rattle.answering.proofs.ending.finish.Goals as goal

pub returns-in-Ok : goal.returns-in-Ok
returns-in-Ok c = rw (← (says_played c.args.r c.args.table.now _ c.in-Ok.ensures.0 refl)) c.write_played.ensures

pub returns-in-Err : goal.returns-in-Err
returns-in-Err c = rw (← (says_refused _ _ _ _ c.in-Err.ensures refl)) c.write_refusal.ensures
