-- `play::Session::read_all` meets its contract: after each read the reader was fed what came so far.
use Rattle.std.proofs.KnownBytes.{Keeps-refl}
use Rattle.play.proofs.Feeding.{from_kept, from_then, loses_none, loses_then}
use Rattle.play.proofs.Session.read_all.Goals as goal

pub loop-init : goal.loop-init
loop-init g c = record { fed = from_kept _ _ _ (Keeps-refl _); lost = loses_none _ }

pub returns-in_err-n-clause-taken : goal.returns-in_err-n-clause-taken
returns-in_err-n-clause-taken g c = search from_then

pub returns-then-n-eq0-clause-taken : goal.returns-then-n-eq0-clause-taken
returns-then-n-eq0-clause-taken g c = search from_then

pub loop-preserved : goal.loop-preserved
loop-preserved g c = record {
  fed = search from_then;
  lost = loses_then _ _ _ _ _ c.loop.invariant.lost (c.in_ok-n.ensures.more c.if-n-eq0.false);
}
