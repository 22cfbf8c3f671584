-- `exchange::exchange`: refused, or played.
use Rattle.std.proofs.lemmas.Result.{err_from_is_err_and}
use Rattle.exchange.proofs.Playing
use Rattle.exchange.proofs.exchange.Goals as goal

pub returns-in_err-settings : goal.returns-in_err-settings
returns-in_err-settings c =
    let p = err_from_is_err_and c.from_residual.result c.from_residual.ensures.1 in
    record {
      answer = rw (p.1, p.2) c.in_err-settings.ensures;
      row = Playing.refused-row _ _ _ _ c.in_err-settings.ensures;
    }

pub invariant_of-play : goal.invariant_of-play
invariant_of-play c = record { given = Playing.plays _ _ _ c.in_ok-settings.ensures.0 _ c.in_ok-settings.ensures.1 }

pub play-ties-requires : goal.play-ties-requires
play-ties-requires c = Playing.row-fits _ _ _ c.in_ok-settings.ensures.0 _ c.in_ok-settings.ensures.1

pub overflow_cast-messages : goal.overflow_cast-messages
overflow_cast-messages c = Playing.messages-fit _ _ _ c.in_ok-settings.ensures.0

pub returns : goal.returns
returns c = record {
  answer = (
    c.in_ok-settings.ensures.0,
    Playing.played-summary _ _ _ c.in_ok-settings.ensures.0 _ _ _ c.in_ok-settings.ensures.1 c.class_of-fault_class.ensures c.play-ties.ensures.ties,
  );
  row = Playing.played-row _ _ _ c.in_ok-settings.ensures.0 _ _ c.in_ok-settings.ensures.1 c.play-ties.ensures.row;
}
