-- `play::Session::new`: the reader begins over zeros.
use Rattle.play.proofs.Session.new.Goals as goal

pub returns : goal.returns
returns c = rw c.start.ensures
