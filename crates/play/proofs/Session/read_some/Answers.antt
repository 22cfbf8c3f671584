-- `play::Session::read_some` meets its contract: what came was fed, and where a read failed nothing was.
use Rattle.play.proofs.Feeding.{from_kept, fed_piece, from_piece}
use Rattle.play.proofs.Session.read_some.Goals as goal

pub returns-in_err-n-clause-taken : goal.returns-in_err-n-clause-taken
returns-in_err-n-clause-taken g c = search (from_kept, c.in_err-n.ensures)

pub returns-clause-fed : goal.returns-clause-fed
returns-clause-fed g c = search fed_piece

pub returns-clause-taken : goal.returns-clause-taken
returns-clause-taken g c = search (from_piece, c.in_ok-n.ensures)
