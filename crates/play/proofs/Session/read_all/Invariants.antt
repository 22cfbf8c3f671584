-- After some reads the reader was fed what came so far.
use Rattle.play.specs.Pieces.{FedFrom, Loses}
use Rattle.play.proofs.Session.read_all.Given as goal

abbrev pub invariant-loop : goal.invariant-loop
invariant-loop g l = record {
  fed : FedFrom (g.R.Read.remaining l.fn.input) (g.R.Read.remaining l.input) l.fn.self l.self;
  lost : Loses (g.R.Read.remaining l.fn.input) (g.R.Read.remaining l.input) l.counter;
}
