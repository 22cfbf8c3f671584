-- `delivery::told::Messages::sent`: the sender's value, or what the cell of that node holds.
use Rattle.std.proofs.Common.{arith}
use Rattle.rules.proofs.Receivers.{receiver-below}
use Rattle.delivery.proofs.Passing
use Rattle.delivery.proofs.told.Messages.sent.Goals as goal

pub returns-then-not-faulty : goal.returns-then-not-faulty
returns-then-not-faulty c = Passing.sent-value _ _ _ c.if-not-faulty.ensures

pub to-requires : goal.to-requires
to-requires c = omega (arith, receiver-below _ _ _ _ c.requires, c.args.self.now.given.judged.fifteen)

pub in_cell-requires : goal.in_cell-requires
in_cell-requires c = Passing.sent-told _ _ _ _ c.requires c.to.ensures.route

pub returns : goal.returns
returns c = Passing.sent-cell _ _ _ _ _ _ c.if-not-faulty.ensures c.to.ensures.route c.in_cell.ensures
