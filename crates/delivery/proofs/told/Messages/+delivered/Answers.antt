-- `delivery::told::Messages::delivered`: the cell of a faulty teller, and else what the teller was told.
use Rattle.delivery.proofs.Delivering
use Rattle.delivery.proofs.told.Messages.+delivered.Goals as goal

pub faulty-requires : goal.faulty-requires
faulty-requires t c = search Delivering.teller-lt

pub returns-then-faulty : goal.returns-then-faulty
returns-then-faulty t c =
    Delivering.told-cell _ _ c.args.self.now.given _ c.requires _ c.teller_of.ensures _ c.if-faulty.ensures c.in_cell.ensures

pub returns-then-heard-eq0 : goal.returns-then-heard-eq0
returns-then-heard-eq0 t c = search Delivering.told-value

pub delivered-requires : goal.delivered-requires
delivered-requires t c = (search Delivering.told-falls, search Delivering.told-shorter)

pub returns : goal.returns
returns t c = search Delivering.told-on
