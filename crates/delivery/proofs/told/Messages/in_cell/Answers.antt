-- `delivery::told::Messages::in_cell`: the cell lies in the table.
use Rattle.delivery.proofs.Delivering
use Rattle.delivery.proofs.told.Messages.in_cell.Goals as goal

pub plain_at-requires : goal.plain_at-requires
plain_at-requires c = Delivering.told-room _ _ c.args.self.now.given _ c.requires _ c.cell_at.ensures
