-- `delivery::told::Messages::arrives`: where no number on a route is faulty, what the sender told the first.
use Rattle.delivery.proofs.Passing
use Rattle.delivery.proofs.told.Messages.arrives.Goals as goal

pub sent-requires : goal.sent-requires
sent-requires c = Passing.first-sent _ c.args.self.now.table.now _ c.requires

pub returns : goal.returns
returns c =
    Passing.first-heard _ _ _ c.requires _ _ c.args.path.marks (Passing.none-met _ _ c.if-meets.ensures) c.sent.ensures
