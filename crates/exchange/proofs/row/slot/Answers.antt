-- `exchange::row::slot`: faulty, the sender, or a receiver who decides.
use Rattle.exchange.proofs.Slots
use Rattle.exchange.proofs.row.slot.Goals as goal

pub returns-then-faulty : goal.returns-then-faulty
returns-then-faulty c = Slots.slot-faulty _ _ _ c.if-faulty.ensures

pub returns-then-i-told : goal.returns-then-i-told
returns-then-i-told c = Slots.slot-sender _ _ _ c.if-faulty.ensures c.if-i-told.true

pub decide-requires : goal.decide-requires
decide-requires c = Slots.slot-ready _ _ _ _ _ c.args.told.now.given.judged c.requires c.if-i-told.false c.from.ensures c.to.ensures.route

pub returns-else-i-told : goal.returns-else-i-told
returns-else-i-told c = Slots.slot-decided _ _ _ c.if-faulty.ensures c.if-i-told.false _ _ _ _ c.from.ensures c.to.ensures.route c.decide.ensures
