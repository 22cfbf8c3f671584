-- `exchange::row::play`: the slots of the nodes below so far stand in the row.
use Rattle.std.proofs.Common.{arith}
use Rattle.exchange.proofs.Slots
use Rattle.exchange.proofs.row.play.Goals as goal

pub loop-i-init : goal.loop-i-init
loop-i-init c = search Slots.written_none

pub overflow_add-ties : goal.overflow_add-ties
overflow_add-ties c = Slots.written-ties _ _ _ _ _ c.args.told.now.given c.loop-i.invariant c.loop-i-test.true _ c.slot-d.ensures

pub loop-i-preserved : goal.loop-i-preserved
loop-i-preserved c =
    Slots.written-more _ _ _ _ _ c.args.told.now.given c.loop-i.invariant _ _ _ c.loop-i-test.true c.slot-d.ensures c.from.ensures c.put_word.ensures

pub returns : goal.returns
returns c = record {
  ties = Slots.written-ties-all _ _ _ _ _ c.loop-i.invariant (omega arith);
  row = Slots.written_row _ _ _ _ _ c.loop-i.invariant (omega arith);
}
