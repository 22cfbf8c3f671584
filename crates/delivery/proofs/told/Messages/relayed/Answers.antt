-- `delivery::told::Messages::relayed`: the same with one relay more.
use Rattle.delivery.proofs.Passing
use Rattle.delivery.proofs.told.Messages.relayed.Goals.{then-path-eq1, else-path-eq1}
use Rattle.delivery.proofs.told.Messages.relayed.Goals as goal

pub faulty-requires : goal.faulty-requires
faulty-requires c = Passing.relay-lt _ _ c.args.self.now.given _ _ c.requires

pub in_cell-requires : goal.in_cell-requires
in_cell-requires c = Passing.relay-told _ _ c.args.self.now.given _ _ c.requires _ c.extended.ensures

pub returns-then-faulty : goal.returns-then-faulty
returns-then-faulty c = Passing.relay-cell _ _ c.args.self.now.given _ _ c.requires _ _ c.extended.ensures c.if-faulty.ensures c.in_cell.ensures

pub delivered-requires : goal.delivered-requires
delivered-requires c = Passing.relay-told _ _ c.args.self.now.given _ _ c.requires _ c.extended-then-meets.ensures

pub returns-then-meets : goal.returns-then-meets
returns-then-meets c = Passing.relay-row _ _ c.args.self.now.given _ _ c.requires _ c.extended-then-meets.ensures _ c.delivered.ensures

pub sent-requires : goal.sent-requires
sent-requires c =
    Passing.relay-sent _ c.args.self.now.table.now c.args.self.now.given _ _ c.requires _ (elim c.if-path-eq1.branch [
      | then-path-eq1 w ↦ Passing.begins-relay _ _ c.args.self.now.given _ _ c.requires _ w.if-path-eq1.true w.first-is
      | else-path-eq1 w ↦ Passing.begins-first _ _ c.args.self.now.given _ _ c.requires _ w.if-path-eq1.false w.first-is
    ])

pub returns : goal.returns
returns c =
    Passing.relay-heard _ _ c.args.self.now.given _ _ c.requires _ (elim c.if-path-eq1.branch [
      | then-path-eq1 w ↦ Passing.begins-relay _ _ c.args.self.now.given _ _ c.requires _ w.if-path-eq1.true w.first-is
      | else-path-eq1 w ↦ Passing.begins-first _ _ c.args.self.now.given _ _ c.requires _ w.if-path-eq1.false w.first-is
    ]) _ _ c.args.path.marks (Passing.none-met _ _ c.if-meets.ensures) c.if-faulty.ensures c.sent.ensures
