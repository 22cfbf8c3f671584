-- `answering::ending::played_text`: the exchange on the first 2M bytes, and a line for each node and the summary.
use Rattle.std.proofs.Common.{◌≡◌, arith, ap, length}
use Rattle.rules.specs.Exchange.{row_of}
use Rattle.rules.proofs.DecisionRow.{row-length}
use Rattle.scenario.specs.File.{table_given}
use Rattle.settings.proofs.Depths.{settings-deep}
use Rattle.answering.proofs.Playing.{facts, row_few, row_part, is_played, summary_played, row_played, summary_fits, nodes_long, text_whole}
use Rattle.answering.proofs.ending.played_text.Goals as goal

pub message_count-bytes-requires : goal.message_count-bytes-requires
message_count-bytes-requires c = search settings-deep

pub slice_bounds-room-end : goal.slice_bounds-room-end
slice_bounds-room-end c = search row_few

pub slice_bounds-row-end : goal.slice_bounds-row-end
slice_bounds-row-end c = search row_part

pub unwrap-summary-requires : goal.unwrap-summary-requires
unwrap-summary-requires c = search is_played

pub put_nodes-requires-clause-few : goal.put_nodes-requires-clause-few
put_nodes-requires-clause-few c = (facts _ _ c.requires).fifteen

pub put_nodes-requires-clause-words : goal.put_nodes-requires-clause-words
put_nodes-requires-clause-words c =
    let e : c.exchange.new.row ≡ row_of c.args.s (table_given c.args.s c.args.table.now) = search row_played in
    rw e (row-length c.args.s _)

pub put_nodes-requires-clause-room : goal.put_nodes-requires-clause-room
put_nodes-requires-clause-room c = omega (arith, (facts _ _ c.requires).fifteen, ap length c.new-text.ensures)

pub put_summary-requires-clause-fits : goal.put_summary-requires-clause-fits
put_summary-requires-clause-fits c = search (summary_fits, summary_played)

pub put_summary-requires-clause-room : goal.put_summary-requires-clause-room
put_summary-requires-clause-room c = omega (arith, (facts _ _ c.requires).fifteen, nodes_long c.args.s c.exchange.new.row _ _ c.new-text.ensures c.put_nodes.ensures)

pub returns : goal.returns
returns c = search (text_whole, summary_played, row_played)
