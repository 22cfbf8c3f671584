-- `reading::judging::Desk::tell`: the route has a cell, and there is room for its word and its mark.
use Rattle.reading.specs.Steps.{at}
use Rattle.reading.proofs.Accepting.{has-cell, word_room, mark-room}
use Rattle.reading.proofs.judging.Desk.tell.Goals as goal

pub unwrap-cell-requires : goal.unwrap-cell-requires
unwrap-cell-requires c = has-cell (at c.args.self.now) c.args.route c.requires c.cell_of_route.result c.cell_of_route.ensures

pub put_word-requires : goal.put_word-requires
put_word-requires c = word_room (at c.args.self.now) c.args.route c.requires c.cell_of_route.result c.cell_of_route.ensures c.unwrap-cell.result c.unwrap-cell.ensures

pub set_mark-requires : goal.set_mark-requires
set_mark-requires c = mark-room (at c.args.self.now) c.args.route c.requires c.cell_of_route.result c.cell_of_route.ensures c.unwrap-cell.result c.unwrap-cell.ensures
