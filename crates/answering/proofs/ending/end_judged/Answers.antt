-- `answering::ending::end_judged`: test by test.
use Rattle.std.proofs.Common.{rules, ◌≡◌, length}
use Rattle.settings.proofs.Depths.{settings-deep}
use Rattle.answering.proofs.EndOfInput.{is_closed, not_closed, line_refused, ends_early, ends_unfinished, settled, cells_doubled, ends_short, ends_whole}
use Rattle.answering.proofs.ending.end_judged.Goals as goal
use Rattle.answering.proofs.ending.end_judged.Goals.{then-ne-via-then-ne, then-ne-via-else-ne+then-r-ne0-2}

pub returns-then-r-ne0 : goal.returns-then-r-ne0
returns-then-r-ne0 c = search line_refused

pub returns-then-ne : goal.returns-then-ne
returns-then-ne c =
    let whole : length c.args.r.held ≡ 19 = search rules in
    elim c.then-ne.branch [
      | then-ne-via-then-ne w ↦ ends_early _ _ c.if-r-ne0.false _ c.stage_of.ensures _ c.into.ensures (not_closed _ _ c.ne.ensures w.if-ne.true)
      | then-ne-via-else-ne+then-r-ne0-2 w ↦
          ends_unfinished _ _ c.if-r-ne0.false _ c.stage_of.ensures (is_closed _ _ c.ne.ensures w.if-ne.false) _ c.into.ensures whole w.if-r-ne0-2.true
    ]

pub message_count-requires : goal.message_count-requires
message_count-requires c = search (settings-deep, settled, is_closed)

pub overflow_mul-message_count : goal.overflow_mul-message_count
overflow_mul-message_count c = search (cells_doubled, is_closed)

pub returns-then-table-message_count : goal.returns-then-table-message_count
returns-then-table-message_count c = search (ends_short, is_closed)

pub returns : goal.returns
returns c =
    ends_whole _ _ c.if-r-ne0.false _ c.stage_of.ensures (is_closed _ _ c.ne.ensures c.if-ne.false) c.if-r-ne0-2.false _ c.message_count.ensures
    c.if-table-message_count.false
