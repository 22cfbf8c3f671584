use Rattle.settings.specs.Judged.{settings_of}
use Rattle.exchange.proofs.Slots
use Rattle.exchange.proofs.row.play.Given as goal

abbrev pub invariant-loop-i : goal.invariant-loop-i
invariant-loop-i l = Slots.Written (settings_of l.told.settings) l.told.table.now l.row l.ties l.i
