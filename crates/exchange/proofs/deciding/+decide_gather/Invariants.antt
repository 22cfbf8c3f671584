-- A decision of so many rounds gathers entries of as many, and those are decisions of one round less.
use Rattle.std.proofs.Common.{◌+◌, ◌-◌}
use Rattle.settings.specs.Judged.{settings_of}
use Rattle.exchange.proofs.Gathering
use Rattle.exchange.proofs.deciding.+decide_gather.Given as goal

abbrev pub decreases-decide : goal.decreases-decide
decreases-decide l = l.left + l.left

abbrev pub decreases-gather : goal.decreases-gather
decreases-gather l = l.left + l.left - 1

abbrev pub invariant-gather-loop-j : goal.invariant-gather-loop-j
invariant-gather-loop-j l = Gathering.Held (settings_of l.told.settings) l.told.table.now l.path.route l.left l.entries-inside.bytes l.count l.ties l.j
