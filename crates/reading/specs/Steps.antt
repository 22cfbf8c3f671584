-- What the code asks before a line is carried out, and what it does, by what the line says.
use Rattle.std.specs.Prelude.{◌≡◌, ◌*◌, ◌≤◌, true, ℕ, length, replicate}
use Rattle.rules.specs.Words.{put_word}
use Rattle.rules.specs.Routes.{held, is_route}
use Rattle.rules.specs.Cells.{cells, cell}
use Rattle.rules.specs.Refusals.{settings_refusal}
use Rattle.rules.specs.declared.Route as R
use Rattle.scenario.specs.Marks.{mark, bits_of}
use Rattle.scenario.specs.Reasons.{Desk, desk}
use Rattle.scenario.specs.Judging.{one_more, after, closed}
use Rattle.scenario.specs.declared.Line.{Line}
use Rattle.scenario.specs.declared.Line.TheVariants.{Opening, Telling, Closing}
use Rattle.reading.specs.declared.judging.Desk as D

-- a reader with what is lent to it, as it is now
abbrev pub at : D.Desk → Desk
at d = desk d.reader d.table.now d.marks.now

-- it has become this one, and the same table and marks are lent to it
abbrev pub Moved : D.Desk → D.Desk → Desk → Type 0
Moved before now x = (at now ≡ x) × (now.table.ghost_name ≡ before.table.ghost_name) × (now.marks.ghost_name ≡ before.marks.ghost_name)

-- what it asks before it does what an accepted `02` line does
pub record Tellable (d : Desk) (route : R.Route) : Type 0 where
  pub settings : settings_refusal d.reader.settings ≡ 0
  pub routed : is_route d.reader.settings.n d.reader.settings.m d.reader.settings.sender (held route) ≡ true
  pub room : 2 * cells d.reader.settings.n d.reader.settings.m ≤ length d.table
  pub bits : cells d.reader.settings.n d.reader.settings.m ≤ bits_of d.marks

-- and before it does what any accepted line does
abbrev pub Acceptable : Desk → Line → Type 0
Acceptable d (Opening s) = Unit {0}
Acceptable d (Telling route word) = Tellable d route
Acceptable d (Closing count) = Unit {0}

-- what an accepted `02` line does
abbrev pub told_by : Desk → R.Route → ℕ → Desk
told_by d route word =
    let r = d.reader in
    let c = cell r.settings.n r.settings.sender (held route) in
    record { reader = after r 1 r.settings (one_more r.given) 0; table = put_word d.table c word; marks = mark d.marks c }

-- and what any accepted line does
abbrev pub done : Desk → Line → Desk
done d (Opening s) = record { reader = after d.reader 1 s 0 0; table = replicate (length d.table) 0; marks = replicate (length d.marks) 0 }
done d (Telling route word) = told_by d route word
done d (Closing count) = closed d
