-- How the code takes the refusals of a line apart: those of what is lent and those of what each kind of line says as one number. Each
-- name is short for what the pages of `scenario` define.
use Rattle.std.specs.Prelude.{ℕ, ◌≡◌, ◌∷◌, ◌++◌, length, not, eqb}
use Rattle.rules.specs.Routes.{held}
use Rattle.rules.specs.Cells.{cell}
use Rattle.rules.specs.Refusals.{because, first, no_route, settings_reasons, settings_refusal}
use Rattle.rules.specs.declared.Settings.{Settings}
use Rattle.rules.specs.declared.Route as R
use Rattle.scenario.specs.Marks.{marked}
use Rattle.scenario.specs.Reasons.{Desk, lent_reasons, lent_for}
use Rattle.scenario.specs.declared.Reader.{Reader}
use Rattle.scenario.specs.declared.Line.{Line}
use Rattle.scenario.specs.declared.Line.TheVariants.{Opening, Telling, Closing}

-- 8 and 10, for so many bytes of table and marks
abbrev pub lent_refusal : Settings → ℕ → ℕ → ℕ
lent_refusal s table marks = first (lent_reasons s table marks)

-- what an `01` line with these settings is refused for; it looks at no reader
abbrev pub open_refusal : Settings → ℕ → ℕ → ℕ
open_refusal s table marks = first (settings_reasons s ++ lent_reasons s table marks)

-- an `02` line with this route
abbrev pub tell_refusal : Desk → R.Route → ℕ
tell_refusal d route =
    let s = d.reader.settings in
    first (because 23 (no_route s.n s.m s.sender route) ∷ because 24 (marked d.marks (cell s.n s.sender (held route))) ∷ lent_for s d)

-- an `03` line with this count
abbrev pub close_refusal : Desk → ℕ → ℕ
close_refusal d count = first (because 25 (not (eqb count d.reader.given)) ∷ lent_for d.reader.settings d)

-- and any line
abbrev pub said_refusal : Desk → Line → ℕ
said_refusal d (Opening s) = open_refusal s (length d.table) (length d.marks)
said_refusal d (Telling route word) = tell_refusal d route
said_refusal d (Closing count) = close_refusal d count

-- what a line needs before it is asked for these: settings that were accepted, unless it brings them
abbrev pub Ready : Reader → Line → Type 0
Ready r (Opening s) = Unit {0}
Ready r (Telling route word) = settings_refusal r.settings ≡ 0
Ready r (Closing count) = settings_refusal r.settings ≡ 0
