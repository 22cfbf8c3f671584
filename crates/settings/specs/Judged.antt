-- Judged settings are the settings, held in fewer bytes; so are judged nodes and rounds.
use Rattle.std.specs.Prelude.{ℕ, ◌≡◌}
use Rattle.rules.specs.declared.Settings.{Settings}
use Rattle.settings.specs.declared.Judged as J
use Rattle.settings.specs.declared.Layout as L

abbrev pub settings_of : J.Judged → Settings
settings_of j = record { n = j.n; m = j.m; u = j.u; sender = j.sender; value = j.value; faults = j.faults }

abbrev pub LaidOut : ℕ → ℕ → L.Layout → Type 0
LaidOut n m l = (l.n ≡ n) × (l.m ≡ m)
