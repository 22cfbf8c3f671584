-- What `finish` leaves in the buffer that is lent to it, and what it returns. The answer stands in the buffer's first bytes, and the
-- bytes behind it stay as they were. An answer that the buffer cannot hold is not written at all, and 0 is returned: an
-- answer has 180 bytes at the most and never none.
use Rattle.std.specs.Prelude.{ℕ, ◌+◌, ◌*◌, ◌≤◌, ◌<◌, ◌≡◌, ◌≢◌, List, [], ◌∷◌, ◌++◌, map, Bool, cond, length, drop, get_or, leb, Result, Ok, Err}
use Rattle.rules.specs.Lists.{up_to}
use Rattle.rules.specs.Cells.{cells}
use Rattle.rules.specs.Refusals.{settings_refusal}
use Rattle.rules.specs.declared.Settings.{Settings}
use Rattle.rules.specs.declared.Summary.{Summary}
use Rattle.scenario.specs.File.{end_refusal, refused_line}
use Rattle.scenario.specs.Answer.{role_of, text_of}
use Rattle.scenario.specs.Feeding.{line_held}
use Rattle.scenario.specs.declared.Reader.{Reader}
use Rattle.answering.specs.declared.ending.Refused.{Refused}
use Rattle.answering.specs.declared.lines.Role.{Role}
use Rattle.answering.specs.declared.lines.Role.TheVariants.{Sender, Receiver, Faulty}

-- the buffer holds the whole text
unfoldable pub holds : List ℕ → List ℕ → Bool
holds out text = leb (length text) (length out)

-- the buffer afterwards
unfoldable pub out_after : List ℕ → List ℕ → List ℕ
out_after out text = cond (holds out text) (text ++ drop (length text) out) out

-- how many bytes of it are the answer
unfoldable pub length_after : List ℕ → List ℕ → ℕ
length_after out text = cond (holds out text) (length text) 0

-- ---- how the code takes the answer apart: a node's line is made from the decision row

unfoldable pub row_frame : Settings → List ℕ → ℕ → List ℕ
row_frame s row i = 0x11 ∷ i ∷ role_of s i ∷ get_or row (2 * i) 0 ∷ get_or row (2 * i + 1) 0 ∷ []

unfoldable pub row_text : Settings → List ℕ → ℕ → List ℕ
row_text s row k = text_of (map (row_frame s row) (up_to k))

-- the number that stands for a role in a node's line
abbrev pub role_number : Role → ℕ
role_number Sender = 0
role_number Receiver = 1
role_number Faulty = 2

-- ---- what the code finds at the end, and asks before it writes

-- a summary whose numbers fit their places in its line
pub record SummaryFits (y : Summary) : Type 0 where
  pub faults : y.faults < 256
  pub fault-class : y.fault_class < 256
  pub ties : y.ties < 65536
  pub messages : y.messages < 65536

-- settings that were accepted, and a table long enough for them
pub record Playable (s : Settings) (table : List ℕ) : Type 0 where
  pub settings : settings_refusal s ≡ 0
  pub long : 2 * cells s.n s.m ≤ length table

-- whether a file is refused, and what is said of it then
abbrev pub Ended : Reader → List ℕ → Result (Unit {0}) Refused → Type 0
Ended r table (Ok x) = (end_refusal r table (line_held r) ≡ 0) × Playable r.settings table
Ended r table (Err e) = (e.number ≡ end_refusal r table (line_held r)) × (e.number ≢ 0) × (e.line ≡ refused_line r)
