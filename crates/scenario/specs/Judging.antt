-- One line judged: what it does to the reader, the lent table and the lent marks.
use Rattle.std.specs.Prelude.{ℕ, ◌+◌, cond, length, replicate, eqb, ltb}
use mathlib.Core.List.{List, foldl}
use Rattle.rules.specs.Words.{put_word}
use Rattle.rules.specs.declared.Settings.{Settings}
use Rattle.scenario.specs.Hex.{frame_of}
use Rattle.scenario.specs.Frames.{kind_of, settings_in, word_told}
use Rattle.scenario.specs.Marks.{mark}
use Rattle.scenario.specs.Reasons.{Desk, stopped, cell_in, line_refusal}
use Rattle.scenario.specs.declared.Reader.{Reader}

-- One more, in a word. A reader that was never out of our hands counts no further than 26,407, so the bound is met only by one
-- that was forged.
unfoldable pub one_more : ℕ → ℕ
one_more k = cond (ltb k 65535) (k + 1) k

-- a reader after a line, with nothing held
unfoldable pub after : Reader → ℕ → Settings → ℕ → ℕ → Reader
after r stage s given refusal = record {
  stage = stage;
  settings = s;
  given = given;
  lines = one_more r.lines;
  refusal = refusal;
  held = replicate 19 0;
  count = 0;
}

-- an accepted `01` line sets every byte of table and marks to 0
unfoldable pub opened : Desk → List ℕ → Desk
opened d frame = record {
  reader = after d.reader 1 (settings_in frame) 0 0;
  table = replicate (length d.table) 0;
  marks = replicate (length d.marks) 0;
}

-- an accepted `02` line writes its word as given into its cell and sets that cell's mark
unfoldable pub told : Desk → List ℕ → Desk
told d frame =
    let r = d.reader in
    let c = cell_in r.settings frame in
    record { reader = after r 1 r.settings (one_more r.given) 0; table = put_word d.table c (word_told frame); marks = mark d.marks c }

-- an accepted `03` line changes neither
unfoldable pub closed : Desk → Desk
closed d =
    let r = d.reader in
    record { reader = after r 2 r.settings r.given 0; table = d.table; marks = d.marks }

-- nor does a refused line; the reader holds its number, and its count of lines stays at that line
unfoldable pub refused_with : Desk → ℕ → Desk
refused_with d k =
    let r = d.reader in
    record { reader = after r r.stage r.settings r.given k; table = d.table; marks = d.marks }

unfoldable pub accepted : Desk → List ℕ → Desk
accepted d frame = cond (eqb (kind_of frame) 1) (opened d frame) (cond (eqb (kind_of frame) 2) (told d frame) (closed d))

-- a line that is refused with a number, or accepted where the number is 0
unfoldable pub settled : Desk → ℕ → Desk → Desk
settled d k done = cond (eqb k 0) done (refused_with d k)

-- one line
unfoldable pub judged : Desk → List ℕ → Desk
judged d line = cond (stopped d.reader) d (settled d (line_refusal d line) (accepted d (frame_of line)))

-- lines in their order
abbrev pub judged_all : Desk → List (List ℕ) → Desk
judged_all d lines = foldl judged d lines
