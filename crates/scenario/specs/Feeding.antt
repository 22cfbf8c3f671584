-- A file taken as its bytes come. No more than 19 bytes of a line are kept; 19 mean that it is too long.
use Rattle.std.specs.Prelude.{ℕ, ◌+◌, cond, take, set, eqb, ltb}
use mathlib.Core.List.{List, foldl}
use Rattle.scenario.specs.Lines.{line_end}
use Rattle.scenario.specs.Reasons.{Desk, stopped}
use Rattle.scenario.specs.Judging.{judged}
use Rattle.scenario.specs.Answer.{answer_of}
use Rattle.scenario.specs.declared.Reader.{Reader}

-- the line begun, as far as it is kept
abbrev pub line_held : Reader → List ℕ
line_held r = take r.count r.held

-- one more byte of the line begun
unfoldable pub keeping : Reader → ℕ → Reader
keeping r b = cond (ltb r.count 19) (record {
  stage = r.stage;
  settings = r.settings;
  given = r.given;
  lines = r.lines;
  refusal = r.refusal;
  held = set r.held r.count b;
  count = r.count + 1;
}) r

abbrev pub with_reader : Desk → Reader → Desk
with_reader d r = record { reader = r; table = d.table; marks = d.marks }

-- one byte: LF has the line judged, any other belongs to the line; after a refused line nothing changes
unfoldable pub taken : Desk → ℕ → Desk
taken d b =
    let r = d.reader in
    cond (stopped r) d (cond (eqb b line_end) (judged d (line_held r)) (with_reader d (keeping r b)))

-- a piece of the file, and piece after piece
abbrev pub fed : Desk → List ℕ → Desk
fed d piece = foldl taken d piece

abbrev pub fed_all : Desk → List (List ℕ) → Desk
fed_all d pieces = foldl fed d pieces

-- the answer at the end of the input
abbrev pub finished : Reader → List ℕ → List ℕ
finished r table = answer_of r table (line_held r)
