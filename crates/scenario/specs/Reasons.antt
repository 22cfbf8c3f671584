-- Why a line is refused: one condition for each number, and the numbers in their order. A line is the bytes before its LF.
use Rattle.std.specs.Prelude.{ℕ, ◌+◌, ◌*◌, ◌%◌, List, [], ◌∷◌, ◌++◌, Bool, not, ◌&&◌, ◌||◌, cond, length, eqb, ltb}
use Rattle.rules.specs.Lists.{all}
use Rattle.rules.specs.Routes.{held}
use Rattle.rules.specs.Cells.{cells, cell}
use Rattle.rules.specs.Refusals.{Reason, because, first, no_route, settings_reasons, settings_refusal}
use Rattle.rules.specs.declared.Settings.{Settings}
use Rattle.scenario.specs.Hex.{is_digit, frame_of}
use Rattle.scenario.specs.Frames.{byte_in, kind_of, settings_in, route_in, count_in}
use Rattle.scenario.specs.Marks.{marked}
use Rattle.scenario.specs.declared.Reader.{Reader}
use Rattle.scenario.specs.declared.Stage.{Stage}
use Rattle.scenario.specs.declared.Stage.TheVariants.{Before, Opened, Closed}

-- a reader with what was lent to it
pub record Desk : Type 0 where
  pub reader : Reader
  pub table : List ℕ
  pub marks : List ℕ

abbrev pub desk : Reader → List ℕ → List ℕ → Desk
desk r table marks = record { reader = r; table = table; marks = marks }

-- The reader passes through the host's hands. One with settings that would be refused, or at no known stage, has met no `01` line.
unfoldable pub stage_of : Reader → ℕ
stage_of r = cond (eqb (settings_refusal r.settings) 0 && ltb r.stage 3) r.stage 0

-- the number by which a reader holds each stage
abbrev pub stage_number : Stage → ℕ
stage_number Before = 0
stage_number Opened = 1
stage_number Closed = 2

-- a line was refused: nothing that follows is looked at
abbrev pub stopped : Reader → Bool
stopped r = not (eqb r.refusal 0)

-- the most digits of a line
abbrev pub longest : ℕ
longest = 18

-- 20: no digits, an odd number, more than 18, or a byte that is not 0-9 or A-F
unfoldable pub no_frame : List ℕ → Bool
no_frame line = eqb (length line) 0 || not (eqb (length line % 2) 0) || ltb longest (length line) || not (all is_digit line)

-- an `01` line comes first, then `02` lines and the `03` line, and after that no line
unfoldable pub in_place : ℕ → ℕ → Bool
in_place stage kind = (eqb stage 0 && eqb kind 1) || (eqb stage 1 && (eqb kind 2 || eqb kind 3))

-- 21: an unknown kind or one out of place
unfoldable pub out_of_place : ℕ → ℕ → Bool
out_of_place stage kind = not (in_place stage kind)

-- the byte count of a frame's kind
unfoldable pub size_of : List ℕ → ℕ
size_of frame = cond (eqb (kind_of frame) 1) 9 (cond (eqb (kind_of frame) 2) (4 + byte_in frame 1) 3)

-- 22: a byte count not the kind's
unfoldable pub wrong_size : List ℕ → Bool
wrong_size frame = not (eqb (length frame) (size_of frame))

-- the cell of an `02` frame
unfoldable pub cell_in : Settings → List ℕ → ℕ
cell_in s frame = cell s.n s.sender (held (route_in frame))

-- 23: L and the nodes form no route
unfoldable pub routeless : Settings → List ℕ → Bool
routeless s frame = no_route s.n s.m s.sender (route_in frame)

-- 24: a cell given before
unfoldable pub given_before : Settings → List ℕ → List ℕ → Bool
given_before s marks frame = marked marks (cell_in s frame)

-- 25: a wrong count in `03`
unfoldable pub wrong_count : ℕ → List ℕ → Bool
wrong_count given frame = not (eqb (count_in frame) given)

-- 8: the lent table is shorter than 2M bytes
unfoldable pub short_table : Settings → ℕ → Bool
short_table s bytes = ltb bytes (2 * cells s.n s.m)

-- 10: the lent marks have fewer than M bits
unfoldable pub short_marks : Settings → ℕ → Bool
short_marks s bytes = ltb (8 * bytes) (cells s.n s.m)

-- on any line, after that line's other refusals, with so many bytes of table and marks
unfoldable pub lent_reasons : Settings → ℕ → ℕ → List Reason
lent_reasons s table marks = because 8 (short_table s table) ∷ because 10 (short_marks s marks) ∷ []

abbrev pub lent_for : Settings → Desk → List Reason
lent_for s d = lent_reasons s (length d.table) (length d.marks)

-- the refusals that are an `01` line's own, an `02` line's and an `03` line's
unfoldable pub open_reasons : Desk → List ℕ → List Reason
open_reasons d frame = settings_reasons (settings_in frame) ++ lent_for (settings_in frame) d

unfoldable pub tell_reasons : Desk → List ℕ → List Reason
tell_reasons d frame =
    let s = d.reader.settings in
    because 23 (routeless s frame) ∷ because 24 (given_before s d.marks frame) ∷ lent_for s d

unfoldable pub close_reasons : Desk → List ℕ → List Reason
close_reasons d frame = because 25 (wrong_count d.reader.given frame) ∷ lent_for d.reader.settings d

unfoldable pub kind_reasons : Desk → List ℕ → List Reason
kind_reasons d frame = cond (eqb (kind_of frame) 1) (open_reasons d frame) (cond (eqb (kind_of frame) 2) (tell_reasons d frame) (close_reasons d frame))

-- all of a line's refusals, in their order
unfoldable pub line_reasons : Desk → List ℕ → List Reason
line_reasons d line =
    let frame = frame_of line in
    because 20 (no_frame line)
    ∷ because 21 (out_of_place (stage_of d.reader) (kind_of frame))
    ∷ because 22 (wrong_size frame)
    ∷ kind_reasons d frame

abbrev pub line_refusal : Desk → List ℕ → ℕ
line_refusal d line = first (line_reasons d line)
