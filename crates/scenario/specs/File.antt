-- The end of the input, and the whole file.
use Rattle.std.specs.Prelude.{ℕ, ◌*◌, List, [], ◌∷◌, Bool, not, ◌||◌, cond, length, take, replicate, eqb}
use Rattle.rules.specs.Cells.{cells}
use Rattle.rules.specs.Refusals.{Reason, because, first}
use Rattle.rules.specs.declared.Settings.{Settings}
use Rattle.scenario.specs.Lines.{lines_of, rest_of}
use Rattle.scenario.specs.Reasons.{Desk, desk, stage_of, stopped, short_table}
use Rattle.scenario.specs.Judging.{judged_all}
use Rattle.scenario.specs.declared.Reader.{Reader}

-- the reader before the first byte
unfoldable pub fresh : Reader
fresh = record {
  stage = 0;
  settings = record { n = 0; m = 0; u = 0; sender = 0; value = 0; faults = 0 };
  given = 0;
  lines = 0;
  refusal = 0;
  held = replicate 19 0;
  count = 0;
}

-- over a lent table and lent marks
abbrev pub begun : List ℕ → List ℕ → Desk
begun table marks = desk fresh table marks

-- all complete lines of a file judged in their order
unfoldable pub file_judged : List ℕ → List ℕ → List ℕ → Desk
file_judged table marks x = judged_all (begun table marks) (lines_of x)

-- 26: the input ends before a complete `03` line, or with an unfinished line
unfoldable pub cut_short : Reader → List ℕ → Bool
cut_short r rest = not (eqb (stage_of r) 2) || not (eqb (length rest) 0)

-- The first refused line decides, then the end of the input. A table that is too short was refused with the `01` line: 8 is met
-- here only where the reader was forged or comes with another table.
unfoldable pub end_reasons : Reader → List ℕ → List ℕ → List Reason
end_reasons r table rest =
    because r.refusal (stopped r) ∷ because 26 (cut_short r rest) ∷ because 8 (short_table r.settings (length table)) ∷ []

abbrev pub end_refusal : Reader → List ℕ → List ℕ → ℕ
end_refusal r table rest = first (end_reasons r table rest)

-- the refused line, counted from 1; 0 where no line was refused
unfoldable pub refused_line : Reader → ℕ
refused_line r = cond (stopped r) r.lines 0

-- the table that an accepted file gives: the first 2M bytes of what was lent
unfoldable pub table_given : Settings → List ℕ → List ℕ
table_given s table = take (2 * cells s.n s.m) table

-- what becomes of a whole file, over a lent table and lent marks: its refusal, 0 where it is accepted, and then its settings and its table
abbrev pub file_refusal : List ℕ → List ℕ → List ℕ → ℕ
file_refusal table marks x = end_refusal (file_judged table marks x).reader (file_judged table marks x).table (rest_of x)

abbrev pub file_settings : List ℕ → List ℕ → List ℕ → Settings
file_settings table marks x = (file_judged table marks x).reader.settings

abbrev pub file_table : List ℕ → List ℕ → List ℕ → List ℕ
file_table table marks x = table_given (file_settings table marks x) (file_judged table marks x).table
