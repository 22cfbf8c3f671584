-- The lines of an accepted file: one `01` line, then `02` lines, each with a route of its own, then one `03` line with their number.
use mathlib.Core.Path.{◌≡◌, refl, sym, ap, ◌∙◌}
use mathlib.Core.Bool.{true, false, not, true≢false, false≢true}
use mathlib.Core.List.{List, [], ◌∷◌}
use Prim.Native.Nat.{ℕ}
use native.Mathlib.Omega.{arith}
use lib.ListN.{length}
use lib.Dec.{eqb}
use Rattle.std.proofs.lemmas.Bool.Decides.{nat_tests}
use Rattle.std.proofs.lemmas.List.{nil_from_length}
use Rattle.rules.specs.Refusals.{first, settings_refusal}
use Rattle.scenario.specs.Hex.{frame_of}
use Rattle.scenario.specs.Lines.{lines_of, rest_of}
use Rattle.scenario.specs.Reasons.{Desk, stage_of, stopped, line_refusal}
use Rattle.scenario.specs.Judging.{after, opened, told, closed, refused_with, judged, judged_all}
use Rattle.scenario.specs.File.{fresh, begun, file_judged, cut_short, end_reasons, end_refusal, file_refusal}
use Rattle.scenario.specs.declared.Reader.{Reader}
use Rattle.scenario.proofs.Outcomes.{Opens, Tells, Closes, stays, refuses, opens, tells, closes, outcome}
use Rattle.scenario.proofs.Pieces.{all-stopped}
use Rattle.scenario.proofs.FromStart.{stage-first, settings-known}
use Rattle.scenario.proofs.LineTable.{stage-said}

-- the `02` lines and the `03` line that are accepted one after another from one desk to another
pub data Run : Desk → List (List ℕ) → Desk → Type 0 where
  last : {d : Desk} {line : List ℕ} → Closes d (frame_of line) → Run d (line ∷ []) (closed d)
  next : {d e : Desk} {line : List ℕ} {lines : List (List ℕ)} → Tells d (frame_of line) → Run (told d (frame_of line)) lines e → Run d (line ∷ lines) e

-- a reader that went on to an accepted end
pub record Complete (d : Desk) : Type 0 where
  pub going : stopped d.reader ≡ false
  pub stage : stage_of d.reader ≡ 2

-- a refused line is the end
stuck : (d : Desk) (lines : List (List ℕ)) → stopped d.reader ≡ true → Complete (judged_all d lines) → ⊥
stuck d lines stop end = true≢false (sym stop ∙ ap (λ e. stopped e.reader) (sym (all-stopped d lines stop)) ∙ end.going)

refused-stops : (d : Desk) (line : List ℕ) → eqb (line_refusal d line) 0 ≡ false → stopped (refused_with d (line_refusal d line)).reader ≡ true
unfolding refused_with after
refused-stops d line e = ap not e

-- after the `03` line no line is accepted
pub nothing-after : (d : Desk) (lines : List (List ℕ)) → stage_of d.reader ≡ 2 → Complete (judged_all d lines) → lines ≡ []
nothing-after d [] two end = refl
nothing-after d (line ∷ lines) two end = elim (outcome d line) [
  | stays e to ↦ absurd (stuck (judged d line) lines (rw to e) end)
  | refuses e k to ↦ absurd (stuck (judged d line) lines (rw to (refused-stops d line k)) end)
  | opens e o to ↦ absurd (omega (arith, o.place))
  | tells e t to ↦ absurd (omega (arith, t.place))
  | closes e c to ↦ absurd (omega (arith, c.place))
]

-- from the `01` line on
run : (d : Desk) (lines : List (List ℕ)) → stage_of d.reader ≡ 1 → Complete (judged_all d lines) → Run d lines (judged_all d lines)
unfolding told closed after
run d [] one end = absurd (omega (arith, end.stage))
run d (line ∷ lines) one end =
    let known : settings_refusal d.reader.settings ≡ 0 = settings-known d.reader (omega arith) in
    elim (outcome d line) [
      | stays e to ↦ absurd (stuck (judged d line) lines (rw to e) end)
      | refuses e k to ↦ absurd (stuck (judged d line) lines (rw to (refused-stops d line k)) end)
      | opens e o to ↦ absurd (omega (arith, o.place))
      | tells e t to ↦ rw to (next t (run (told d (frame_of line)) lines (stage-said (told d (frame_of line)).reader known (omega arith)) (rw to at end)))
      | closes e c to ↦
          let none = nothing-after (closed d) lines (stage-said (closed d).reader known (omega arith)) (rw to at end) in
          rw (none, to) (last c)
    ]

-- ---- the whole file

-- the end of the input is accepted
pub complete-end : (r : Reader) (table rest : List ℕ) → end_refusal r table rest ≡ 0 → (stopped r ≡ false) × (stage_of r ≡ 2) × (length rest ≡ 0)
unfolding end_reasons cut_short first
complete-end r table rest e = (grind (arith, nat_tests), grind (arith, nat_tests), grind (arith, nat_tests))

-- the lines of an accepted file: the first, and those after it one by one
pub record Accepted (table marks : List ℕ) (lines : List (List ℕ)) : Type 0 where
  pub opening : List ℕ
  pub later : List (List ℕ)
  pub cut : lines ≡ opening ∷ later
  pub opens : Opens (begun table marks) (frame_of opening)
  pub runs : Run (opened (begun table marks) (frame_of opening)) later (judged_all (begun table marks) lines)

first-line : (table marks : List ℕ) (lines : List (List ℕ)) → Complete (judged_all (begun table marks) lines) → Accepted table marks lines
unfolding fresh opened after
first-line table marks [] end = absurd (omega (arith, end.stage, stage-first fresh refl))
first-line table marks (line ∷ lines) end =
    let d = begun table marks in
    elim (outcome d line) [
      | stays e to ↦ absurd (false≢true e)
      | refuses e k to ↦ absurd (stuck (judged d line) lines (rw to (refused-stops d line k)) end)
      | opens e o to ↦
          let one = stage-said (opened d (frame_of line)).reader o.settings (omega arith) in
          record { opening = line; later = lines; cut = refl; opens = o; runs = rw to (run (opened d (frame_of line)) lines one (rw to at end)) }
      | tells e t to ↦ absurd (omega (arith, stage-first fresh refl, t.place))
      | closes e c to ↦ absurd (omega (arith, stage-first fresh refl, c.place))
    ]

-- an accepted file has such lines, and no unfinished one
pub accepted-file : (table marks x : List ℕ)
    → file_refusal table marks x ≡ 0
    → Accepted table marks (lines_of x) × (rest_of x ≡ [])
unfolding file_judged
accepted-file table marks x e =
    let d = judged_all (begun table marks) (lines_of x) in
    let end = complete-end d.reader d.table (rest_of x) e in
    (first-line table marks (lines_of x) (record { going = end.0; stage = end.1 }), nil_from_length (rest_of x) end.2)
