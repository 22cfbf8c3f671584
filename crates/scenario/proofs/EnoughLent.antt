-- Enough lent: a table of 52,808 bytes and marks of 3,301 bytes hold N=15, m=3, so they hold every layout that is accepted, and 8 and
-- 10 are never given.
use mathlib.Core.Path.{◌≡◌, refl}
use mathlib.Core.Logic.{◌≢◌}
use mathlib.Core.Bool.{Bool, true, false}
use mathlib.Core.List.{List, [], ◌∷◌}
use Prim.Native.Nat.{ℕ, ◌*◌, ◌≤◌}
use native.Mathlib.Omega.{arith}
use lib.ListN.{length, replicate, length-replicate}
use lib.Dec.{eqb}
use borrow.Author.Tests.{eqb-true, eqb-false, le-ltb, not-false}
use Rattle.std.proofs.lemmas.Bool.Decides.{nat_tests}
use Rattle.rules.specs.Cells.{cells}
use Rattle.rules.specs.Refusals.{Reason, because, first, settings_reasons, settings_refusal}
use Rattle.rules.proofs.WordRows.{put-length}
use Rattle.rules.proofs.Growth.{cells-few}
use Rattle.rules.specs.declared.Settings.{Settings}
use Rattle.rules.proofs.Counting.{by-test}
use Rattle.rules.proofs.Refused.{settings-ascend, settings-most, front-stands, rest-decides}
use Rattle.scenario.specs.Hex.{frame_of}
use Rattle.scenario.specs.Frames.{kind_of, settings_in, word_told}
use Rattle.scenario.specs.Marks.{bits_of}
use Rattle.scenario.specs.Reasons.{Desk, cell_in, stage_of, stopped, no_frame, out_of_place, in_place, wrong_size, routeless, given_before, wrong_count, short_table, short_marks, lent_reasons, lent_for, open_reasons, tell_reasons, close_reasons, kind_reasons, line_reasons, line_refusal}
use Rattle.scenario.specs.Judging.{after, opened, told, closed, refused_with, judged, judged_all}
use Rattle.scenario.specs.Lines.{lines_of, rest_of}
use Rattle.scenario.specs.File.{fresh, begun, file_judged, cut_short, end_reasons, end_refusal, file_refusal}
use Rattle.scenario.specs.declared.Reader.{Reader}
use Rattle.scenario.proofs.Outcomes.{stays, refuses, opens, tells, closes, outcome, Placed, opening, telling, closing, placed}
use Rattle.scenario.proofs.FromStart.{settings-known}
use Rattle.scenario.proofs.Marking.{marks-length}

-- so much is enough for N=15, m=3, and so for every accepted layout
pub record Ample (d : Desk) : Type 0 where
  pub table : 52808 ≤ length d.table
  pub marks : 26404 ≤ bits_of d.marks

ample-lent : (s : Settings) (d : Desk) → settings_refusal s ≡ 0 → Ample d → first (lent_for s d) ≡ 0
unfolding first lent_reasons short_table short_marks
ample-lent s d e a =
    let few = cells-few s e in
    rw (le-ltb (length d.table) (2 * cells s.n s.m) (omega (arith, a.table)), le-ltb (bits_of d.marks) (cells s.n s.m) (omega (arith, a.marks)))

-- neither 8 nor 10
pub record Own (k : ℕ) : Type 0 where
  pub table : k ≢ 8
  pub marks : k ≢ 10

own-front : (n : ℕ) (b : Bool) (rs : List Reason) → Own n → (b ≡ false → Own (first rs)) → Own (first (because n b ∷ rs))
unfolding first
own-front n true rs own rest = own
own-front n false rs own rest = rest refl

below-eight : (k : ℕ) → k ≤ 7 → Own k
below-eight k e = record { table = λ p. omega arith; marks = λ p. omega arith }

above-ten : (k : ℕ) → 11 ≤ k → Own k
above-ten k e = record { table = λ p. omega arith; marks = λ p. omega arith }

module _ (d : Desk) (a : Ample d) where
  -- after settings that are accepted
  own-lent : (s : Settings) → settings_refusal s ≡ 0 → Own (first (lent_for s d))
  own-lent s e = below-eight (first (lent_for s d)) (omega (arith, ample-lent s d e a))

  own_open : (frame : List ℕ) → Own (first (open_reasons d frame))
  unfolding open_reasons
  own_open frame =
      let s = settings_in frame in
      by-test (eqb (settings_refusal s) 0)
      (λ (e : eqb (settings_refusal s) 0 ≡ true).
      let pass = eqb-true (settings_refusal s) 0 e in
      rw (rest-decides (settings_reasons s) (lent_for s d) (settings_refusal s) (settings-ascend s) refl pass) (own-lent s pass))
      (λ (e : eqb (settings_refusal s) 0 ≡ false).
      rw (← front-stands (settings_reasons s) (lent_for s d) (settings_refusal s) refl (eqb-false (settings_refusal s) 0 e))
      (below-eight (settings_refusal s) (settings-most s)))

  own-kind : (frame : List ℕ) → Placed (stage_of d.reader) (kind_of frame) → Own (first (kind_reasons d frame))
  unfolding kind_reasons tell_reasons close_reasons
  own-kind frame (opening place kind) = rw kind (own_open frame)
  own-kind frame (telling place kind) =
      let s = d.reader.settings in
      rw kind
      (own-front 23 (routeless s frame) (because 24 (given_before s d.marks frame) ∷ lent_for s d) (above-ten 23 (omega arith))
      (λ f. own-front 24 (given_before s d.marks frame) (lent_for s d) (above-ten 24 (omega arith))
      (λ g. own-lent s (settings-known d.reader (omega arith)))))
  own-kind frame (closing place kind) =
      let s = d.reader.settings in
      rw kind
      (own-front 25 (wrong_count d.reader.given frame) (lent_for s d) (above-ten 25 (omega arith))
      (λ f. own-lent s (settings-known d.reader (omega arith))))

  -- the program lends so much, and never meets these two
  pub never-for-lent : (line : List ℕ) → Own (line_refusal d line)
  unfolding line_reasons out_of_place
  never-for-lent line =
      let frame = frame_of line in
      let sized = because 22 (wrong_size frame) ∷ kind_reasons d frame in
      let place = because 21 (out_of_place (stage_of d.reader) (kind_of frame)) ∷ sized in
      own-front 20 (no_frame line) place (above-ten 20 (omega arith))
      (λ f. own-front 21 (out_of_place (stage_of d.reader) (kind_of frame)) sized (above-ten 21 (omega arith))
      (λ g. own-front 22 (wrong_size frame) (kind_reasons d frame) (above-ten 22 (omega arith))
      (λ h. own-kind frame (placed (stage_of d.reader) (kind_of frame) (not-false (in_place (stage_of d.reader) (kind_of frame)) g)))))

-- ---- a whole file

-- a line changes no length
lengths-kept : (d : Desk) (line : List ℕ) → (length (judged d line).table ≡ length d.table) × (length (judged d line).marks ≡ length d.marks)
unfolding opened told closed refused_with
lengths-kept d line = elim (outcome d line) [
  | stays e to ↦ rw to (refl, refl)
  | refuses e k to ↦ rw to (refl, refl)
  | opens e o to ↦ rw to (length-replicate (length d.table) _, length-replicate (length d.marks) _)
  | tells e t to ↦ rw to (put-length d.table _ (word_told (frame_of line)), marks-length d.marks (cell_in d.reader.settings (frame_of line)))
  | closes e c to ↦ rw to (refl, refl)
]

-- a desk with enough, whose reader was not stopped for want of it
record Fair (d : Desk) : Type 0 where
  ample : Ample d
  own : Own d.reader.refusal

ample-kept : (d : Desk) (line : List ℕ) → Ample d → Ample (judged d line)
ample-kept d line a =
    let kept = lengths-kept d line in
    record { table = omega (arith, a.table, kept.0); marks = omega (arith, a.marks, kept.1) }

fair-step : (d : Desk) (line : List ℕ) → Fair d → Fair (judged d line)
unfolding opened told closed refused_with after
fair-step d line f = record {
  ample = ample-kept d line f.ample;
  own = elim (outcome d line) [
    | stays e to ↦ rw to f.own
    | refuses e k to ↦ rw to (never-for-lent d f.ample line)
    | opens e o to ↦ rw to (below-eight 0 (omega arith))
    | tells e t to ↦ rw to (below-eight 0 (omega arith))
    | closes e c to ↦ rw to (below-eight 0 (omega arith))
  ];
}

fair-steps : (d : Desk) (lines : List (List ℕ)) → Fair d → Fair (judged_all d lines)
fair-steps d [] f = f
fair-steps d (line ∷ lines) f = fair-steps (judged d line) lines (fair-step d line f)

-- at the end of the input either
fair-end : (d : Desk) (rest : List ℕ) → Fair d → Own (end_refusal d.reader d.table rest)
unfolding end_reasons cut_short short_table first
fair-end d rest f =
    let r = d.reader in
    own-front r.refusal (stopped r) (because 26 (cut_short r rest) ∷ because 8 (short_table r.settings (length d.table)) ∷ []) f.own
    (λ s. own-front 26 (cut_short r rest) (because 8 (short_table r.settings (length d.table)) ∷ []) (above-ten 26 (omega arith)) (λ c. last r c))
  where
    last : (r : Reader) → cut_short r rest ≡ false → Own (first (because 8 (short_table r.settings (length d.table)) ∷ []))
    last r c =
        let s = r.settings in
        let ended : stage_of r ≡ 2 = grind (arith, nat_tests) in
        let few = cells-few s (settings-known r (omega arith)) in
        rw (le-ltb (length d.table) (2 * cells s.n s.m) (omega (arith, f.ample.table))) (below-eight 0 (omega arith))

-- no file is refused for what the program lends
pub program-lends-enough : (x : List ℕ) → Own (file_refusal (replicate 52808 0) (replicate 3301 0) x)
unfolding file_judged fresh
program-lends-enough x =
    let d = begun (replicate 52808 0) (replicate 3301 0) in
    fair-end (judged_all d (lines_of x)) (rest_of x)
    (fair-steps d (lines_of x) (record {
      ample = record { table = omega (arith, length-replicate {A = ℕ} 52808 0); marks = omega (arith, length-replicate {A = ℕ} 3301 0) };
      own = below-eight 0 (omega arith);
    }))
