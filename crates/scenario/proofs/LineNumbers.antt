-- Line numbers and counts in a file that is read from its start: they are exact, and fit a word with room to spare.
use mathlib.Core.Path.{◌≡◌, refl, sym, ap, ap₂, ◌∙◌}
use mathlib.Core.Logic.{◌⊎◌, inl, inr, ◌≢◌}
use mathlib.Core.Bool.{true, false, true≢false}
use mathlib.Core.List.{List, [], ◌∷◌, ◌++◌, foldl-append}
use Prim.Native.Nat.{ℕ, ◌+◌, ◌/◌, ◌%◌, ◌≤◌}
use native.Mathlib.Omega.{arith}
use lib.ListN.{length}
use borrow.Author.Tests.{ne_eqb}
use Rattle.scenario.specs.Reasons.{Desk, stage_of, stopped, line_refusal}
use Rattle.scenario.specs.Judging.{after, opened, told, closed, refused_with, judged, judged_all}
use Rattle.rules.specs.Refusals.{first}
use Rattle.scenario.specs.Lines.{lines_of, rest_of}
use Rattle.scenario.specs.File.{fresh, begun, file_judged, end_reasons, refused_line, file_refusal}
use Rattle.scenario.specs.Answer.{line_of, answer_to}
use Rattle.scenario.proofs.Refusals.{line_small}
use Rattle.scenario.proofs.Pieces.{all-stopped}
use Rattle.scenario.proofs.Outcomes.{stays, refuses, opens, tells, closes, outcome}
use Rattle.scenario.proofs.LineTable.{FirstSaid, stage-said, end-number}
use Rattle.scenario.proofs.FromStart.{unopened, reading, halted, stage-first, from_start, given-most, one-more}
use Rattle.scenario.proofs.Answered.{answer-stopped, file-cut}

module _ (table marks : List ℕ) where
  -- the desk after so many lines
  abbrev pub desk : List (List ℕ) → Desk
  desk lines = judged_all (begun table marks) lines

  -- no more than 26,407 lines are ever judged, and no more than 26,404 `02` lines accepted
  pub lines-most : (lines : List (List ℕ)) → (desk lines).reader.lines ≤ 26407
  lines-most lines = elim (from_start table marks lines) [
    | unopened going stage given none k ↦ omega arith
    | reading o ↦ omega (arith, o.lines, o.most, given-most (length lines) (desk lines) o)
    | halted stop few given ↦ few
  ]

  pub given-few : (lines : List (List ℕ)) → (desk lines).reader.given ≤ 26404
  given-few lines = elim (from_start table marks lines) [
    | unopened going stage given none k ↦ omega arith
    | reading o ↦ given-most (length lines) (desk lines) o
    | halted stop few given ↦ given
  ]

  -- as long as none is refused, the number of lines is that of the lines met
  pub lines-exact : (lines : List (List ℕ)) → stopped (desk lines).reader ≡ false → (desk lines).reader.lines ≡ length lines
  lines-exact lines going = elim (from_start table marks lines) [
    | unopened e stage given none k ↦ omega arith
    | reading o ↦ o.exact
    | halted stop few given ↦ absurd (true≢false (sym stop ∙ going))
  ]

  -- after the `03` line the count is that of all lines but the first and the last, which are the `02` lines
  pub given-exact : (lines : List (List ℕ)) → stopped (desk lines).reader ≡ false → stage_of (desk lines).reader ≡ 2 → (desk lines).reader.given + 2 ≡ length lines
  given-exact lines going two = elim (from_start table marks lines) [
    | unopened e stage given none k ↦ absurd (omega (arith, stage-first (desk lines).reader stage))
    | reading o ↦ omega (arith, o.exact, o.lines, stage-said (desk lines).reader o.settings (omega (arith, o.most)))
    | halted stop few given ↦ absurd (true≢false (sym stop ∙ going))
  ]

  -- while none is refused there is room for one more
  lines-room : (lines : List (List ℕ)) → stopped (desk lines).reader ≡ false → (desk lines).reader.lines ≤ 26406
  lines-room lines going = elim (from_start table marks lines) [
    | unopened e stage given none k ↦ omega arith
    | reading o ↦ omega (arith, o.lines, o.most, given-most (length lines) (desk lines) o)
    | halted stop few given ↦ absurd (true≢false (sym stop ∙ going))
  ]

  -- after a refused line no line is judged
  no_more : (lines more : List (List ℕ)) (line : List ℕ) → stopped (judged (desk lines) line).reader ≡ true → desk (lines ++ (line ∷ more)) ≡ judged (desk lines) line
  no_more lines more line stop = foldl-append judged (begun table marks) lines (line ∷ more) ∙ all-stopped (judged (desk lines) line) more stop

  -- the line that is refused is counted from 1, and no later line changes its number
  pub refused-line-exact : (lines more : List (List ℕ)) (line : List ℕ)
      → stopped (desk lines).reader ≡ false
      → stopped (judged (desk lines) line).reader ≡ true
      → (desk (lines ++ (line ∷ more))).reader.lines ≡ length lines + 1
  unfolding opened told closed refused_with after
  refused-line-exact lines more line going stop =
      ap (λ d. d.reader.lines) (no_more lines more line stop)
      ∙ elim (outcome (desk lines) line) [
        | stays e to ↦ absurd (true≢false (sym e ∙ going))
        | refuses e k to ↦ rw (to, one-more (desk lines).reader.lines (lines-room lines going), lines-exact lines going)
        | opens e o to ↦ absurd (true≢false (sym stop ∙ rw to))
        | tells e t to ↦ absurd (true≢false (sym stop ∙ rw to))
        | closes e c to ↦ absurd (true≢false (sym stop ∙ rw to))
      ]

  -- So a file that has it is answered with one line, whatever follows: `1F`, its refusal, its place.
  module _ (lines more : List (List ℕ)) (line : List ℕ) (going : stopped (desk lines).reader ≡ false) (stop : stopped (judged (desk lines) line).reader ≡ true) where
    number : (judged (desk lines) line).reader.refusal ≡ line_refusal (desk lines) line
    unfolding opened told closed refused_with after
    number = elim (outcome (desk lines) line) [
      | stays e to ↦ absurd (true≢false (sym e ∙ going))
      | refuses e k to ↦ rw to
      | opens e o to ↦ absurd (true≢false (sym stop ∙ rw to))
      | tells e t to ↦ absurd (true≢false (sym stop ∙ rw to))
      | closes e c to ↦ absurd (true≢false (sym stop ∙ rw to))
    ]

    place : (judged (desk lines) line).reader.lines ≡ length lines + 1
    place = ap (λ d. d.reader.lines) (sym (no_more lines more line stop)) ∙ refused-line-exact lines more line going stop

    pub refused-file : (x : List ℕ) → lines_of x ≡ lines ++ (line ∷ more)
        → answer_to table marks x ≡ line_of (0x1f ∷ line_refusal (desk lines) line ∷ (length lines + 1) / 256 ∷ (length lines + 1) % 256 ∷ [])
    unfolding answer_to file_judged
    refused-file x cut =
        rw (cut, no_more lines more line stop)
        (answer-stopped (judged (desk lines) line).reader (judged (desk lines) line).table (rest_of x) stop
        ∙ ap₂ (λ k i. line_of (0x1f ∷ k ∷ i / 256 ∷ i % 256 ∷ [])) number place)

  -- ---- 26 comes with line 0

  -- the number of a refused line is 25 at the most
  small : (d : Desk) (line : List ℕ) → d.reader.refusal ≤ 25 → (judged d line).reader.refusal ≤ 25
  unfolding opened told closed refused_with after
  small d line few = elim (outcome d line) [
    | stays e to ↦ rw to few
    | refuses e k to ↦ rw to (line_small d line)
    | opens e o to ↦ rw to (omega arith)
    | tells e t to ↦ rw to (omega arith)
    | closes e c to ↦ rw to (omega arith)
  ]

  all_small : (d : Desk) (lines : List (List ℕ)) → d.reader.refusal ≤ 25 → (judged_all d lines).reader.refusal ≤ 25
  all_small d [] few = few
  all_small d (line ∷ lines) few = all_small (judged d line) lines (small d line few)

  pub no_line : (x : List ℕ) → file_refusal table marks x ≡ 26 → refused_line (file_judged table marks x).reader ≡ 0
  unfolding refused_line file_judged end_reasons first fresh
  no_line x e =
      let r = (desk (lines_of x)).reader in
      grind (arith, all_small (begun table marks) (lines_of x) (omega arith))

  -- So a file of which no line is refused, but which ends before a complete `03` line or with an unfinished line, is answered `1F`, 26, 0.
  pub cut-file : (x : List ℕ) → stopped (file_judged table marks x).reader ≡ false → (stage_of (file_judged table marks x).reader ≢ 2) ⊎ (length (rest_of x) ≢ 0)
      → answer_to table marks x ≡ line_of (0x1f ∷ 26 ∷ 0 ∷ 0 ∷ [])
  unfolding FirstSaid
  cut-file x going short =
      let r = (file_judged table marks x).reader in
      let none : ¬ (r.refusal ≢ 0) = λ ne. true≢false (sym (rw (ne_eqb r.refusal 0 ne)) ∙ going) in
      let e : file_refusal table marks x ≡ 26 = (end-number 26 r (file_judged table marks x).table (rest_of x) (λ h. omega arith)).1 (inr (none, inl (refl, short))) in
      file-cut table marks x going (λ z. omega (arith, z, e)) ∙ ap (λ k. line_of (0x1f ∷ k ∷ 0 ∷ 0 ∷ [])) e
