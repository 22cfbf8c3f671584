-- What a line does to the reader and to the lent table and marks, and what it leaves alone.
use mathlib.Core.Path.{◌≡◌, refl, sym, ◌∙◌}
use mathlib.Core.Logic.{◌≢◌}
use mathlib.Core.Bool.{true, true≢false}
use mathlib.Core.List.{List}
use Prim.Native.Nat.{ℕ, ◌+◌, ◌*◌, ◌/◌, ◌%◌}
use native.Mathlib.Omega.{arith}
use lib.ListN.{length, get_or, set, replicate}
use lib.Seq.{get_or-set_other}
use borrow.Author.Tests.{eqb-false, eq-eqb, ne_eqb}
use Rattle.rules.specs.Words.{word_at, put_word}
use Rattle.rules.specs.declared.Settings.{Settings}
use Rattle.rules.proofs.WordRows.{put-here}
use Rattle.scenario.specs.Hex.{frame_of}
use Rattle.scenario.specs.Frames.{kind_of, settings_in, word_told}
use Rattle.scenario.specs.Marks.{marked}
use Rattle.scenario.specs.Reasons.{Desk, cell_in, line_refusal}
use Rattle.scenario.specs.Judging.{one_more, after, opened, told, closed, refused_with, accepted, settled, judged}
use Rattle.scenario.specs.declared.Reader.{Reader}
use Rattle.scenario.proofs.Marking.{mark-same, mark-other}
use Rattle.scenario.proofs.Outcomes.{Tells, stays, refuses, opens, tells, closes, outcome}
use Rattle.scenario.proofs.WordsGiven.{cell_below}

-- ---- the reader

-- A reader after a line: at a stage, with settings, so many `02` lines and a refusal; one line more was judged, and none is begun.
pub record Since (old new : Reader) (place : ℕ) (s : Settings) (many number : ℕ) : Type 0 where
  pub stage : new.stage ≡ place
  pub settings : new.settings ≡ s
  pub given : new.given ≡ many
  pub lines : new.lines ≡ one_more old.lines
  pub refusal : new.refusal ≡ number
  pub count : new.count ≡ 0

after-since : (r : Reader) (place : ℕ) (s : Settings) (many number : ℕ) → Since r (after r place s many number) place s many number
unfolding after
after-since r place s many number = record { stage = refl; settings = refl; given = refl; lines = refl; refusal = refl; count = refl }

-- a desk whose reader goes on, and a line
module _ (d : Desk) (line : List ℕ) (going : d.reader.refusal ≡ 0) where
  -- a refused line leaves its number, and stage, settings and count as they were
  pub refused-reader : line_refusal d line ≢ 0
      → Since d.reader (judged d line).reader d.reader.stage d.reader.settings d.reader.given (line_refusal d line)
  unfolding judged settled refused_with
  refused-reader ne =
      rw (eq-eqb d.reader.refusal 0 going, ne_eqb (line_refusal d line) 0 ne)
      (after-since d.reader d.reader.stage d.reader.settings d.reader.given (line_refusal d line))

  module _ (none : line_refusal d line ≡ 0) where
    -- an accepted `01` line gives the settings, and no `02` line was met yet
    pub opened-reader : kind_of (frame_of line) ≡ 1 → Since d.reader (judged d line).reader 1 (settings_in (frame_of line)) 0 0
    unfolding judged settled accepted opened
    opened-reader kind = rw (eq-eqb d.reader.refusal 0 going, none, kind) (after-since d.reader 1 (settings_in (frame_of line)) 0 0)

    -- an accepted `02` line is one more
    pub told-reader : kind_of (frame_of line) ≡ 2
        → Since d.reader (judged d line).reader 1 d.reader.settings (one_more d.reader.given) 0
    unfolding judged settled accepted told
    told-reader kind =
        rw (eq-eqb d.reader.refusal 0 going, none, kind) (after-since d.reader 1 d.reader.settings (one_more d.reader.given) 0)

    -- an accepted `03` line is the last
    pub closed-reader : kind_of (frame_of line) ≡ 3 → Since d.reader (judged d line).reader 2 d.reader.settings d.reader.given 0
    unfolding judged settled accepted closed
    closed-reader kind = rw (eq-eqb d.reader.refusal 0 going, none, kind) (after-since d.reader 2 d.reader.settings d.reader.given 0)

-- ---- table and marks

-- a desk whose reader goes on, and a line
module _ (d : Desk) (line : List ℕ) (going : d.reader.refusal ≡ 0) where
  -- a refused line changes neither table nor marks
  pub refused-table : line_refusal d line ≢ 0 → (judged d line).table ≡ d.table
  unfolding judged settled refused_with
  refused-table ne = rw (eq-eqb d.reader.refusal 0 going, ne_eqb (line_refusal d line) 0 ne)

  pub refused-marks : line_refusal d line ≢ 0 → (judged d line).marks ≡ d.marks
  unfolding judged settled refused_with
  refused-marks ne = rw (eq-eqb d.reader.refusal 0 going, ne_eqb (line_refusal d line) 0 ne)

  module _ (none : line_refusal d line ≡ 0) where
    -- an accepted `01` line sets every byte of both to 0
    pub opened-table : kind_of (frame_of line) ≡ 1 → (judged d line).table ≡ replicate (length d.table) 0
    unfolding judged settled accepted opened
    opened-table kind = rw (eq-eqb d.reader.refusal 0 going, none, kind)

    pub opened-marks : kind_of (frame_of line) ≡ 1 → (judged d line).marks ≡ replicate (length d.marks) 0
    unfolding judged settled accepted opened
    opened-marks kind = rw (eq-eqb d.reader.refusal 0 going, none, kind)

    -- an accepted `03` line changes neither
    pub closed-table : kind_of (frame_of line) ≡ 3 → (judged d line).table ≡ d.table
    unfolding judged settled accepted closed
    closed-table kind = rw (eq-eqb d.reader.refusal 0 going, none, kind)

    pub closed-marks : kind_of (frame_of line) ≡ 3 → (judged d line).marks ≡ d.marks
    unfolding judged settled accepted closed
    closed-marks kind = rw (eq-eqb d.reader.refusal 0 going, none, kind)

    module _ (kind : kind_of (frame_of line) ≡ 2) where
      told_is : judged d line ≡ told d (frame_of line)
      unfolding judged settled accepted
      told_is = rw (eq-eqb d.reader.refusal 0 going, none, kind)

      facts : Tells d (frame_of line)
      facts = elim (outcome d line) [
        | stays e to ↦ absurd (true≢false (sym e ∙ rw going))
        | refuses e k to ↦ absurd (eqb-false (line_refusal d line) 0 k none)
        | opens e o to ↦ absurd (omega (arith, o.kind))
        | tells e t to ↦ t
        | closes e c to ↦ absurd (omega (arith, c.kind))
      ]

      -- an accepted `02` line writes its word as given into its cell, and no other byte
      pub told-word : word_at (judged d line).table (cell_in d.reader.settings (frame_of line)) ≡ word_told (frame_of line)
      unfolding told
      told-word =
          rw told_is
          (put-here d.table (cell_in d.reader.settings (frame_of line)) (word_told (frame_of line)) (omega (arith, cell_below d (frame_of line) facts, facts.lent.table)))

      pub told-other-byte : (i : ℕ) → i ≢ 2 * cell_in d.reader.settings (frame_of line) → i ≢ 2 * cell_in d.reader.settings (frame_of line) + 1
          → get_or (judged d line).table i 0 ≡ get_or d.table i 0
      unfolding told put_word
      told-other-byte i ne ne' =
          let c = cell_in d.reader.settings (frame_of line) in
          let w = word_told (frame_of line) in
          rw told_is
          (get_or-set_other (set d.table (2 * c) (w / 256)) (2 * c + 1) i (w % 256) 0 ne' ∙ get_or-set_other d.table (2 * c) i (w / 256) 0 ne)

      -- and sets its cell's mark, and no other
      pub told-mark : marked (judged d line).marks (cell_in d.reader.settings (frame_of line)) ≡ true
      unfolding told
      told-mark =
          rw told_is
          (mark-same d.marks (cell_in d.reader.settings (frame_of line)) (omega (arith, cell_below d (frame_of line) facts, facts.lent.marks)))

      pub told-other-mark : (e : ℕ) → e ≢ cell_in d.reader.settings (frame_of line) → marked (judged d line).marks e ≡ marked d.marks e
      unfolding told
      told-other-mark e ne = rw told_is (mark-other d.marks (cell_in d.reader.settings (frame_of line)) e ne)
