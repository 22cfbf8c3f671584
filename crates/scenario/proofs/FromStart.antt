-- What holds of a reader that read a file from its start. Each accepted `02` line sets a mark that was not set, so no more of them are
-- accepted than there are cells; with the `01` line, the `03` line and one that is refused, at most 26,407 lines are ever judged. So
-- both numbers are exact, and neither comes near the bound of a word.
use mathlib.Core.Path.{◌≡◌, refl, sym, ap, subst, ◌∙◌}
use mathlib.Core.Bool.{true, false, not, true≢false}
use mathlib.Core.List.{List, [], ◌∷◌}
use Prim.Native.Nat.{ℕ, ◌+◌, ◌≤◌, ◌<◌}
use native.Mathlib.Nat.{add-zero}
use native.Mathlib.Omega.{arith}
use lib.ListN.{length, replicate, length-replicate}
use lib.Dec.{eqb}
use borrow.Author.Tests.{lt-ltb, eqb-false}
use Rattle.std.proofs.lemmas.Bool.Decides.{nat_tests}
use Rattle.rules.specs.Lists.{count, up_to}
use Rattle.rules.specs.Cells.{cells}
use Rattle.rules.specs.Routes.{held}
use Rattle.rules.specs.Refusals.{settings_refusal}
use Rattle.rules.specs.declared.Settings.{Settings}
use Rattle.rules.proofs.Counting.{one_fewer, count_most, length-keep, keep-none}
use Rattle.rules.proofs.WordRows.{put-length}
use Rattle.rules.proofs.Numbering.{cell-lt}
use Rattle.rules.proofs.Accepted.{settings-accepted}
use Rattle.rules.proofs.Growth.{cells-few}
use Rattle.scenario.specs.Hex.{frame_of}
use Rattle.scenario.specs.Frames.{settings_in, route_in, word_told}
use Rattle.scenario.specs.Marks.{marked, mark, bits_of}
use Rattle.scenario.specs.Reasons.{Desk, stage_of, stopped, cell_in, line_refusal}
use Rattle.scenario.specs.Judging.{one_more, after, opened, told, closed, refused_with, judged, judged_all}
use Rattle.scenario.specs.File.{fresh, begun}
use Rattle.scenario.specs.declared.Reader.{Reader}
use Rattle.scenario.proofs.LineTable.{stage-said}
use Rattle.scenario.proofs.Pieces.{all-stopped}
use Rattle.scenario.proofs.Marking.{mark-same, mark-other, marks-length, unmarked}
use Rattle.scenario.proofs.Outcomes.{Enough, Opens, Tells, stays, refuses, opens, tells, closes, outcome}

-- M, for a desk's settings
abbrev pub cell_count : Settings → ℕ
cell_count s = cells s.n s.m

-- how many cells are marked
unfoldable pub mark_count : Settings → List ℕ → ℕ
mark_count s marks = count (marked marks) (up_to (cell_count s))

-- ---- the marks

marks-most : (s : Settings) (marks : List ℕ) → mark_count s marks ≤ cell_count s
unfolding mark_count
marks-most s marks = count_most (marked marks) (cell_count s)

none-marked : (s : Settings) (k : ℕ) → mark_count s (replicate k 0) ≡ 0
unfolding mark_count
none-marked s k =
    sym (length-keep (marked (replicate k 0)) (up_to (cell_count s))) ∙ ap length (keep-none (marked (replicate k 0)) (up_to (cell_count s)) (unmarked k))

-- a cell that was not marked makes one more
one-marked : (s : Settings) (marks : List ℕ) (c : ℕ) → c < cell_count s → c < bits_of marks → marked marks c ≡ false → mark_count s (mark marks c) ≡ mark_count s marks + 1
unfolding mark_count
one-marked s marks c below room new =
    one_fewer (marked marks) (marked (mark marks c)) c (cell_count s) below new (mark-same marks c room)
    (λ e ne. sym (mark-other marks c e (λ p. eqb-false c e ne (sym p))))

-- ---- the stage

pub stage-first : (r : Reader) → r.stage ≡ 0 → stage_of r ≡ 0
unfolding stage_of
stage-first r e = grind arith

-- a reader past its `01` line has settings that are accepted
pub settings-known : (r : Reader) → 1 ≤ stage_of r → settings_refusal r.settings ≡ 0
unfolding stage_of
settings-known r h = grind (arith, nat_tests)

-- ---- the reader, after so many lines

pub record Opened (k : ℕ) (d : Desk) : Type 0 where
  pub going : stopped d.reader ≡ false
  pub least : 1 ≤ d.reader.stage
  pub most : d.reader.stage ≤ 2
  pub settings : settings_refusal d.reader.settings ≡ 0
  pub lent : Enough d.reader.settings d
  pub given : d.reader.given ≡ mark_count d.reader.settings d.marks
  pub lines : d.reader.lines ≡ d.reader.given + d.reader.stage
  pub exact : d.reader.lines ≡ k

pub data Sound (k : ℕ) (d : Desk) : Type 0 where
  unopened : stopped d.reader ≡ false → d.reader.stage ≡ 0 → d.reader.given ≡ 0 → d.reader.lines ≡ 0 → k ≡ 0 → Sound k d
  reading : Opened k d → Sound k d
  halted : stopped d.reader ≡ true → d.reader.lines ≤ 26407 → d.reader.given ≤ 26404 → Sound k d

pub one-more : (k : ℕ) → k ≤ 26406 → one_more k ≡ k + 1
unfolding one_more
one-more k h = rw (lt-ltb k 65535 (omega arith))

still-enough : (s : Settings) (d e : Desk) → length e.table ≡ length d.table → length e.marks ≡ length d.marks → Enough s d → Enough s e
still-enough s d e t m h = record { table = omega (arith, h.table); marks = omega (arith, h.marks) }

-- no more `02` lines than cells
pub given-most : (k : ℕ) (d : Desk) → Opened k d → d.reader.given ≤ 26404
given-most k d o = omega (arith, o.given, marks-most d.reader.settings d.marks, cells-few d.reader.settings o.settings)

module _ (k : ℕ) (d : Desk) (line : List ℕ) where
  -- a refused line
  halting : d.reader.lines ≤ 26406 → d.reader.given ≤ 26404 → eqb (line_refusal d line) 0 ≡ false → judged d line ≡ refused_with d (line_refusal d line) → Sound (k + 1) (judged d line)
  unfolding refused_with after
  halting l g e to = rw to (halted (ap not e) (omega (arith, one-more d.reader.lines l)) g)

  -- an `01` line
  opening : d.reader.lines ≡ 0 → k ≡ 0 → Opens d (frame_of line) → judged d line ≡ opened d (frame_of line) → Sound (k + 1) (judged d line)
  unfolding opened after
  opening l z o to =
      rw to (reading (record {
        going = refl;
        least = omega arith;
        most = omega arith;
        settings = o.settings;
        lent = still-enough (settings_in (frame_of line)) d (opened d (frame_of line)) (length-replicate (length d.table) _) (length-replicate (length d.marks) _) o.lent;
        given = sym (none-marked (settings_in (frame_of line)) (length d.marks));
        lines = rw l (one-more 0 (omega arith));
        exact = rw (l, z) (one-more 0 (omega arith));
      }))

  -- an `02` line
  telling : Opened k d → d.reader.stage ≡ 1 → Tells d (frame_of line) → judged d line ≡ told d (frame_of line) → Sound (k + 1) (judged d line)
  unfolding told after cell_in
  telling o one t to =
      let s = d.reader.settings in
      let c = cell_in s (frame_of line) in
      let few : d.reader.given ≤ 26404 = given-most k d o in
      let ok = (settings-accepted s).0 o.settings in
      let below : c < cell_count s = cell-lt s.n s.sender ok.sender-below s.m (held (route_in (frame_of line))) t.route in
      let more = one-more d.reader.given (omega arith) in
      rw to (reading (record {
        going = refl;
        least = omega arith;
        most = omega arith;
        settings = o.settings;
        lent = still-enough s d (told d (frame_of line)) (put-length d.table _ (word_told (frame_of line))) (marks-length d.marks c) t.lent;
        given = rw more (omega (arith, o.given, one-marked s d.marks c below (omega (arith, t.lent.marks)) t.fresh));
        lines = rw (more, one-more d.reader.lines (omega (arith, o.lines))) (omega (arith, o.lines));
        exact = rw (one-more d.reader.lines (omega (arith, o.lines))) (omega (arith, o.exact));
      }))

  -- an `03` line
  closing : Opened k d → d.reader.stage ≡ 1 → judged d line ≡ closed d → Sound (k + 1) (judged d line)
  unfolding closed after
  closing o one to =
      let few : d.reader.given ≤ 26404 = given-most k d o in
      rw to (reading (record {
        going = refl;
        least = omega arith;
        most = omega arith;
        settings = o.settings;
        lent = still-enough d.reader.settings d (closed d) refl refl o.lent;
        given = o.given;
        lines = rw (one-more d.reader.lines (omega (arith, o.lines))) (omega (arith, o.lines));
        exact = rw (one-more d.reader.lines (omega (arith, o.lines))) (omega (arith, o.exact));
      }))

  -- any line
  opened-step : Opened k d → Sound (k + 1) (judged d line)
  opened-step o =
      let stage : stage_of d.reader ≡ d.reader.stage = stage-said d.reader o.settings (omega (arith, o.most)) in
      let few = given-most k d o in
      elim (outcome d line) [
        | stays e to ↦ absurd (true≢false (sym e ∙ o.going))
        | refuses e r to ↦ halting (omega (arith, few, o.lines, o.most)) few r to
        | opens e p to ↦ absurd (omega (arith, o.least, stage, p.place))
        | tells e t to ↦ telling o (sym stage ∙ t.place) t to
        | closes e c to ↦ closing o (sym stage ∙ c.place) to
      ]

  step : Sound k d → Sound (k + 1) (judged d line)
  step (unopened going stage given lines none) = elim (outcome d line) [
    | stays e to ↦ absurd (true≢false (sym e ∙ going))
    | refuses e r to ↦ halting (omega arith) (omega arith) r to
    | opens e p to ↦ opening lines none p to
    | tells e t to ↦ absurd (omega (arith, stage-first d.reader stage, t.place))
    | closes e c to ↦ absurd (omega (arith, stage-first d.reader stage, c.place))
  ]
  step (reading o) = opened-step o
  step (halted stop lines given) = rw (all-stopped d (line ∷ []) stop) (halted stop lines given)

-- line after line
steps : (k : ℕ) (d : Desk) (lines : List (List ℕ)) → Sound k d → Sound (k + length lines) (judged_all d lines)
steps k d [] h = rw add-zero h
steps k d (line ∷ lines) h = subst (λ n. Sound n (judged_all (judged d line) lines)) (omega arith) (steps (k + 1) (judged d line) lines (step k d line h))

-- and so from the start
pub from_start : (table marks : List ℕ) (lines : List (List ℕ)) → Sound (length lines) (judged_all (begun table marks) lines)
unfolding fresh
from_start table marks lines = subst (λ n. Sound n (judged_all (begun table marks) lines)) (omega arith) (steps 0 (begun table marks) lines (unopened refl refl refl refl refl))
