-- What can become of a line: the reader was stopped before, or the line is refused, or it is accepted as the line of its kind, and
-- then what its refusals ask holds.
use mathlib.Core.Path.{◌≡◌, refl}
use mathlib.Core.Logic.{⊎_elim}
use mathlib.Core.Bool.{Bool, true, false}
use mathlib.Core.List.{List, ◌∷◌}
use Prim.Native.Nat.{ℕ, suc, ◌+◌, ◌*◌, ◌≤◌}
use native.Mathlib.Omega.{arith}
use lib.ListN.{length}
use lib.Dec.{eqb}
use borrow.Author.Tests.{eqb-true, not-false}
use Rattle.std.proofs.lemmas.Bool.{cases_eq}
use Rattle.std.proofs.lemmas.Bool.Decides.{nat_tests}
use Rattle.rules.specs.Routes.{is_route, held}
use Rattle.rules.specs.Cells.{cells}
use Rattle.rules.specs.Refusals.{Reason, because, first, no_route, settings_reasons, settings_refusal}
use Rattle.rules.specs.declared.Settings.{Settings}
use Rattle.rules.proofs.Counting.{by-test}
use Rattle.rules.proofs.Refused.{none-split, ascending, first-zero, settings-ascend}
use Rattle.scenario.specs.Hex.{frame_of}
use Rattle.scenario.specs.Frames.{byte_in, kind_of, settings_in, route_in, count_in}
use Rattle.scenario.specs.Marks.{marked, bits_of}
use Rattle.scenario.specs.Reasons.{Desk, stage_of, stopped, no_frame, in_place, out_of_place, size_of, wrong_size, cell_in, routeless, given_before, wrong_count, short_table, short_marks, lent_reasons, lent_for, open_reasons, tell_reasons, close_reasons, kind_reasons, line_reasons, line_refusal}
use Rattle.scenario.specs.Judging.{opened, told, closed, refused_with, accepted, settled, judged}

-- ---- what an accepted line of each kind has passed

-- what was lent is long enough
pub record Enough (s : Settings) (d : Desk) : Type 0 where
  pub table : 2 * cells s.n s.m ≤ length d.table
  pub marks : cells s.n s.m ≤ bits_of d.marks

pub record Opens (d : Desk) (frame : List ℕ) : Type 0 where
  pub kind : kind_of frame ≡ 1
  pub place : stage_of d.reader ≡ 0
  pub size : length frame ≡ 9
  pub settings : settings_refusal (settings_in frame) ≡ 0
  pub lent : Enough (settings_in frame) d

pub record Tells (d : Desk) (frame : List ℕ) : Type 0 where
  pub kind : kind_of frame ≡ 2
  pub place : stage_of d.reader ≡ 1
  pub size : length frame ≡ 4 + byte_in frame 1
  pub route : is_route d.reader.settings.n d.reader.settings.m d.reader.settings.sender (held (route_in frame)) ≡ true
  pub fresh : marked d.marks (cell_in d.reader.settings frame) ≡ false
  pub lent : Enough d.reader.settings d

pub record Closes (d : Desk) (frame : List ℕ) : Type 0 where
  pub kind : kind_of frame ≡ 3
  pub place : stage_of d.reader ≡ 1
  pub size : length frame ≡ 3
  pub count : count_in frame ≡ d.reader.given
  pub lent : Enough d.reader.settings d

pub data Outcome (d : Desk) (line : List ℕ) : Type 0 where
  stays : stopped d.reader ≡ true → judged d line ≡ d → Outcome d line
  refuses : stopped d.reader ≡ false → eqb (line_refusal d line) 0 ≡ false → judged d line ≡ refused_with d (line_refusal d line) → Outcome d line
  opens : stopped d.reader ≡ false → Opens d (frame_of line) → judged d line ≡ opened d (frame_of line) → Outcome d line
  tells : stopped d.reader ≡ false → Tells d (frame_of line) → judged d line ≡ told d (frame_of line) → Outcome d line
  closes : stopped d.reader ≡ false → Closes d (frame_of line) → judged d line ≡ closed d → Outcome d line

-- ---- a line that no reason refuses

-- the first reason does not apply, and no later one does
pub passed : (k : ℕ) (b : Bool) (rs : List Reason) → first (because (suc k) b ∷ rs) ≡ 0 → (b ≡ false) × (first rs ≡ 0)
unfolding first
passed k true rs e = absurd (omega arith)
passed k false rs e = (refl, e)

lent-enough : (s : Settings) (d : Desk) → first (lent_for s d) ≡ 0 → Enough s d
unfolding lent_reasons first short_table short_marks
lent-enough s d e = record { table = grind (arith, nat_tests); marks = grind (arith, nat_tests) }

-- ---- the kinds, each with its own reasons

module _ (d : Desk) (frame : List ℕ) where
  open-facts : kind_of frame ≡ 1 → stage_of d.reader ≡ 0 → length frame ≡ 9 → first (open_reasons d frame) ≡ 0 → Opens d frame
  unfolding open_reasons settings_reasons lent_reasons ascending
  open-facts kind place size e =
      let s = settings_in frame in
      let none = none-split (settings_reasons s) (lent_for s d) ((first-zero 0 (open_reasons d frame) refl).0 e) in
      record {
        kind = kind;
        place = place;
        size = size;
        settings = (first-zero 0 (settings_reasons s) (settings-ascend s)).1 none.0;
        lent = lent-enough s d ((first-zero 0 (lent_for s d) refl).1 none.1);
      }

  tell-facts : kind_of frame ≡ 2 → stage_of d.reader ≡ 1 → length frame ≡ 4 + byte_in frame 1 → first (tell_reasons d frame) ≡ 0 → Tells d frame
  unfolding tell_reasons routeless no_route given_before
  tell-facts kind place size e =
      let s = d.reader.settings in
      let route = passed 22 (routeless s frame) (because 24 (given_before s d.marks frame) ∷ lent_for s d) e in
      let fresh = passed 23 (given_before s d.marks frame) (lent_for s d) route.1 in
      record {
        kind = kind;
        place = place;
        size = size;
        route = not-false (is_route s.n s.m s.sender (held (route_in frame))) route.0;
        fresh = fresh.0;
        lent = lent-enough s d fresh.1;
      }

  close_facts : kind_of frame ≡ 3 → stage_of d.reader ≡ 1 → length frame ≡ 3 → first (close_reasons d frame) ≡ 0 → Closes d frame
  unfolding close_reasons wrong_count
  close_facts kind place size e =
      let s = d.reader.settings in
      let count = passed 24 (wrong_count d.reader.given frame) (lent_for s d) e in
      record {
        kind = kind;
        place = place;
        size = size;
        count = eqb-true (count_in frame) d.reader.given (not-false (eqb (count_in frame) d.reader.given) count.0);
        lent = lent-enough s d count.1;
      }

-- a line in its place is of one of three kinds
pub data Placed (stage kind : ℕ) : Type 0 where
  opening : stage ≡ 0 → kind ≡ 1 → Placed stage kind
  telling : stage ≡ 1 → kind ≡ 2 → Placed stage kind
  closing : stage ≡ 1 → kind ≡ 3 → Placed stage kind

pub placed : (stage kind : ℕ) → in_place stage kind ≡ true → Placed stage kind
unfolding in_place
placed stage kind e =
    ⊎_elim (λ s. opening s (grind (arith, nat_tests)))
    (λ s. ⊎_elim (telling (grind (arith, nat_tests))) (λ k. closing (grind (arith, nat_tests)) (grind (arith, nat_tests))) (cases_eq kind 2))
    (cases_eq stage 0)

-- ---- any line

module _ (d : Desk) (line : List ℕ) (going : stopped d.reader ≡ false) where
  by_kind : line_refusal d line ≡ 0
      → length (frame_of line) ≡ size_of (frame_of line)
      → first (kind_reasons d (frame_of line)) ≡ 0
      → Placed (stage_of d.reader) (kind_of (frame_of line))
      → Outcome d line
  unfolding size_of kind_reasons settled judged accepted
  by_kind none size own (opening place kind) =
      opens going (open-facts d (frame_of line) kind place (rw kind at size) (rw kind at own)) (rw (going, none, kind))
  by_kind none size own (telling place kind) =
      tells going (tell-facts d (frame_of line) kind place (rw kind at size) (rw kind at own)) (rw (going, none, kind))
  by_kind none size own (closing place kind) =
      closes going (close_facts d (frame_of line) kind place (rw kind at size) (rw kind at own)) (rw (going, none, kind))

  accepting : line_refusal d line ≡ 0 → Outcome d line
  unfolding line_reasons out_of_place wrong_size
  accepting none =
      let frame = frame_of line in
      let sized = because 22 (wrong_size frame) ∷ kind_reasons d frame in
      let place = because 21 (out_of_place (stage_of d.reader) (kind_of frame)) ∷ sized in
      let e20 = passed 19 (no_frame line) place none in
      let e21 = passed 20 (out_of_place (stage_of d.reader) (kind_of frame)) sized e20.1 in
      let e22 = passed 21 (wrong_size frame) (kind_reasons d frame) e21.1 in
      by_kind none
      (eqb-true (length frame) (size_of frame) (not-false (eqb (length frame) (size_of frame)) e22.0))
      e22.1
      (placed (stage_of d.reader) (kind_of frame) (not-false (in_place (stage_of d.reader) (kind_of frame)) e21.0))

pub outcome : (d : Desk) (line : List ℕ) → Outcome d line
unfolding settled judged
outcome d line =
    by-test (stopped d.reader)
    (λ (e : stopped d.reader ≡ true). stays e (rw e))
    (λ (e : stopped d.reader ≡ false).
    by-test (eqb (line_refusal d line) 0)
    (λ (a : eqb (line_refusal d line) 0 ≡ true). accepting d line e (eqb-true (line_refusal d line) 0 a))
    (λ (a : eqb (line_refusal d line) 0 ≡ false). refuses e a (rw (e, a))))
