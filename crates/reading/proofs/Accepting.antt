-- What an accepted line does, as the code does it.
use mathlib.Core.Path.{◌≡◌, refl, sym, ap, ◌∙◌}
use mathlib.Core.Bool.{true, false, not, true≢false}
use mathlib.Core.List.{List}
use Prim.Native.Nat.{ℕ, ◌+◌, ◌*◌, ◌<◌}
use native.Mathlib.Omega.{arith}
use lib.ListN.{length, get_or}
use lib.Dec.{eqb}
use borrow.Author.Tests.{eq-eqb, ne_eqb}
use Rattle.std.specs.Prelude.{Result, Ok, Err, IsOk}
use Rattle.rules.specs.Routes.{held}
use Rattle.rules.specs.Cells.{cell}
use Rattle.rules.specs.Refusals.{route_refusal}
use Rattle.rules.specs.Numbers.{number_of, RefusedOr}
use Rattle.rules.specs.declared.Refusal.{Refusal}
use Rattle.rules.specs.declared.Route as R
use Rattle.rules.proofs.Numbers.{number-some}
use Rattle.rules.proofs.Counting.{by-test}
use Rattle.rules.proofs.Accepted.{settings-accepted, layout_of, route-accepted}
use Rattle.rules.proofs.Numbering.{cell-lt}
use Rattle.scenario.specs.Hex.{frame_of}
use Rattle.scenario.specs.Frames.{line_in}
use Rattle.scenario.specs.Marks.{bits_of}
use Rattle.scenario.specs.Reasons.{Desk, stopped, cell_in, line_refusal}
use Rattle.scenario.specs.Judging.{opened, told, accepted, refused_with, settled, judged}
use Rattle.scenario.specs.declared.Line.{Line}
use Rattle.scenario.proofs.Outcomes.{Outcome, stays, refuses, opens, tells, closes, outcome}
use Rattle.scenario.proofs.FromStart.{settings-known}
use Rattle.reading.specs.Steps.{Tellable, Acceptable, done}

-- ---- an `02` line

-- it has a cell, and there is room for its word and its mark
module _ (d : Desk) (route : R.Route) (ok : Tellable d route) (x : Result ℕ Refusal)
    (answer : RefusedOr (route_refusal d.reader.settings.n d.reader.settings.m d.reader.settings.sender route) (λ c. c ≡ cell d.reader.settings.n d.reader.settings.sender (held route)) x) where
  passes : route_refusal d.reader.settings.n d.reader.settings.m d.reader.settings.sender route ≡ 0
  passes =
      let s = d.reader.settings in
      let facts = (settings-accepted s).0 ok.settings in
      (route-accepted s.n s.m s.sender route).1 (record { layout = layout_of s facts; sender-below = facts.sender-below; route = ok.routed })

  pub has-cell : IsOk x
  has-cell = go x answer
    where
      go : (y : Result ℕ Refusal) → RefusedOr (route_refusal d.reader.settings.n d.reader.settings.m d.reader.settings.sender route) (λ c. c ≡ cell d.reader.settings.n d.reader.settings.sender (held route)) y → IsOk y
      go (Ok c) h = refl
      go (Err e) h = absurd (number-some e (h ∙ passes))

  module _ (c : ℕ) (is : x ≡ Ok c) where
    cell-is : c ≡ cell d.reader.settings.n d.reader.settings.sender (held route)
    cell-is = (rw is at answer).1

    pub word_room : 2 * c + 1 < length d.table
    word_room =
        let s = d.reader.settings in
        let facts = (settings-accepted s).0 ok.settings in
        omega (arith, cell-is, cell-lt s.n s.sender facts.sender-below s.m (held route) ok.routed, ok.room)

    pub mark-room : c < bits_of d.marks
    mark-room =
        let s = d.reader.settings in
        let facts = (settings-accepted s).0 ok.settings in
        omega (arith, cell-is, cell-lt s.n s.sender facts.sender-below s.m (held route) ok.routed, ok.bits)

-- ---- a whole line

-- what an accepted line does is what is done for what it says
done-accepted : (d : Desk) (frame : List ℕ) → done d (line_in frame) ≡ accepted d frame
unfolding line_in accepted opened told cell_in
done-accepted d frame =
    by-test (eqb (get_or frame 0 0) 1)
    (λ (one : eqb (get_or frame 0 0) 1 ≡ true). rw one)
    (λ (one : eqb (get_or frame 0 0) 1 ≡ false).
    by-test (eqb (get_or frame 0 0) 2)
    (λ (two : eqb (get_or frame 0 0) 2 ≡ true). rw (one, two))
    (λ (two : eqb (get_or frame 0 0) 2 ≡ false). rw (one, two)))

module _ (d : Desk) (line : List ℕ) (running : d.reader.refusal ≡ 0) where
  goes_on : stopped d.reader ≡ false
  goes_on = ap not (eq-eqb d.reader.refusal 0 running)

  -- a refused line leaves its number with the reader and nothing else
  pub judged-refused : (e : Refusal) → number_of e ≡ line_refusal d line → refused_with d (number_of e) ≡ judged d line
  unfolding judged settled
  judged-refused e known = rw (goes_on, ← known, ne_eqb (number_of e) 0 (number-some e))

  -- the same of whatever equals it, as the code finds it
  pub refused_judged : (e : Refusal) → number_of e ≡ line_refusal d line → (x : Desk) → x ≡ refused_with d (number_of e) → x ≡ judged d line
  refused_judged e known x is = is ∙ judged-refused e known

  module _ (l : Line) (said : (line_refusal d line ≡ 0) × (l ≡ line_in (frame_of line))) where
    -- an accepted one asks what its kind asks
    pub acceptable : Acceptable d l
    unfolding line_in
    acceptable = rw said.1 (go (outcome d line))
      where
        go : Outcome d line → Acceptable d (line_in (frame_of line))
        go (stays e is) = absurd (true≢false (sym e ∙ goes_on))
        go (refuses e some is) = absurd (true≢false (sym (eq-eqb (line_refusal d line) 0 said.0) ∙ some))
        go (opens e facts is) = rw facts.kind tt
        go (tells e facts is) =
            rw facts.kind (record { settings = settings-known d.reader (omega (arith, facts.place)); routed = facts.route; room = facts.lent.table; bits = facts.lent.marks })
        go (closes e facts is) = rw facts.kind tt

    -- and does it
    pub judged-accepted : done d l ≡ judged d line
    unfolding judged settled
    judged-accepted = rw (goes_on, said.0, said.1) (done-accepted d (frame_of line))

    -- the same of whatever equals it, as the code finds it
    pub accepted_judged : (x : Desk) → x ≡ done d l → x ≡ judged d line
    accepted_judged x is = is ∙ judged-accepted
