-- What the tests of `kinds` answer is the first refusal that applies: one law for each answer, over the tests passed before it.
use mathlib.Core.Path.{◌≡◌, refl, sym, ◌∙◌}
use mathlib.Core.Bool.{true, false, true≢false}
use mathlib.Core.List.{List}
use Prim.Native.Nat.{ℕ, ◌*◌, ◌≤◌, ◌<◌}
use native.Mathlib.Omega.{arith}
use lib.ListN.{length, get_or}
use lib.Dec.{eqb}
use borrow.Author.Tests.{lt-ltb, le-ltb, eqb-true}
use Rattle.std.specs.Prelude.{Result}
use Rattle.std.specs.Int.{div_ceil}
use Rattle.std.specs.Result.{IsErrAnd}
use Rattle.std.proofs.lemmas.Result.{err_from_is_err_and}
use Rattle.rules.specs.Routes.{held, is_route}
use Rattle.rules.specs.Cells.{cells, cell}
use Rattle.rules.specs.Numbers.{number_of, RefusedOr}
use Rattle.rules.specs.Refusals.{first, no_route, settings_reasons, settings_refusal, route_refusal}
use Rattle.rules.specs.declared.Refusal.{Refusal}
use Rattle.rules.specs.declared.Settings.{Settings}
use Rattle.rules.specs.declared.Route as R
use Rattle.rules.proofs.Counting.{by-test}
use Rattle.rules.proofs.Refused.{settings-ascend, front-stands, rest-decides}
use Rattle.rules.proofs.Accepted.{settings-accepted, layout_of, route-accepted}
use Rattle.rules.proofs.Numbers.{number-some}
use Rattle.scenario.specs.Frames.{kind_of, line_in}
use Rattle.scenario.specs.Marks.{marked}
use Rattle.scenario.specs.Reasons.{Desk, desk, stage_of, in_place, out_of_place, cell_in, routeless, given_before, wrong_count, short_table, short_marks, lent_reasons, open_reasons, tell_reasons, close_reasons, kind_reasons}
use Rattle.scenario.specs.declared.Reader.{Reader}
use Rattle.reasons.specs.Steps.{lent_refusal, open_refusal, tell_refusal, said_refusal, Ready}

-- ---- 8 and 10

module _ (s : Settings) (table marks : ℕ) (k : ℕ) (is : k ≡ cells s.n s.m) where
  -- a table of too few bytes is refused with 8
  pub short-table : table < 2 * k → 8 ≡ lent_refusal s table marks
  unfolding first lent_reasons short_table
  short-table h = rw (← is, lt-ltb table (2 * k) h)

  -- marks of too few bits with 10
  pub short-marks : 2 * k ≤ table → marks < div_ceil k 8 → 10 ≡ lent_refusal s table marks
  unfolding first lent_reasons short_table short_marks
  short-marks l h = rw (← is, le-ltb table (2 * k) l, lt-ltb (8 * marks) k (omega arith))

  -- and nothing else is
  pub lent-enough : 2 * k ≤ table → div_ceil k 8 ≤ marks → lent_refusal s table marks ≡ 0
  unfolding first lent_reasons short_table short_marks
  lent-enough l h = rw (← is, le-ltb table (2 * k) l, le-ltb (8 * marks) k (omega arith))

-- ---- an `01` line's own

-- a refusal with a number is answered with it
pub answered : {A : Type 0} (P : A → Type 0) (k : ℕ) (x : Result A Refusal) (e : Refusal) → IsErrAnd x (λ y. y ≡ e) → number_of e ≡ k → RefusedOr k P x
answered P k x e is known = let (y, its, same) = err_from_is_err_and x is in rw (its, same) known

-- settings that are refused refuse the line
pub settings-refused : (s : Settings) (table marks : ℕ) (e : Refusal) → number_of e ≡ settings_refusal s → number_of e ≡ open_refusal s table marks
settings-refused s table marks e known = front-stands (settings_reasons s) (lent_reasons s table marks) (number_of e) known (number-some e)

-- where they pass, what is lent decides
pub settings-passed : (s : Settings) (table marks : ℕ) → settings_refusal s ≡ 0 → open_refusal s table marks ≡ lent_refusal s table marks
unfolding lent_reasons
settings-passed s table marks ok = rest-decides (settings_reasons s) _ 0 (settings-ascend s) (sym ok) refl

-- ---- an `02` line's own

module _ (r : Reader) (table marks : List ℕ) (route : R.Route) where
  -- 23: over accepted settings the way from a route to its cell refuses nothing but what is no route
  pub routeless-line : settings_refusal r.settings ≡ 0 → (e : Refusal) → number_of e ≡ route_refusal r.settings.n r.settings.m r.settings.sender route
      → 23 ≡ tell_refusal (desk r table marks) route
  unfolding first no_route
  routeless-line ok e known =
      let s = r.settings in
      by-test (is_route s.n s.m s.sender (held route))
      (λ (is : is_route s.n s.m s.sender (held route) ≡ true).
      let facts = (settings-accepted s).0 ok in
      let pass = (route-accepted s.n s.m s.sender route).1 (record { layout = layout_of s facts; sender-below = facts.sender-below; route = is }) in
      absurd (number-some e (known ∙ pass)))
      (λ (is : is_route s.n s.m s.sender (held route) ≡ false). rw is)

  module _ (c : ℕ) (found : (route_refusal r.settings.n r.settings.m r.settings.sender route ≡ 0) × (c ≡ cell r.settings.n r.settings.sender (held route))) where
    routed : is_route r.settings.n r.settings.m r.settings.sender (held route) ≡ true
    routed = ((route-accepted r.settings.n r.settings.m r.settings.sender route).0 found.0).route

    -- 24
    pub given-twice : marked marks c ≡ true → 24 ≡ tell_refusal (desk r table marks) route
    unfolding first no_route
    given-twice set = rw (routed, ← found.1, set)

    -- where neither applies, what is lent decides
    pub told-once : marked marks c ≡ false → tell_refusal (desk r table marks) route ≡ lent_refusal r.settings (length table) (length marks)
    unfolding first no_route lent_reasons
    told-once unset = rw (routed, ← found.1, unset)

-- ---- by what is said

-- a line that is no `01` line is in its place only behind an accepted one
opened-before : (r : Reader) (frame : List ℕ) → out_of_place (stage_of r) (kind_of frame) ≡ false → eqb (get_or frame 0 0) 1 ≡ false → settings_refusal r.settings ≡ 0
unfolding out_of_place in_place stage_of
opened-before r frame e one =
    let k = settings_refusal r.settings in
    by-test (eqb k 0)
    (λ (z : eqb k 0 ≡ true). eqb-true k 0 z)
    (λ (z : eqb k 0 ≡ false). absurd (true≢false (rw (z, one) at e)))

-- so what it says may be asked
pub ready : (r : Reader) (frame : List ℕ) → out_of_place (stage_of r) (kind_of frame) ≡ false → Ready r (line_in frame)
unfolding line_in
ready r frame e =
    by-test (eqb (get_or frame 0 0) 1)
    (λ (one : eqb (get_or frame 0 0) 1 ≡ true). rw one tt)
    (λ (one : eqb (get_or frame 0 0) 1 ≡ false).
    by-test (eqb (get_or frame 0 0) 2)
    (λ (two : eqb (get_or frame 0 0) 2 ≡ true). rw (one, two) (opened-before r frame e one))
    (λ (two : eqb (get_or frame 0 0) 2 ≡ false). rw (one, two) (opened-before r frame e one)))

-- a frame's refusals are those of what it says
pub kind-said : (d : Desk) (frame : List ℕ) → first (kind_reasons d frame) ≡ said_refusal d (line_in frame)
unfolding line_in kind_reasons open_reasons tell_reasons close_reasons routeless given_before cell_in wrong_count lent_reasons
kind-said d frame =
    by-test (eqb (get_or frame 0 0) 1)
    (λ (one : eqb (get_or frame 0 0) 1 ≡ true). rw one)
    (λ (one : eqb (get_or frame 0 0) 1 ≡ false).
    by-test (eqb (get_or frame 0 0) 2)
    (λ (two : eqb (get_or frame 0 0) 2 ≡ true). rw (one, two))
    (λ (two : eqb (get_or frame 0 0) 2 ≡ false). rw (one, two)))
