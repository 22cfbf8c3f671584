-- What acceptance means, as plain facts: a refusal number is 0 exactly when these facts hold.
use mathlib.Core.Path.{◌≡◌}
use mathlib.Core.Logic.Iff
use mathlib.Core.Logic.{◌↔◌}
use mathlib.Core.Bool.{Bool, true, false, not}
use mathlib.Core.List.{List, [], ◌∷◌, ◌++◌}
use Prim.Native.Nat.{ℕ, ◌+◌, ◌*◌, ◌%◌, ◌^◌, ◌≤◌, ◌<◌}
use native.Mathlib.Nat.{div-eq_of_lt, div-lt_iff_lt-mul}
use native.Mathlib.Omega.{arith}
use lib.Dec.{eqb, leb}
use lib.Pow.{pow_pos}
use borrow.Author.Tests.{eqb-false, ne_eqb, ltb-false, le-ltb, leb-false, lt-leb, not-false}
use Rattle.std.proofs.lemmas.Bool.{not_from_true}
use Rattle.std.proofs.lemmas.Bool.Decides.{nat_tests}
use Rattle.rules.specs.Words.{reserved}
use Rattle.rules.specs.Routes.{is_route, held}
use Rattle.rules.specs.Cells.{cells}
use Rattle.rules.specs.Refusals.{Reason, because, first, wrong_nodes, wrong_rounds, low_bound, too_few, too_few_alone, no_sender, reserved_value, stray_fault, wrong_table, wrong_row, no_threshold, odd_list, no_route, no_cell, no_round, settings_reasons, exchange_reasons, layout_reasons, route_reasons, cell_reasons, part_reasons, vote_reasons, settings_refusal, exchange_refusal, route_refusal, cell_refusal, part_refusal, vote_refusal}
use Rattle.rules.specs.declared.Settings.{Settings}
use Rattle.rules.specs.declared.Route as R
use Rattle.rules.proofs.Refused.{NoneApplies, end, ◌⨾◌, none-split, none-join, first-zero, settings-ascend, layout-ascend, exchange-passed, route-passed, cell-passed, part-passed, vote-passed}

-- ---- the facts

-- nodes and rounds, where no u is taken
pub record LayoutAccepted (n m : ℕ) : Type 0 where
  pub four : 4 ≤ n
  pub fifteen : n ≤ 15
  pub one : 1 ≤ m
  pub three : m ≤ 3
  pub enough : 3 * m < n

-- the settings of an exchange
pub record SettingsAccepted (s : Settings) : Type 0 where
  pub four : 4 ≤ s.n
  pub fifteen : s.n ≤ 15
  pub one : 1 ≤ s.m
  pub three : s.m ≤ 3
  pub bound : s.m ≤ s.u
  pub enough : 2 * s.m + s.u < s.n
  pub sender-below : s.sender < s.n
  pub value-plain : s.value ≤ 65000
  pub faults-below : s.faults < 2 ^ s.n

-- an exchange over a table and a row of so many bytes
pub record ExchangeAccepted (s : Settings) (table row : ℕ) : Type 0 where
  pub settings : SettingsAccepted s
  pub table_is : table ≡ 2 * cells s.n s.m
  pub row_is : row ≡ 2 * s.n

-- route to cell
pub record RouteAccepted (n m sender : ℕ) (r : R.Route) : Type 0 where
  pub layout : LayoutAccepted n m
  pub sender-below : sender < n
  pub route : is_route n m sender (held r) ≡ true

-- cell to route
pub record CellAccepted (n m sender c : ℕ) : Type 0 where
  pub layout : LayoutAccepted n m
  pub sender-below : sender < n
  pub cell_below : c < cells n m

-- one round's part of a table of so many bytes
pub record PartAccepted (n m table round : ℕ) : Type 0 where
  pub layout : LayoutAccepted n m
  pub table_is : table ≡ 2 * cells n m
  pub round-below : round ≤ m

-- the vote over a list of so many bytes
pub record VoteAccepted (q list : ℕ) : Type 0 where
  pub positive : 1 ≤ q
  pub even : list % 2 ≡ 0

-- ---- each condition, where it does not hold

nodes-right : (n : ℕ) → (wrong_nodes n ≡ false) ↔ ((4 ≤ n) × (n ≤ 15))
unfolding wrong_nodes
nodes-right n = (λ e. (grind (arith, nat_tests), grind (arith, nat_tests)), λ h. grind (arith, nat_tests))

rounds-right : (m : ℕ) → (wrong_rounds m ≡ false) ↔ ((1 ≤ m) × (m ≤ 3))
unfolding wrong_rounds
rounds-right m = (λ e. (grind (arith, nat_tests), grind (arith, nat_tests)), λ h. grind (arith, nat_tests))

faults-right : (n faults : ℕ) → (stray_fault n faults ≡ false) ↔ (faults < 2 ^ n)
unfolding stray_fault
faults-right n faults =
    let small = div-lt_iff_lt-mul {k = 2 ^ n} {x = faults} {y = 1} (pow_pos n) in
    (λ e. grind (arith, nat_tests, small.0), λ h. rw (div-eq_of_lt h))

-- a test of difference fails exactly where the two are equal
same : (a b : ℕ) → (not (eqb a b) ≡ false) ↔ (a ≡ b)
same a b = (λ e. grind (arith, nat_tests), λ e. grind (arith, nat_tests))

above : (a b : ℕ) → (leb a b ≡ false) ↔ (b < a)
above a b = (leb-false a b, lt-leb a b)

-- ---- settings and layout

layout-facts : (n m : ℕ) → NoneApplies (layout_reasons n m) ↔ LayoutAccepted n m
unfolding layout_reasons too_few_alone
layout-facts n m = (to, from)
  where
    to : NoneApplies (layout_reasons n m) → LayoutAccepted n m
    to (e1 ⨾ e2 ⨾ e4 ⨾ end) =
        let nodes = (nodes-right n).0 e1 in
        let rounds = (rounds-right m).0 e2 in
        record { four = nodes.0; fifteen = nodes.1; one = rounds.0; three = rounds.1; enough = leb-false n (3 * m) e4 }

    from : LayoutAccepted n m → NoneApplies (layout_reasons n m)
    from a = (nodes-right n).1 (a.four, a.fifteen) ⨾ (rounds-right m).1 (a.one, a.three) ⨾ lt-leb n (3 * m) a.enough ⨾ end

settings-facts : (s : Settings) → NoneApplies (settings_reasons s) ↔ SettingsAccepted s
unfolding settings_reasons low_bound too_few no_sender reserved_value reserved
settings-facts s = (to, from)
  where
    to : NoneApplies (settings_reasons s) → SettingsAccepted s
    to (e1 ⨾ e2 ⨾ e3 ⨾ e4 ⨾ e5 ⨾ e6 ⨾ e7 ⨾ end) =
        let nodes = (nodes-right s.n).0 e1 in
        let rounds = (rounds-right s.m).0 e2 in
        record {
          four = nodes.0;
          fifteen = nodes.1;
          one = rounds.0;
          three = rounds.1;
          bound = ltb-false s.u s.m e3;
          enough = leb-false s.n (2 * s.m + s.u) e4;
          sender-below = leb-false s.n s.sender e5;
          value-plain = ltb-false 65000 s.value e6;
          faults-below = (faults-right s.n s.faults).0 e7;
        }

    from : SettingsAccepted s → NoneApplies (settings_reasons s)
    from a =
        (nodes-right s.n).1 (a.four, a.fifteen)
        ⨾ (rounds-right s.m).1 (a.one, a.three)
        ⨾ le-ltb s.u s.m a.bound
        ⨾ lt-leb s.n (2 * s.m + s.u) a.enough
        ⨾ lt-leb s.n s.sender a.sender-below
        ⨾ le-ltb 65000 s.value a.value-plain
        ⨾ (faults-right s.n s.faults).1 a.faults-below
        ⨾ end

-- ---- exactly when a call is accepted

pub settings-accepted : (s : Settings) → (settings_refusal s ≡ 0) ↔ SettingsAccepted s
settings-accepted s = Iff.trans (first-zero 0 (settings_reasons s) (settings-ascend s)) (settings-facts s)

-- two reasons after a list
two-more : {F A B : Type 0} (front : List Reason) (i j : ℕ) (a b : Bool) → NoneApplies front ↔ F → (a ≡ false) ↔ A → (b ≡ false) ↔ B
    → NoneApplies (front ++ (because i a ∷ because j b ∷ [])) ↔ (F × A × B)
two-more {F = F} {A = A} {B = B} front i j a b f p q = (λ h. apart (none-split front (because i a ∷ because j b ∷ []) h), λ h. none-join (f.1 h.0) (p.1 h.1 ⨾ q.1 h.2 ⨾ end))
  where
    apart : NoneApplies front × NoneApplies (because i a ∷ because j b ∷ []) → F × A × B
    apart (h, x ⨾ y ⨾ end) = (f.0 h, p.0 x, q.0 y)

pub exchange-accepted : (s : Settings) (table row : ℕ) → (exchange_refusal s table row ≡ 0) ↔ ExchangeAccepted s table row
unfolding exchange_reasons wrong_table wrong_row
exchange-accepted s table row =
    Iff.trans (exchange-passed s table row)
    (Iff.trans (two-more (settings_reasons s) 8 9 (wrong_table s.n s.m table) (wrong_row s.n row) (settings-facts s) (same table (2 * cells s.n s.m)) (same row (2 * s.n)))
    (λ h. record { settings = h.0; table_is = h.1; row_is = h.2 }, λ a. (a.settings, a.table_is, a.row_is)))

pub route-accepted : (n m sender : ℕ) (r : R.Route) → (route_refusal n m sender r ≡ 0) ↔ RouteAccepted n m sender r
unfolding route_reasons no_sender no_route
route-accepted n m sender r =
    Iff.trans (route-passed n m sender r)
    (Iff.trans (two-more (layout_reasons n m) 5 13 (no_sender n sender) (no_route n m sender r) (layout-facts n m) (above n sender) (not-false (is_route n m sender (held r)), not_from_true (is_route n m sender (held r))))
    (λ h. record { layout = h.0; sender-below = h.1; route = h.2 }, λ a. (a.layout, a.sender-below, a.route)))

pub cell-accepted : (n m sender c : ℕ) → (cell_refusal n m sender c ≡ 0) ↔ CellAccepted n m sender c
unfolding cell_reasons no_sender no_cell
cell-accepted n m sender c =
    Iff.trans (cell-passed n m sender c)
    (Iff.trans (two-more (layout_reasons n m) 5 14 (no_sender n sender) (no_cell n m c) (layout-facts n m) (above n sender) (above (cells n m) c))
    (λ h. record { layout = h.0; sender-below = h.1; cell_below = h.2 }, λ a. (a.layout, a.sender-below, a.cell_below)))

pub part-accepted : (n m table round : ℕ) → (part_refusal n m table round ≡ 0) ↔ PartAccepted n m table round
unfolding part_reasons wrong_table no_round
part-accepted n m table round =
    Iff.trans (part-passed n m table round)
    (Iff.trans (two-more (layout_reasons n m) 8 15 (wrong_table n m table) (no_round m round) (layout-facts n m) (same table (2 * cells n m)) (ltb-false m round, le-ltb m round))
    (λ h. record { layout = h.0; table_is = h.1; round-below = h.2 }, λ a. (a.layout, a.table_is, a.round-below)))

pub vote-accepted : (q list : ℕ) → (vote_refusal q list ≡ 0) ↔ VoteAccepted q list
unfolding vote_reasons no_threshold odd_list
vote-accepted q list = Iff.trans (vote-passed q list) (to, from)
  where
    to : NoneApplies (vote_reasons q list) → VoteAccepted q list
    to (e11 ⨾ e12 ⨾ end) = record { positive = omega (arith, eqb-false q 0 e11); even = (same (list % 2) 0).0 e12 }

    from : VoteAccepted q list → NoneApplies (vote_reasons q list)
    from a = ne_eqb q 0 (omega (arith, a.positive)) ⨾ (same (list % 2) 0).1 a.even ⨾ end

-- ---- what follows from acceptance, for proofs that need less

-- an accepted exchange has accepted settings
pub settings-of : (s : Settings) (table row : ℕ) → exchange_refusal s table row ≡ 0 → SettingsAccepted s
settings-of s table row e = ((exchange-accepted s table row).0 e).settings

-- nodes and rounds that are accepted with a u are accepted without one
pub layout_of : (s : Settings) → SettingsAccepted s → LayoutAccepted s.n s.m
layout_of s a =
    record { four = a.four; fifteen = a.fifteen; one = a.one; three = a.three; enough = omega (arith, a.bound, a.enough) }

-- nodes and rounds are judged by the layout's reasons alone
pub layout-accepted : (n m : ℕ) → (first (layout_reasons n m) ≡ 0) ↔ LayoutAccepted n m
layout-accepted n m = Iff.trans (first-zero 0 (layout_reasons n m) (layout-ascend n m)) (layout-facts n m)
