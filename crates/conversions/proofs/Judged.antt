-- Refusals as the code finds them: nodes and rounds first, a sender where one is taken, then what follows them.
use mathlib.Core.Path.{◌≡◌, refl, sym, ◌∙◌}
use mathlib.Core.Bool.{true, false}
use mathlib.Core.List.{List, [], ◌∷◌, ◌++◌}
use Prim.Native.Nat.{ℕ, ◌+◌, ◌*◌, ◌≤◌, ◌<◌}
use native.Mathlib.Omega.{arith}
use borrow.Author.Tests.{le-leb, lt-leb, lt-ltb, le-ltb, eq-eqb, ne_eqb}
use mir.Syntax.{w8, w64}
use mir.Val.{Fits}
use Rattle.std.specs.Prelude.{Result}
use Rattle.std.specs.Result.{IsErrAnd}
use Rattle.std.proofs.lemmas.Result.{err_from_is_err_and}
use Rattle.rules.specs.Routes.{held, is_route}
use Rattle.rules.specs.Cells.{cells}
use Rattle.rules.specs.Numbers.{number_of, RefusedOr}
use Rattle.rules.specs.Refusals.{Reason, because, first, no_sender, wrong_table, no_route, no_cell, no_round, layout_reasons, route_reasons, cell_reasons, part_reasons, route_refusal, cell_refusal, part_refusal}
use Rattle.rules.specs.declared.Refusal.{Refusal}
use Rattle.rules.specs.declared.Route as R
use Rattle.rules.proofs.Numbers.{number-some}
use Rattle.rules.proofs.Refused.{ascending, numbers, layout-ascend, front-stands, rest-decides}
use Rattle.rules.proofs.Accepted.{LayoutAccepted, layout-accepted}
use Rattle.rules.proofs.Growth.{messages-most}
use Rattle.routes.specs.Needs.{Depth}
use Rattle.settings.proofs.Depths.{layout-deep}
use Rattle.conversions.specs.Among.{network_reasons}

-- ---- one list of reasons after another

-- a refusal by the first list is one by both, and is handed on
handed-on : {A : Type 0} (P : A → Type 0) (l rest : List Reason) (r : Result A Refusal) (e : Refusal) → IsErrAnd r (λ y. y ≡ e) → number_of e ≡ first l
    → RefusedOr (first (l ++ rest)) P r
handed-on P l rest r e is known =
    let (y, its, same) = err_from_is_err_and r is in
    rw (its, same) (front-stands l rest (number_of e) known (number-some e))

module _ {A : Type 0} (P : A → Type 0) (n m : ℕ) (r : Result A Refusal) (e : Refusal) (is : IsErrAnd r (λ y. y ≡ e)) where
  -- nodes and rounds refuse a network and a part of a table,
  module _ (known : number_of e ≡ first (layout_reasons n m)) where
    pub layout-refuses : (sender : ℕ) → RefusedOr (first (network_reasons n m sender)) P r
    unfolding network_reasons
    layout-refuses sender = handed-on P (layout_reasons n m) (because 5 (no_sender n sender) ∷ []) r e is known

    pub layout-refuses-part : (bytes round : ℕ) → RefusedOr (part_refusal n m bytes round) P r
    unfolding part_reasons
    layout-refuses-part bytes round = handed-on P (layout_reasons n m) (because 8 (wrong_table n m bytes) ∷ because 15 (no_round m round) ∷ []) r e is known

  -- and a network both conversions
  module _ (sender : ℕ) (known : number_of e ≡ first (network_reasons n m sender)) where
    pub network-refuses-route : (p : R.Route) → RefusedOr (route_refusal n m sender p) P r
    unfolding route_reasons network_reasons layout_reasons
    network-refuses-route p = handed-on P (network_reasons n m sender) (because 13 (no_route n m sender p) ∷ []) r e is known

    pub network-refuses-cell : (c : ℕ) → RefusedOr (cell_refusal n m sender c) P r
    unfolding cell_reasons network_reasons layout_reasons
    network-refuses-cell c = handed-on P (network_reasons n m sender) (because 14 (no_cell n m c) ∷ []) r e is known

-- ---- nodes and rounds that are accepted

module _ (n m : ℕ) (pass : first (layout_reasons n m) ≡ 0) where
  after-layout : (rest : List Reason) → first (layout_reasons n m ++ rest) ≡ first rest
  after-layout rest = rest-decides (layout_reasons n m) rest 0 (layout-ascend n m) (sym pass) refl

  accepted : LayoutAccepted n m
  accepted = (layout-accepted n m).0 pass

  pub all-rounds : Depth n (m + 1)
  all-rounds = layout-deep n m accepted

  pub table_fits : (c : ℕ) → c ≡ cells n m → Fits w64 (2 * c)
  table_fits c e = record { fits = omega (arith, messages-most n m accepted) }

  -- the sender comes next ..
  module _ (sender : ℕ) where
    pub sender-refused : n ≤ sender → 5 ≡ first (network_reasons n m sender)
    unfolding network_reasons first no_sender
    sender-refused h = rw (after-layout, le-leb n sender h)

    pub network-taken : sender < n → first (network_reasons n m sender) ≡ 0
    unfolding network_reasons first no_sender
    network-taken h = rw (after-layout, lt-leb n sender h)

    pub sender-byte : sender < n → Fits w8 sender
    sender-byte h = let a = accepted in record { fits = omega arith }

  -- .. or, where none is taken, the table and the round
  module _ (bytes round M : ℕ) (all : M ≡ cells n m) where
    pub table-refused : (bytes ≡ 2 * M → ⊥) → 8 ≡ part_refusal n m bytes round
    unfolding part_reasons first wrong_table
    table-refused h = rw (after-layout, ← all, ne_eqb bytes (2 * M) h)

    module _ (right : bytes ≡ 2 * M) where
      pub round-refused : m < round → 15 ≡ part_refusal n m bytes round
      unfolding part_reasons first wrong_table no_round
      round-refused h = rw (after-layout, ← all, eq-eqb bytes (2 * M) right, lt-ltb m round h)

      pub round-taken : round ≤ m → part_refusal n m bytes round ≡ 0
      unfolding part_reasons first wrong_table no_round
      round-taken h = rw (after-layout, ← all, eq-eqb bytes (2 * M) right, le-ltb m round h)

-- ---- a network that is accepted

network-ascend : (n m sender : ℕ) → ascending 0 (numbers (network_reasons n m sender)) ≡ true
unfolding ascending network_reasons layout_reasons
network-ascend n m sender = refl

module _ (n m sender : ℕ) (pass : first (network_reasons n m sender) ≡ 0) where
  after-network : (rest : List Reason) → first (network_reasons n m sender ++ rest) ≡ first rest
  after-network rest = rest-decides (network_reasons n m sender) rest 0 (network-ascend n m sender) (sym pass) refl

  -- the route comes next,
  module _ (r : R.Route) where
    pub route-refused : false ≡ is_route n m sender (held r) → 13 ≡ route_refusal n m sender r
    unfolding route_reasons network_reasons layout_reasons first no_route
    route-refused e = sym (after-network (because 13 (no_route n m sender r) ∷ []) ∙ rw (← e))

    pub route-taken : true ≡ is_route n m sender (held r) → route_refusal n m sender r ≡ 0
    unfolding route_reasons network_reasons layout_reasons first no_route
    route-taken e = after-network (because 13 (no_route n m sender r) ∷ []) ∙ rw (← e)

  -- or the cell
  module _ (c M : ℕ) (all : M ≡ cells n m) where
    pub cell-refused : M ≤ c → 14 ≡ cell_refusal n m sender c
    unfolding cell_reasons network_reasons layout_reasons first no_cell
    cell-refused h = sym (after-network (because 14 (no_cell n m c) ∷ []) ∙ rw (← all, le-leb M c h))

    pub cell-taken : c < M → cell_refusal n m sender c ≡ 0
    unfolding cell_reasons network_reasons layout_reasons first no_cell
    cell-taken h = after-network (because 14 (no_cell n m c) ∷ []) ∙ rw (← all, lt-leb M c h)
