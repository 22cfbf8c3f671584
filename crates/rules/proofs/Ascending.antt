-- The numbering is the paper's: rounds stand one after another, and inside a round routes stand in ascending order, the first
-- number weighing most. So no two routes share a cell.
use mathlib.Core.Path.{◌≡◌, sym, ap, ◌∙◌}
use mathlib.Core.Logic.{◌⊎◌, inl, inr, ◌↔◌}
use mathlib.Core.Bool.{true}
use mathlib.Core.List.{List}
use Prim.Native.Nat.{ℕ, suc, ◌-◌, ◌≤◌, ◌<◌}
use native.Mathlib.Omega.{arith}
use lib.ListN.{length}
use Rattle.std.proofs.lemmas.Bool.{cases_order}
use Rattle.rules.specs.Routes.{written, is_path}
use Rattle.rules.specs.Cells.{cell}
use Rattle.rules.proofs.Order.{Before, before-one-way}
use Rattle.rules.proofs.Numbering.{Compared, compared, cells-ascend, cell-is, cell-in-round}

module _ (n sender : ℕ) (node : sender < n) where
  -- rounds stand one after another
  pub rounds-in-turn : (p q : List ℕ) → is_path n sender p ≡ true → is_path n sender q ≡ true → 1 ≤ length p → length p < length q
      → cell n sender p < cell n sender q
  rounds-in-turn p q P Q some shorter =
      let j = length p - 1 in
      let k = length q - 1 in
      omega (
        arith,
        cell-in-round n sender node j p (omega arith) P,
        cells-ascend n (suc j) k (omega arith),
        cell-in-round n sender node k q (omega arith) Q,
      )

  module _ (k : ℕ) (p q : List ℕ) (p-long : length p ≡ suc k) (q-long : length q ≡ suc k) (P : is_path n sender p ≡ true) (Q : is_path n sender q ≡ true) where
    compare : Compared n sender p q
    compare = compared n sender node p q (p-long ∙ sym q-long) P Q

    lower-cell : Before (written p) (written q) → cell n sender p < cell n sender q
    lower-cell h = go compare
      where
        go : Compared n sender p q → cell n sender p < cell n sender q
        go (inl e) = let self : Before (written p) (written p) = rw (← e) at h in absurd (before-one-way self self)
        go (inr (inl l)) = omega (arith, cell-is n sender k p p-long, cell-is n sender k q q-long, l.place)
        go (inr (inr l)) = absurd (before-one-way h l.row)

    written-earlier : cell n sender p < cell n sender q → Before (written p) (written q)
    written-earlier h = go compare
      where
        go : Compared n sender p q → Before (written p) (written q)
        go (inl e) = absurd (omega (arith, ap (cell n sender) e))
        go (inr (inl l)) = l.row
        go (inr (inr l)) = absurd (omega (arith, cell-is n sender k p p-long, cell-is n sender k q q-long, l.place))

    -- inside a round a route stands in a lower cell exactly when it is written earlier
    pub ascending : Before (written p) (written q) ↔ (cell n sender p < cell n sender q)
    ascending = (lower-cell, written-earlier)

    same-round : cell n sender p ≡ cell n sender q → p ≡ q
    same-round h = go compare
      where
        go : Compared n sender p q → p ≡ q
        go (inl e) = e
        go (inr (inl l)) = absurd (omega (arith, cell-is n sender k p p-long, cell-is n sender k q q-long, l.place))
        go (inr (inr l)) = absurd (omega (arith, cell-is n sender k p p-long, cell-is n sender k q q-long, l.place))

  -- no two routes share a cell
  pub cell-injective : (p q : List ℕ) → is_path n sender p ≡ true → is_path n sender q ≡ true → 1 ≤ length p → 1 ≤ length q
      → cell n sender p ≡ cell n sender q → p ≡ q
  cell-injective p q P Q some other h = go (cases_order (length p) (length q))
    where
      go : (length p ≡ length q) ⊎ ((length p < length q) ⊎ (length q < length p)) → p ≡ q
      go (inl e) = same-round (length p - 1) p q (omega arith) (omega arith) P Q h
      go (inr (inl d)) = absurd (omega (arith, rounds-in-turn p q P Q some d))
      go (inr (inr d)) = absurd (omega (arith, rounds-in-turn q p Q P other d))
