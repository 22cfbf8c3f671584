-- A relay put before the receiver of a route: it makes a route again, of one number more.
use mathlib.Core.Path.{◌≡◌, refl, sym}
use mathlib.Core.Bool.{true, false}
use mathlib.Core.List.{List, [], ◌∷◌}
use Prim.Native.Nat.{ℕ, suc, ◌≤◌}
use native.Mathlib.Omega.{arith}
use lib.ListN.{length}
use lib.Dec.{eqb}
use borrow.Author.Tests.{eqb-false, ne_eqb}
use Rattle.rules.specs.Routes.{receiver, is_path, is_route}
use Rattle.rules.specs.Decision.{via}
use Rattle.rules.proofs.Receivers.{receiver-tail, receiver-apart, receiver-next, path-next, path-tail, path-head}
use Rattle.rules.proofs.Numbering.{route-is, is-route}

-- one number more
pub length-via : (j : ℕ) (r : List ℕ) → length (via j r) ≡ suc (length r)
unfolding via
length-via j [] = refl
length-via j (i ∷ p) = refl

module _ (n sender : ℕ) where
  -- who is free beside a path may relay to its receiver
  pub path-via : (j : ℕ) (r : List ℕ) → is_path n sender r ≡ true → receiver n sender r j ≡ true → is_path n sender (via j r) ≡ true
  unfolding via
  path-via j [] path h = path-next n sender [] j h path
  path-via j (i ∷ p) path h =
      let other : eqb j i ≡ false = ne_eqb j i (λ e. eqb-false i j (receiver-apart n sender i p j h) (sym e)) in
      path-next n sender (j ∷ p) i (receiver-next n sender j p i other (path-head n sender p i path))
      (path-next n sender p j (receiver-tail n sender i p j h) (path-tail n sender p i path))

  -- while the route has fewer than m+1 numbers
  pub route-via : (m j : ℕ) (r : List ℕ) → is_route n m sender r ≡ true → length r ≤ m → receiver n sender r j ≡ true → is_route n m sender (via j r) ≡ true
  route-via m j r route room h =
      let l = length-via j r in
      is-route n m sender (via j r) (record { some = omega arith; short = omega arith; path = path-via j r (route-is n m sender r route).path h })
