-- Digits, places and cells of routes. Places among the routes of one length ascend with the numbers as written, the first number
-- weighing most; digits, places and cells stand below the number of those there are, and a cell stands in its route's round.
-- Nothing here bounds n or the number of rounds; the sender is a node.
use mathlib.Core.Path.{◌≡◌, refl, ◌∙◌}
use mathlib.Core.Logic.{◌⊎◌, inl, inr}
use mathlib.Core.Bool.{Bool, true}
use mathlib.Core.List.{List, [], ◌∷◌}
use Prim.Native.Nat.{ℕ, zero, suc, ◌+◌, ◌*◌, ◌-◌, ◌≤◌, ◌<◌}
use native.Mathlib.Omega.{arith}
use native.Mathlib.Nat.{mul-le-mul_right, suc-mul}
use native.Mathlib.Numerals.{sub-one}
use lib.ListN.{length}
use Rattle.std.proofs.lemmas.Bool.{cases_order}
use Rattle.std.proofs.lemmas.Bool.Decides.{nat_tests}
use Rattle.rules.specs.Lists.{count, up_to}
use Rattle.rules.specs.Routes.{written, free, receiver, is_path, is_route}
use Rattle.rules.specs.Cells.{routes_of, round_size, cells_before, cells, digit, rank, cell}
use Rattle.rules.proofs.Counting.{count-up_to}
use Rattle.rules.proofs.Receivers.{receiver-below, receiver-free, receiver-is-free, path-head, path-tail, size, level-size}
use Rattle.rules.proofs.Order.{Before, before-rest, before_last}

-- ---- what a route is, in plain facts

pub record RouteOf (n m sender : ℕ) (p : List ℕ) : Type 0 where
  pub some : 1 ≤ length p
  pub short : length p ≤ m + 1
  pub path : is_path n sender p ≡ true

module _ (n m sender : ℕ) (p : List ℕ) where
  -- the test of a route says these facts
  pub route-is : is_route n m sender p ≡ true → RouteOf n m sender p
  unfolding is_route
  route-is r =
      record { some = grind (arith, nat_tests); short = grind (arith, nat_tests); path = grind (arith, nat_tests) }

  -- and they pass it
  pub is-route : RouteOf n m sender p → is_route n m sender p ≡ true
  unfolding is_route
  is-route r = grind (arith, nat_tests)

-- ---- digits

-- what never falls from one number to the next never falls
pub ascends : (f : ℕ → ℕ) → ((k : ℕ) → f k ≤ f (suc k)) → (a b : ℕ) → a ≤ b → f a ≤ f b
ascends f step a zero h = grind arith
ascends f step a (suc b) h = grind (arith, step b, ascends f step a b)

-- among more numbers as many pass a test, or more
pub count-more : (P : ℕ → Bool) (a b : ℕ) → a ≤ b → count P (up_to a) ≤ count P (up_to b)
count-more P = ascends (λ k. count P (up_to k)) (λ k. omega (arith, count-up_to P k))

-- a number that passes is counted as soon as it is passed
pub count_past : (P : ℕ → Bool) (a b : ℕ) → a < b → P a ≡ true → count P (up_to a) < count P (up_to b)
count_past P a b h e =
    let step : count P (up_to (suc a)) ≡ count P (up_to a) + 1 = count-up_to P a ∙ rw e in
    omega (arith, step, count-more P (suc a) b h)

-- a larger free number has the larger digit
digit-ascends : (sender : ℕ) (p : List ℕ) (a b : ℕ) → free (sender ∷ p) a ≡ true → a < b → digit sender p a < digit sender p b
unfolding digit
digit-ascends sender p a b f h = count_past (free (sender ∷ p)) a b h f

-- a digit up to n counts receivers
pub digit-receivers : (n sender : ℕ) (p : List ℕ) (a : ℕ) → a ≤ n → digit sender p a ≡ count (receiver n sender p) (up_to a)
unfolding digit up_to count
digit-receivers n sender p zero h = refl
digit-receivers n sender p (suc a) h =
    count-up_to (free (sender ∷ p)) a
    ∙ rw (← receiver-is-free n sender p a h) (omega (arith, digit-receivers n sender p a (omega arith), count-up_to (receiver n sender p) a))

module _ (n sender : ℕ) (node : sender < n) where
  -- the digit of a receiver is below the number of receivers
  digit_lt : (p : List ℕ) (a : ℕ) → is_path n sender p ≡ true → receiver n sender p a ≡ true → digit sender p a < n - 1 - length p
  unfolding size
  digit_lt p a path r =
      omega (
        arith,
        digit-ascends sender p a n (receiver-free n sender p a r) (receiver-below n sender p a r),
        digit-receivers n sender p n (omega arith),
        level-size n sender node p path,
      )

-- ---- places among the routes of one length

-- a place and a digit, each below its bound, make a place below the product
under : (r d size w : ℕ) → r < size → d < w → r * w + d < size * w
under r d size w h k = omega (arith, mul-le-mul_right w h, suc-mul r w)

-- p stands before q, by the order of rows and by place alike
pub record Lower (n sender : ℕ) (p q : List ℕ) : Type 0 where
  pub row : Before (written p) (written q)
  pub place : rank n sender p < rank n sender q

-- two routes are the same, or one of them stands before the other
abbrev pub Compared : ℕ → ℕ → List ℕ → List ℕ → Type 0
Compared n sender p q = (p ≡ q) ⊎ (Lower n sender p q ⊎ Lower n sender q p)

module _ (n sender : ℕ) (node : sender < n) where
  -- an earlier number weighs more than all later ones together
  lower-rest : (p q : List ℕ) (a b : ℕ) → length p ≡ length q → is_path n sender (a ∷ p) ≡ true → Lower n sender p q → Lower n sender (a ∷ p) (b ∷ q)
  unfolding written rank
  lower-rest p q a b e path l =
      let d = digit_lt n sender node p a (path-tail n sender p a path) (path-head n sender p a path) in
      let u = under (rank n sender p) (digit sender p a) (rank n sender q) (n - 1 - length p) l.place d in
      record { row = before-rest (a ∷ []) (b ∷ []) l.row; place = rw (← e) (omega arith) }

  -- and where the earlier ones are the same, the last decides
  lower_last : (p : List ℕ) (a b : ℕ) → a < b → is_path n sender (a ∷ p) ≡ true → Lower n sender (a ∷ p) (b ∷ p)
  unfolding written rank
  lower_last p a b h path =
      record {
        row = before_last (written p) a b h;
        place = omega (arith, digit-ascends sender p a b (receiver-free n sender p a (path-head n sender p a path)) h);
      }

  -- so the order of rows and that of places are one
  pub compared : (p q : List ℕ) → length p ≡ length q → is_path n sender p ≡ true → is_path n sender q ≡ true → Compared n sender p q
  compared [] [] e P Q = inl refl
  compared [] (b ∷ q) e P Q = absurd (omega arith)
  compared (a ∷ p) [] e P Q = absurd (omega arith)
  compared (a ∷ p) (b ∷ q) e P Q = go (compared p q (omega arith) (path-tail n sender p a P) (path-tail n sender q b Q))
    where
      last : p ≡ q → (a ≡ b) ⊎ ((a < b) ⊎ (b < a)) → Compared n sender (a ∷ p) (b ∷ q)
      last s (inl k) = inl (cc)
      last s (inr (inl d)) = inr (inl (rw (← s) (lower_last p a b d P)))
      last s (inr (inr d)) = inr (inr (rw s (lower_last q b a d Q)))

      go : Compared n sender p q → Compared n sender (a ∷ p) (b ∷ q)
      go (inl s) = last s (cases_order a b)
      go (inr (inl l)) = inr (inl (lower-rest p q a b (omega arith) P l))
      go (inr (inr l)) = inr (inr (lower-rest q p b a (omega arith) Q l))

  -- a place among the routes of a length is below their number
  pub rank_lt : (p : List ℕ) → is_path n sender p ≡ true → rank n sender p < routes_of n (length p)
  unfolding rank routes_of
  rank_lt [] path = omega arith
  rank_lt (a ∷ p) path =
      let rest = path-tail n sender p a path in
      under (rank n sender p) (digit sender p a) (routes_of n (length p)) (n - 1 - length p) (rank_lt p rest) (digit_lt n sender node p a rest (path-head n sender p a path))

-- ---- how many cells stand before a round

-- the next round's cells follow
pub cells-step : (n k : ℕ) → cells_before n (suc k) ≡ cells_before n k + round_size n k
unfolding cells_before
cells-step n k = refl

-- a later round starts no earlier
pub cells-ascend : (n j k : ℕ) → j ≤ k → cells_before n j ≤ cells_before n k
cells-ascend n = ascends (cells_before n) (λ k. omega (arith, cells-step n k))

-- cell c is one of round k's
pub record InRound (n k c : ℕ) : Type 0 where
  pub from : cells_before n k ≤ c
  pub below : c < cells_before n (suc k)

-- the cell of a route of k+1 numbers, without a subtraction
pub cell-is : (n sender k : ℕ) (p : List ℕ) → length p ≡ suc k → cell n sender p ≡ cells_before n k + rank n sender p
unfolding cell
cell-is n sender k p e = rw (e, sub-one)

module _ (n sender : ℕ) (node : sender < n) where
  -- the cell of a route of k+1 numbers is one of round k's
  pub cell-in-round : (k : ℕ) (p : List ℕ) → length p ≡ suc k → is_path n sender p ≡ true → InRound n k (cell n sender p)
  cell-in-round k p e path =
      let is = cell-is n sender k p e in
      let place : rank n sender p < round_size n k = rw e at (rank_lt n sender node p path) in
      record { from = omega arith; below = omega (arith, cells-step n k) }

  -- every route's cell is one of the M
  pub cell-lt : (m : ℕ) (p : List ℕ) → is_route n m sender p ≡ true → cell n sender p < cells n m
  unfolding cells
  cell-lt m p r =
      let route = route-is n m sender p r in
      let k = length p - 1 in
      let e : length p ≡ suc k = omega (arith, route.some) in
      omega (arith, cell-in-round k p e route.path, cells-ascend n (suc k) (m + 1) (omega (arith, route.short)))
