-- Route to cell and cell to route undo each other, and each round's routes fill exactly its cells.
use mathlib.Core.Path.{◌≡◌, refl, sym, ap, ◌∙◌}
use mathlib.Core.Logic.{◌↔◌, ⊎_elim}
use mathlib.Core.Bool.{Bool, true, false}
use mathlib.Core.List.{List, [], ◌∷◌}
use Prim.Native.Nat.{ℕ, zero, suc, ◌*◌, ◌-◌, ◌/◌, ◌%◌, ◌≤◌, ◌<◌}
use native.Mathlib.Omega.{arith}
use native.Mathlib.Nat.{mul-zero, mod-lt, div-lt_iff_lt-mul, div-add-mod'}
use native.Mathlib.Numerals.{add-one}
use lib.ListN.{length, get_or, get_or-append}
use lib.Seq.{get_or_at}
use lib.Dec.{ltb}
use borrow.Author.Tests.{ltb-true, ltb-false}
use Rattle.std.proofs.lemmas.Bool.{cases_lt}
use Rattle.rules.specs.Lists.{count, keep, up_to}
use Rattle.rules.specs.Routes.{receiver, receivers, is_path, is_route}
use Rattle.rules.specs.Cells.{routes_of, cells_before, cells, digit, rank, cell, round_of, unrank, route_at}
use Rattle.rules.proofs.Counting.{by-test, bit-le-one, count-up_to, length-keep, keep_append}
use Rattle.rules.proofs.Receivers.{path-next, size, level-size}
use Rattle.rules.proofs.Numbering.{route-is, is-route, InRound, digit-receivers, cells-step, cells-ascend, cell-is, cell-in-round, cell-lt}
use Rattle.rules.proofs.Ascending.{cell-injective}

-- ---- the d-th number of those below n that pass a test

-- x is the d-th, counted from 0
record Nth (P : ℕ → Bool) (n d x : ℕ) : Type 0 where
  below : x < n
  passes : P x ≡ true
  place : count P (up_to x) ≡ d

-- one number more at the end leaves the earlier places ..
pub keep-first : (P : ℕ → Bool) (n d : ℕ) → d < count P (up_to n) → get_or (keep P (up_to (suc n))) d 0 ≡ get_or (keep P (up_to n)) d 0
unfolding up_to
keep-first P n d h = rw keep_append (get_or-append (keep P (up_to n)) (keep P (n ∷ [])) 0 d (omega (arith, length-keep P (up_to n))))

-- .. and stands behind them if it passes
pub keep-last : (P : ℕ → Bool) (n d : ℕ) → P n ≡ true → d ≡ count P (up_to n) → get_or (keep P (up_to (suc n))) d 0 ≡ n
unfolding up_to keep
keep-last P n d e h = rw (keep_append, e) (get_or_at (keep P (up_to n)) n [] 0 d (length-keep P (up_to n) ∙ sym h))

nth-later : {P : ℕ → Bool} {n d x : ℕ} → Nth P n d x → Nth P (suc n) d x
nth-later h = record { below = omega (arith, h.below); passes = h.passes; place = h.place }

nth : (P : ℕ → Bool) (n d : ℕ) → d < count P (up_to n) → Nth P n d (get_or (keep P (up_to n)) d 0)
unfolding count up_to
nth P zero d h = absurd (omega arith)
nth P (suc n) d h =
    ⊎_elim
    (λ b. rw (keep-first P n d b) (nth-later (nth P n d b)))
    (λ (b : count P (up_to n) ≤ d).
    let e : P n ≡ true = grind (arith, count-up_to P n) in
    let k : d ≡ count P (up_to n) = omega (arith, bit-le-one (P n), count-up_to P n) in
    rw (keep-last P n d e k) (record { below = omega arith; passes = e; place = sym k }))
    (cases_lt d (count P (up_to n)))

-- ---- the route at a place among those of its length

-- it has so many numbers
pub length-unrank : (n sender k c : ℕ) → length (unrank n sender k c) ≡ k
unfolding unrank
length-unrank n sender zero c = refl
length-unrank n sender (suc k) c = ap suc (length-unrank n sender k (c / (n - 1 - k)))

-- what has something below a product has no factor 0
factor : (c r w : ℕ) → c < r * w → 0 < w
factor c r zero h = absurd (omega (arith, mul-zero r))
factor c r (suc w) h = omega arith

-- the number of a digit below the number of receivers is a receiver, and has that digit
receiver-at : (n sender : ℕ) → sender < n → (p : List ℕ) (d : ℕ) → is_path n sender p ≡ true → d < n - 1 - length p →
    (receiver n sender p (get_or (receivers n sender p) d 0) ≡ true) × (digit sender p (get_or (receivers n sender p) d 0) ≡ d)
unfolding receivers size
receiver-at n sender node p d path h =
    let x = nth (receiver n sender p) n d (omega (arith, level-size n sender node p path)) in
    (x.passes, digit-receivers n sender p _ (omega (arith, x.below)) ∙ x.place)

-- p is a path and stands at place c of those as long
record At (n sender c : ℕ) (p : List ℕ) : Type 0 where
  path : is_path n sender p ≡ true
  place : rank n sender p ≡ c

unranked : (n sender : ℕ) → sender < n → (k c : ℕ) → c < routes_of n k → At n sender c (unrank n sender k c)
unfolding unrank rank routes_of is_path
unranked n sender node zero c h = record { path = refl; place = omega arith }
unranked n sender node (suc k) c h =
    let w = n - 1 - k in
    let wide : 0 < w = factor c (routes_of n k) w h in
    let p = unrank n sender k (c / w) in
    let long : length p ≡ k = length-unrank n sender k (c / w) in
    let u = unranked n sender node k (c / w) ((div-lt_iff_lt-mul wide).1 h) in
    let a = receiver-at n sender node p (c % w) u.path (rw long (mod-lt c wide)) in
    record { path = path-next n sender p _ a.0 u.path; place = rw (long, a.1, u.place) (div-add-mod' c w) }

-- ---- the round of a cell

-- it is one of rounds 0 to m
pub round-most : (n m c : ℕ) → round_of n m c ≤ m
unfolding round_of
round-most n zero c = omega arith
round-most n (suc m) c = grind (arith, round-most n m c)

round-holds : (n m c : ℕ) → c < cells_before n (suc m) → InRound n (round_of n m c) c
unfolding round_of cells_before
round-holds n zero c h = record { from = omega arith; below = h }
round-holds n (suc m) c h =
    by-test (ltb c (cells_before n (suc m)))
    (λ (t : ltb c (cells_before n (suc m)) ≡ true). rw t (round-holds n m c (ltb-true c (cells_before n (suc m)) t)))
    (λ (t : ltb c (cells_before n (suc m)) ≡ false). rw t (record { from = ltb-false c (cells_before n (suc m)) t; below = h }))

-- the rounds fill 0 to M-1: each of these cells stands in its round ..
pub round-of : (n m c : ℕ) → c < cells n m → InRound n (round_of n m c) c
unfolding cells
round-of n m c h = round-holds n m c (rw add-one at h)

-- .. and in no other
pub one-round : (n j k c : ℕ) → InRound n j c → InRound n k c → j ≡ k
one-round n j k c a b = grind (arith, cells-ascend n (suc j) k, cells-ascend n (suc k) j)

-- ---- both conversions undo each other

-- c is the cell of a route of k+1 numbers
pub record CellOf (n sender k c : ℕ) : Type 0 where
  pub route : List ℕ
  pub long : length route ≡ suc k
  pub path : is_path n sender route ≡ true
  pub its : cell n sender route ≡ c

module _ (n sender : ℕ) (node : sender < n) where
  -- the route of k+1 numbers that stands in cell c of round k
  at-cell : (k c : ℕ) → InRound n k c → CellOf n sender k c
  at-cell k c r =
      let place = c - cells_before n k in
      let p = unrank n sender (suc k) place in
      let long : length p ≡ suc k = length-unrank n sender (suc k) place in
      let u = unranked n sender node (suc k) place (omega (arith, r, cells-step n k)) in
      record { route = p; long = long; path = u.path; its = omega (arith, cell-is n sender k p long, u.place, r.from) }

  -- the routes of k+1 numbers fill exactly the cells of round k
  pub round_filled : (k c : ℕ) → InRound n k c ↔ CellOf n sender k c
  round_filled k c = (at-cell k c, λ r. rw r.its at (cell-in-round n sender node k r.route r.long r.path))

  module _ (m : ℕ) where
    -- a cell's route is a route
    pub route-at-is : (c : ℕ) → c < cells n m → is_route n m sender (route_at n m sender c) ≡ true
    unfolding route_at at-cell
    route-at-is c h =
        let r = at-cell (round_of n m c) c (round-of n m c h) in
        is-route n m sender r.route (record { some = omega (arith, r.long); short = omega (arith, r.long, round-most n m c); path = r.path })

    -- and its cell is the one that was asked
    pub cell-of-route-at : (c : ℕ) → c < cells n m → cell n sender (route_at n m sender c) ≡ c
    unfolding route_at at-cell
    cell-of-route-at c h = (at-cell (round_of n m c) c (round-of n m c h)).its

    -- the route of a route's cell is that route
    pub route-at-of-cell : (p : List ℕ) → is_route n m sender p ≡ true → route_at n m sender (cell n sender p) ≡ p
    route-at-of-cell p h =
        let c = cell n sender p in
        let below = cell-lt n sender node m p h in
        let r = route-is n m sender p h in
        let r' = route-is n m sender (route_at n m sender c) (route-at-is c below) in
        cell-injective n sender node (route_at n m sender c) p r'.path r.path r'.some r.some (cell-of-route-at c below)
