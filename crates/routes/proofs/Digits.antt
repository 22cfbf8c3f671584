-- Digits and ranks of a row, number by number, as the code builds them.
use mathlib.Core.Path.{◌≡◌, refl, ap}
use mathlib.Core.Bool.{Bool, true, false}
use mathlib.Core.List.{List, [], ◌∷◌}
use Prim.Native.Nat.{ℕ, zero, suc, ◌+◌, ◌*◌, ◌-◌, ◌≤◌, ◌<◌}
use native.Mathlib.Omega.{arith}
use native.Mathlib.Numerals.{add-one}
use lib.ListN.{length, get_or, take}
use lib.Seq.{length-take-le, get_or-take}
use lib.Dec.{eqb, ltb, leb}
use borrow.Author.Tests.{eqb-true, eq-eqb, ltb-true, ltb-false, leb-true, leb-false}
use mir.Syntax.{w64}
use mir.Val.{Fits, bool_byte}
use Rattle.rules.specs.Lists.{bit, count, up_to}
use Rattle.rules.specs.Routes.{back, held, free, is_path}
use Rattle.rules.specs.Cells.{routes_of, cells_before, digit, rank, cell}
use Rattle.rules.specs.declared.Route as R
use Rattle.rules.proofs.Counting.{by-test, once, count-split, count-up_to}
use Rattle.rules.proofs.Receivers.{free_other, free-self, free-swap, receiver-free, path-head, path-tail}
use Rattle.rules.proofs.Numbering.{count-more, count_past, rank_lt}
use Rattle.rules.proofs.Rows.{length_back}
use Rattle.routes.specs.Needs.{Numbered, RankedTo, Apart}
use Rattle.routes.proofs.Sizes.{routes-most}

-- ---- a digit: one used node more

-- a number stands once among the numbers below a, if it is below a
met : (y a : ℕ) → count (eqb y) (up_to a) ≡ bit (ltb y a)
met y a = by-test (ltb y a)
    (λ (e : ltb y a ≡ true). rw e (once y a (ltb-true y a e)))
    (λ (e : ltb y a ≡ false).
    rw e (omega (
      arith,
      count-more (eqb y) a y (ltb-false y a e),
      count_past (eqb y) y (suc y) (omega arith) (eq-eqb y y refl),
      once y (suc y) (omega arith),
    )))

-- beside one node more, one number fewer is free, if that node is below and was free
free-less : (y : ℕ) (used : List ℕ) (a : ℕ) → free used y ≡ true → count (free (y ∷ used)) (up_to a) + bit (ltb y a) ≡ count (free used) (up_to a)
free-less y used a f = omega (arith, met y a, count-split (free used) (free (y ∷ used)) (eqb y) (up_to a) bits)
  where
    bits : (x : ℕ) → bit (free used x) ≡ bit (free (y ∷ used) x) + bit (eqb y x)
    bits x = by-test (eqb y x)
        (λ (e : eqb y x ≡ true). rw (e, ← eqb-true y x e, free-self, f) (omega arith))
        (λ (e : eqb y x ≡ false). rw (e, free_other y used x e) (omega arith))

-- all are free beside nobody
free_all : (a : ℕ) → count (free []) (up_to a) ≡ a
unfolding count up_to free
free_all zero = refl
free_all (suc a) = omega (arith, count-up_to (free []) a, free_all a)

bool-bit : (b : Bool) → bool_byte b ≡ bit b
bool-bit true = refl
bool-bit false = refl

-- the sender uses one of the nodes below a, if it is one
pub digit-first : (sender a d w : ℕ) → d ≡ a → w ≡ bool_byte (ltb sender a) → d - w ≡ digit sender [] a
unfolding digit free
digit-first sender a d w ed ew = omega (arith, free_all a, bool-bit (ltb sender a), free-less sender [] a refl)

-- the first numbers of a path are a path
pub path-first : (n sender : ℕ) (row : List ℕ) (j k : ℕ) → j ≤ k → is_path n sender (back row k) ≡ true → is_path n sender (back row j) ≡ true
unfolding back
path-first n sender row j zero h p = let e : j ≡ 0 = omega arith in rw e p
path-first n sender row j (suc k) h p =
    by-test (leb j k)
    (λ (t : leb j k ≡ true). path-first n sender row j k (leb-true j k t) (path-tail n sender (back row k) (get_or row k 0) p))
    (λ (t : leb j k ≡ false). let e : j ≡ suc k = omega (arith, leb-false j k t) in rw e p)

-- one number of a row more
digit-less : (sender : ℕ) (r : R.Route) (k a : ℕ) → Apart sender r (k + 1) →
    digit sender (back r.nodes (k + 1)) a + bit (ltb (get_or r.nodes k 0) a) ≡ digit sender (back r.nodes k) a
unfolding digit back
digit-less sender r k a p =
    let y = get_or r.nodes k 0 in
    let rest = back r.nodes k in
    let path : is_path p.nodes sender (y ∷ rest) ≡ true = rw add-one at p.path in
    let swap : count (free (sender ∷ y ∷ rest)) (up_to a) ≡ count (free (y ∷ sender ∷ rest)) (up_to a) = λ i. count (λ x. free-swap sender y rest x i) (up_to a) in
    rw (add-one, swap) (free-less y (sender ∷ rest) a (receiver-free p.nodes sender rest y (path-head p.nodes sender rest y path)))

-- beside one of the first k numbers of a row more, one fewer is free if that number is below a
module _ (sender : ℕ) (r : R.Route) (k j a d w : ℕ) (p : Apart sender r k) (whole : length r.nodes ≡ 4) (within : j < length (take k r.nodes))
    (so_far : d ≡ digit sender (back r.nodes j) a) (one : w ≡ bool_byte (ltb (get_or (take k r.nodes) j 0) a)) where
  used-or-not : digit sender (back r.nodes (j + 1)) a + w ≡ d
  used-or-not =
      let before : j < k = omega (arith, p.few, length-take-le k r.nodes (omega (arith, p.few))) in
      let up_to_it : Apart sender r (j + 1) = record { few = omega (arith, p.few); nodes = p.nodes; path = path-first p.nodes sender r.nodes (j + 1) k (omega arith) p.path } in
      let its : w ≡ bool_byte (ltb (get_or r.nodes j 0) a) = rw (get_or-take k r.nodes j 0 before) at one in
      omega (arith, its, bool-bit (ltb (get_or r.nodes j 0) a), digit-less sender r j a up_to_it)

  pub one_less : w ≤ d
  one_less = omega (arith, used-or-not)

  pub digit-next : d - w ≡ digit sender (back r.nodes (j + 1)) a
  digit-next = omega (arith, used-or-not)

-- ---- a rank: one number more

rank-more : (n sender : ℕ) (row : List ℕ) (k : ℕ) → rank n sender (back row (k + 1)) ≡ rank n sender (back row k) * (n - 1 - k) + digit sender (back row k) (get_or row k 0)
unfolding rank back
rank-more n sender row k =
    rw add-one (ap (λ (l : ℕ). rank n sender (back row k) * (n - 1 - l) + digit sender (back row k) (get_or row k 0)) (length_back row k))

module _ (n sender : ℕ) (r : R.Route) (k c : ℕ) (p : RankedTo n sender r k c) where
  -- the numbers before it are all different
  pub ranked-apart : Apart sender r k
  ranked-apart =
      let q = p.route in
      record { few = omega (arith, q.most, p.more); nodes = n; path = path-first n sender r.nodes k r.len (omega (arith, p.more)) q.path }

  pub next_place : (d : ℕ) → d ≡ digit sender (back r.nodes k) (get_or r.nodes k 0) → c * (n - 1 - k) + d ≡ rank n sender (back r.nodes (k + 1))
  next_place d e = rw (rank-more, ← e, ← p.place)

  next-most : (d : ℕ) → d ≡ digit sender (back r.nodes k) (get_or r.nodes k 0) → c * (n - 1 - k) + d ≤ 26404
  next-most d e =
      let q = p.route in
      let path = path-first n sender r.nodes (k + 1) r.len (omega (arith, p.more)) q.path in
      let b : rank n sender (back r.nodes (k + 1)) < routes_of n (k + 1) = rw length_back at (rank_lt n sender q.sender (back r.nodes (k + 1)) path) in
      omega (arith, next_place d e, b, routes-most n k q.few (omega (arith, p.more, q.most)))

  pub place-fits : Fits w64 (c * (n - 1 - k))
  place-fits = record { fits = omega (arith, next-most _ refl) }

  pub next_fits : (d : ℕ) → d ≡ digit sender (back r.nodes k) (get_or r.nodes k 0) → Fits w64 (c * (n - 1 - k) + d)
  next_fits d e = record { fits = omega (arith, next-most d e) }

-- a route's place is below the number of routes as long
pub rank-few : (n sender : ℕ) (r : R.Route) (c : ℕ) → Numbered n sender r → c ≡ rank n sender (held r) → c ≤ 26404
rank-few n sender r c p e =
    let one : r.len - 1 + 1 ≡ r.len = omega (arith, p.some) in
    let below : rank n sender (held r) < routes_of n r.len = rw length_back at (rank_lt n sender p.sender (held r) p.path) in
    let most : routes_of n r.len ≤ 26404 = rw one at (routes-most n (r.len - 1) p.few (omega (arith, p.most))) in
    omega arith

-- ---- a cell: the rounds before it, and its place in its own

pub cell-sum : (n sender : ℕ) (r : R.Route) (before place : ℕ) → before ≡ cells_before n (r.len - 1) → place ≡ rank n sender (held r) → before + place ≡ cell n sender (held r)
unfolding cell
cell-sum n sender r before place eb ep = rw (length_back, eb, ep)
