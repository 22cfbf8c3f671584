-- A given row: who may receive on top of its first numbers, and whether it is a route.
use mathlib.Core.Path.{◌≡◌, refl, sym, ap, ◌∙◌}
use mathlib.Core.Bool.{Bool, true, false, not, ◌&&◌, and-false}
use mathlib.Core.List.{List, [], ◌∷◌, ◌++◌}
use Prim.Native.Nat.{ℕ, zero, suc, ◌+◌, ◌≤◌, ◌<◌}
use native.Mathlib.Omega.{arith}
use lib.ListN.{length, get_or, take}
use lib.Dec.{eqb, ltb}
use borrow.Author.Tests.{lt-ltb, le-ltb, le-leb, lt-leb, eq-eqb, ne_eqb, eqb-true, eqb-false}
use Rattle.std.specs.List.{list_all, range_with_len}
use Rattle.std.proofs.Math.Seq.{take-suc}
use Rattle.std.proofs.lemmas.List.Folds.{list_all-append}
use Rattle.rules.specs.Routes.{back, held, free, receiver, is_path, is_route}
use Rattle.rules.specs.declared.Route as R
use Rattle.rules.proofs.Counting.{by-test}
use Rattle.rules.proofs.Receivers.{free-self}
use Rattle.rules.proofs.Rows.{length_back}

-- ---- who may receive

eqb-sym : (x y : ℕ) → eqb x y ≡ eqb y x
eqb-sym x y =
    by-test (eqb y x)
    (λ (e : eqb y x ≡ true). rw (e, eqb-true y x e) (eq-eqb x x refl))
    (λ (e : eqb y x ≡ false). rw e (ne_eqb x y (λ h. eqb-false y x e (sym h))))

exchanged : (a b : Bool) → (a && (b && true)) ≡ (b && a)
exchanged true true = refl
exchanged true false = refl
exchanged false true = refl
exchanged false false = refl

-- none of the first k numbers is x exactly where x is free beside them
none-used : (row : List ℕ) (x k : ℕ) → k ≤ length row → list_all (λ y. not (eqb y x)) (take k row) ≡ free (back row k) x
unfolding back free
none-used row x zero h = refl
none-used row x (suc k) h =
    let y = get_or row k 0 in
    ap (λ xs. list_all (λ y. not (eqb y x)) xs) (take-suc row k 0 (omega arith)) ∙ list_all-append (λ y. not (eqb y x)) (take k row) (y ∷ [])
    ∙ rw (none-used row x k (omega arith), eqb-sym y x) (exchanged (free (back row k) x) (not (eqb x y)))

module _ (n sender : ℕ) (row : List ℕ) (k x : ℕ) where
  pub too-high : (b : Bool) → n ≤ x → b ≡ ltb x n → b ≡ receiver n sender (back row k) x
  unfolding receiver
  too-high b h e = e ∙ rw (le-ltb x n h)

  pub is-sender : (b : Bool) → x ≡ sender → b ≡ not (eqb x sender) → b ≡ receiver n sender (back row k) x
  unfolding receiver
  is-sender b h e = e ∙ rw (h, eq-eqb sender sender refl, free-self, and-false)

  pub may-receive : (b : Bool) → x < n → (x ≡ sender → ⊥) → k ≤ length row → b ≡ list_all (λ y. not (eqb y x)) (take k row) → b ≡ receiver n sender (back row k) x
  unfolding receiver free
  may-receive b h s whole e = e ∙ none-used row x k whole ∙ rw (lt-ltb x n h, ne_eqb x sender s)

-- ---- whether a row is a route

-- numbers that count up, with the last of them last
pub range-more : (a n : ℕ) → range_with_len a (suc n) ≡ range_with_len a n ++ ((a + n) ∷ [])
range-more a zero = let e : a + 0 ≡ a = omega arith in rw e
range-more a (suc n) = let e : a + 1 + n ≡ a + suc n = omega arith in ap (λ xs. a ∷ xs) (rw e at (range-more (a + 1) n))

-- each number of a row may receive on top of those before it
abbrev pub mays : ℕ → ℕ → List ℕ → ℕ → Bool
mays n sender row k = receiver n sender (back row k) (get_or row k 0)

all-path : (n sender : ℕ) (row : List ℕ) (k : ℕ) → list_all (mays n sender row) (range_with_len 0 k) ≡ is_path n sender (back row k)
unfolding is_path back
all-path n sender row zero = refl
all-path n sender row (suc k) =
    let e : 0 + k ≡ k = omega arith in
    ap (λ xs. list_all (mays n sender row) xs) (range-more 0 k) ∙ list_all-append (mays n sender row) (range_with_len 0 k) ((0 + k) ∷ [])
    ∙ rw (e, all-path n sender row k) (exchanged (is_path n sender (back row k)) (mays n sender row k))

module _ (n m sender : ℕ) (r : R.Route) where
  pub route-none : r.len ≡ 0 → false ≡ is_route n m sender (held r)
  unfolding is_route back
  route-none e = rw e

  pub route-long : m + 1 < r.len → false ≡ is_route n m sender (held r)
  unfolding is_route
  route-long h = rw (length_back, lt-leb r.len (m + 1) h, and-false)

  pub path-whole : (b : Bool) → (r.len ≡ 0 → ⊥) → r.len ≤ m + 1 → b ≡ list_all (mays n sender r.nodes) (range_with_len 0 r.len) → b ≡ is_route n m sender (held r)
  unfolding is_route
  path-whole b some short e = e ∙ all-path n sender r.nodes r.len ∙ rw (length_back, le-leb 1 r.len (omega arith), le-leb r.len (m + 1) short)
