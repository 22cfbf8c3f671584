-- Who may receive on top of a route, and how many they are at one level.
use mathlib.Core.Path.{◌≡◌, refl, sym, ap, ◌∙◌}
use mathlib.Core.Logic.{◌≢◌}
use mathlib.Core.Bool.{true, false, ◌&&◌, and-true, and-false, true≢false}
use mathlib.Core.List.{List, [], ◌∷◌}
use Prim.Native.Nat.{ℕ, zero, suc, ◌+◌, ◌≤◌, ◌<◌}
use native.Mathlib.Omega.{arith}
use lib.ListN.{length}
use lib.Dec.{ltb, eqb}
use borrow.Author.Tests.{eqb-false, eq-eqb, ne_eqb, ltb-true, lt-ltb}
use Rattle.rules.specs.Lists.{count, up_to}
use Rattle.rules.specs.Routes.{free, receiver, receivers, is_path, teller}
use Rattle.rules.proofs.Counting.{count-up_to, length-keep, one_fewer, and_left, and_right, and_both}

-- all of the numbers up to k, if k ≤ n, are below n
count-below : (n k : ℕ) → k ≤ n → count (λ x. ltb x n) (up_to k) ≡ k
unfolding count up_to
count-below n zero h = refl
count-below n (suc k) h = rw (count-up_to (λ x. ltb x n) k, lt-ltb k n h) (omega (arith, count-below n k (omega arith)))

-- ---- one number more or less beside which a node is free

pub free-cons : (a : ℕ) (p : List ℕ) (x : ℕ) → x ≢ a → free p x ≡ true → free (a ∷ p) x ≡ true
unfolding free
free-cons a p x ne h = rw (ne_eqb x a ne, h)

pub free-tail : (a : ℕ) (p : List ℕ) (x : ℕ) → free (a ∷ p) x ≡ true → free p x ≡ true
unfolding free
free-tail a p x h = grind arith

pub free_other : (a : ℕ) (p : List ℕ) (x : ℕ) → eqb a x ≡ false → free (a ∷ p) x ≡ free p x
unfolding free
free_other a p x h = rw (ne_eqb x a (λ e. eqb-false a x h (sym e)))

pub free-self : (a : ℕ) (p : List ℕ) → free (a ∷ p) a ≡ false
unfolding free
free-self a p = rw (eq-eqb a a refl)

-- the order of two numbers in front does not matter
pub free-swap : (a b : ℕ) (p : List ℕ) (x : ℕ) → free (a ∷ b ∷ p) x ≡ free (b ∷ a ∷ p) x
unfolding free
free-swap a b p x = grind arith

module _ (n sender : ℕ) where
  pub receiver-below : (p : List ℕ) (x : ℕ) → receiver n sender p x ≡ true → x < n
  unfolding receiver
  receiver-below p x h = ltb-true x n (and_left (ltb x n) (free (sender ∷ p) x) h)

  pub receiver-free : (p : List ℕ) (x : ℕ) → receiver n sender p x ≡ true → free (sender ∷ p) x ≡ true
  unfolding receiver
  receiver-free p x h = and_right (ltb x n) (free (sender ∷ p) x) h

  pub is-receiver : (p : List ℕ) (x : ℕ) → x < n → free (sender ∷ p) x ≡ true → receiver n sender p x ≡ true
  unfolding receiver
  is-receiver p x b f = and_both (lt-ltb x n b) f

  -- below n a receiver is a node that is free
  pub receiver-is-free : (p : List ℕ) (x : ℕ) → x < n → receiver n sender p x ≡ free (sender ∷ p) x
  unfolding receiver
  receiver-is-free p x b = rw (lt-ltb x n b)

  -- who receives on the longer route, receives on the shorter; the other way round, all but the one who joined it
  pub receiver-other : (j : ℕ) (p : List ℕ) (x : ℕ) → eqb j x ≡ false → receiver n sender (j ∷ p) x ≡ receiver n sender p x
  unfolding receiver
  receiver-other j p x h = ap (λ b. ltb x n && b) (free-swap sender j p x ∙ free_other j (sender ∷ p) x h)

  pub receiver-next : (j : ℕ) (p : List ℕ) (x : ℕ) → eqb j x ≡ false → receiver n sender p x ≡ true → receiver n sender (j ∷ p) x ≡ true
  receiver-next j p x ne r = receiver-other j p x ne ∙ r

  pub receiver-tail : (j : ℕ) (p : List ℕ) (x : ℕ) → receiver n sender (j ∷ p) x ≡ true → receiver n sender p x ≡ true
  receiver-tail j p x h =
      is-receiver p x (receiver-below (j ∷ p) x h) (free-tail j (sender ∷ p) x (sym (free-swap sender j p x) ∙ receiver-free (j ∷ p) x h))

  -- the acting sender is none of them
  pub receiver-self : (p : List ℕ) → receiver n sender p (teller sender p) ≡ false
  unfolding receiver
  receiver-self [] = rw (free-self sender [], and-false)
  receiver-self (j ∷ p) = rw (free-swap sender j p j, free-self j (sender ∷ p), and-false)

  -- and so no receiver is the one that joined the route
  pub receiver-apart : (j : ℕ) (p : List ℕ) (x : ℕ) → receiver n sender (j ∷ p) x ≡ true → eqb j x ≡ false
  receiver-apart j p x h = ne_eqb j x (λ e. true≢false (sym h ∙ (rw (← e) (receiver-self (j ∷ p)))))

  -- ---- paths

  pub path-next : (p : List ℕ) (j : ℕ) → receiver n sender p j ≡ true → is_path n sender p ≡ true → is_path n sender (j ∷ p) ≡ true
  unfolding is_path
  path-next p j r h = and_both r h

  pub path-tail : (p : List ℕ) (j : ℕ) → is_path n sender (j ∷ p) ≡ true → is_path n sender p ≡ true
  unfolding is_path
  path-tail p j h = and_right (receiver n sender p j) (is_path n sender p) h

  pub path-head : (p : List ℕ) (j : ℕ) → is_path n sender (j ∷ p) ≡ true → receiver n sender p j ≡ true
  unfolding is_path
  path-head p j h = and_left (receiver n sender p j) (is_path n sender p) h

  -- ---- how many there are at one level

  unfoldable pub size : List ℕ → ℕ
  size p = count (receiver n sender p) (up_to n)

  receiver-first : (x : ℕ) → eqb sender x ≡ false → receiver n sender [] x ≡ ltb x n
  unfolding receiver free
  receiver-first x h = rw (free_other sender [] x h, and-true)

  pub level-size : sender < n → (p : List ℕ) → is_path n sender p ≡ true → size p + length p + 1 ≡ n
  unfolding size
  level-size h [] r =
      omega (
        arith,
        count-below n n (omega arith),
        one_fewer (receiver n sender []) (λ x. ltb x n) sender n h (receiver-self []) (lt-ltb sender n h) receiver-first,
      )
  level-size h (j ∷ p) r =
      omega (
        arith,
        level-size h p (path-tail p j r),
        one_fewer (receiver n sender (j ∷ p)) (receiver n sender p) j n (receiver-below p j (path-head p j r)) (receiver-self (j ∷ p)) (path-head p j r) (receiver-other j p),
      )

  pub length-receivers : (p : List ℕ) → length (receivers n sender p) ≡ size p
  unfolding receivers size
  length-receivers p = length-keep (receiver n sender p) (up_to n)
