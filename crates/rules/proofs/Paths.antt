-- What a route is, in plain facts: 1 to m+1 numbers, all different, all below N, none the sender.
use mathlib.Core.Path.{◌≡◌, refl}
use mathlib.Core.Logic.{◌≢◌, ◌↔◌}
use mathlib.Core.Bool.{true}
use mathlib.Core.List.{List, [], ◌∷◌}
use Prim.Native.Nat.{ℕ, zero, suc, ◌+◌, ◌≤◌, ◌<◌}
use native.Mathlib.Omega.{arith}
use lib.ListN.{length, get_or}
use Rattle.std.proofs.lemmas.Bool.Decides.{nat_tests}
use Rattle.rules.specs.Routes.{free, receiver, is_path, is_route}
use Rattle.rules.proofs.Receivers.{free-cons, free-tail, receiver-below, receiver-free, is-receiver, path-next, path-tail, path-head}
use Rattle.rules.proofs.Numbering.{route-is, is-route}

-- numbers all different, all below n, none the sender
pub record PathFacts (n sender : ℕ) (p : List ℕ) : Type 0 where
  pub below : (i : ℕ) → i < length p → get_or p i 0 < n
  pub not-sender : (i : ℕ) → i < length p → get_or p i 0 ≢ sender
  pub different : (i j : ℕ) → i < j → j < length p → get_or p i 0 ≢ get_or p j 0

-- 1 to m+1 of them
pub record RouteFacts (n m sender : ℕ) (p : List ℕ) : Type 0 where
  pub some : 1 ≤ length p
  pub short : length p ≤ m + 1
  pub path : PathFacts n sender p

-- x is free exactly where it is none of the numbers
free-differs : (p : List ℕ) (x : ℕ) → free p x ≡ true → (i : ℕ) → i < length p → x ≢ get_or p i 0
unfolding free
free-differs [] x h i b = absurd (omega arith)
free-differs (a ∷ p) x h zero b = grind (arith, nat_tests)
free-differs (a ∷ p) x h (suc i) b = free-differs p x (free-tail a p x h) i (omega arith)

differs-free : (p : List ℕ) (x : ℕ) → ((i : ℕ) → i < length p → x ≢ get_or p i 0) → free p x ≡ true
unfolding free
differs-free [] x h = refl
differs-free (a ∷ p) x h = free-cons a p x (h 0 (omega arith)) (differs-free p x (λ i b. h (suc i) (omega arith)))

module _ (n sender : ℕ) where
  -- one number more, which may receive on top of the others
  more : (a : ℕ) (p : List ℕ) → receiver n sender p a ≡ true → PathFacts n sender p → PathFacts n sender (a ∷ p)
  more a p r rest = record { below = low; not-sender = other; different = apart }
    where
      away : (i : ℕ) → i < length (sender ∷ p) → a ≢ get_or (sender ∷ p) i 0
      away = free-differs (sender ∷ p) a (receiver-free n sender p a r)

      low : (i : ℕ) → i < length (a ∷ p) → get_or (a ∷ p) i 0 < n
      low zero b = receiver-below n sender p a r
      low (suc i) b = rest.below i (omega arith)

      other : (i : ℕ) → i < length (a ∷ p) → get_or (a ∷ p) i 0 ≢ sender
      other zero b = away 0 (omega arith)
      other (suc i) b = rest.not-sender i (omega arith)

      apart : (i j : ℕ) → i < j → j < length (a ∷ p) → get_or (a ∷ p) i 0 ≢ get_or (a ∷ p) j 0
      apart zero zero l b = absurd (omega arith)
      apart zero (suc j) l b = away (suc j) (omega arith)
      apart (suc i) zero l b = absurd (omega arith)
      apart (suc i) (suc j) l b = rest.different i j (omega arith) (omega arith)

  path-facts : (p : List ℕ) → is_path n sender p ≡ true → PathFacts n sender p
  path-facts [] h = record { below = λ i b. absurd (omega arith); not-sender = λ i b. absurd (omega arith); different = λ i j l b. absurd (omega arith) }
  path-facts (a ∷ p) h = more a p (path-head n sender p a h) (path-facts p (path-tail n sender p a h))

  facts-path : (p : List ℕ) → PathFacts n sender p → is_path n sender p ≡ true
  unfolding is_path
  facts-path [] h = refl
  facts-path (a ∷ p) h =
      path-next n sender p a (is-receiver n sender p a (h.below 0 (omega arith)) (differs-free (sender ∷ p) a away))
      (facts-path p (record {
        below = λ i b. h.below (suc i) (omega arith);
        not-sender = λ i b. h.not-sender (suc i) (omega arith);
        different = λ i j l b. h.different (suc i) (suc j) (omega arith) (omega arith);
      }))
    where
      away : (i : ℕ) → i < length (sender ∷ p) → a ≢ get_or (sender ∷ p) i 0
      away zero b = h.not-sender 0 (omega arith)
      away (suc i) b = h.different 0 (suc i) (omega arith) (omega arith)

  pub path-is : (p : List ℕ) → (is_path n sender p ≡ true) ↔ PathFacts n sender p
  path-is p = (path-facts p, facts-path p)

  pub route-plain : (m : ℕ) (p : List ℕ) → (is_route n m sender p ≡ true) ↔ RouteFacts n m sender p
  route-plain m p = (
    λ h. let r = route-is n m sender p h in record { some = r.some; short = r.short; path = path-facts p r.path },
    λ r. is-route n m sender p (record { some = r.some; short = r.short; path = facts-path p r.path }),
  )
