-- A test that every number of a list passes, number by number.
use mathlib.Core.Path.{◌≡◌, refl, sym}
use mathlib.Core.Logic.{◌↔◌}
use mathlib.Core.Bool.{Bool, true, false, false≢true}
use mathlib.Core.List.{List, [], ◌∷◌}
use Prim.Native.Nat.{ℕ, suc, ◌<◌}
use native.Mathlib.Omega.{arith}
use lib.ListN.{length, get_or}
use Rattle.rules.specs.Lists.{all}
use Rattle.rules.proofs.Counting.{by-test, and_both, all-at}

all-of : (P : ℕ → Bool) (xs : List ℕ) → ((i : ℕ) → i < length xs → P (get_or xs i 0) ≡ true) → all P xs ≡ true
unfolding all
all-of P [] h = refl
all-of P (x ∷ xs) h = and_both (h 0 (omega arith)) (all-of P xs (λ i l. h (suc i) (omega arith)))

-- an answer that is true exactly where each number passes says that all pass
pub all_each : (P : ℕ → Bool) (xs : List ℕ) (b : Bool) → ((b ≡ true) ↔ ((i : ℕ) → i < length xs → P (get_or xs i 0) ≡ true)) → b ≡ all P xs
all_each P xs true h = sym (all-of P xs (h.0 refl))
all_each P xs false h =
    by-test (all P xs)
    (λ (e : all P xs ≡ true). absurd (false≢true (h.1 (λ i l. all-at P xs i l e))))
    (λ (e : all P xs ≡ false). sym e)
