-- The fault word: f, the number of its set bits, is the number of faulty nodes; and where it has a bit at n or above.
use mathlib.Core.Path.{◌≡◌, refl, sym, ap, ap₂, ◌∙◌, fun_ext}
use mathlib.Core.Logic.{◌↔◌}
use mathlib.Core.Bool.{Bool, true, false}
use Prim.Native.Nat.{ℕ, zero, suc, ◌+◌, ◌/◌, ◌%◌, ◌^◌, ◌≤◌, ◌<◌}
use native.Mathlib.Nat.{div-div-eq-div-mul, div-one, pow-succ'}
use native.Mathlib.Omega.{arith}
use lib.Count.{ones, ones_in, ones_step, ones-le}
use lib.Dec.{eqb}
use Rattle.std.proofs.lemmas.Bool.{cases_lt}
use Rattle.std.proofs.lemmas.Nat.Bits.{bit_at_above}
use Rattle.std.proofs.lemmas.Bool.Decides.{nat_tests}
use Rattle.rules.specs.Lists.{bit, count, up_to}
use Rattle.rules.specs.Words.{faulty}
use Rattle.rules.specs.Exchange.{fault_count}
use Rattle.rules.specs.declared.Settings.{Settings}
use Rattle.rules.proofs.Counting.{by-test, count-up_to}
use Rattle.rules.proofs.Accepted.{SettingsAccepted}

-- the numbers below n + 1 are 0 and, each one more, the numbers below n
count-shift : (P : ℕ → Bool) (n : ℕ) → count P (up_to (suc n)) ≡ bit (P 0) + count (λ x. P (suc x)) (up_to n)
unfolding count up_to
count-shift P zero = refl
count-shift P (suc n) = omega (arith, count-up_to P (suc n), count-up_to (λ x. P (suc x)) n, count-shift P n)

bit-parity : (w : ℕ) → bit (eqb (w % 2) 1) ≡ w % 2
bit-parity w = grind (arith, nat_tests)

faulty-shift : (w x : ℕ) → faulty w (suc x) ≡ faulty (w / 2) x
unfolding faulty
faulty-shift w x = rw (pow-succ' 2 x, ← div-div-eq-div-mul)

faulty-low : (w : ℕ) → bit (faulty w 0) ≡ w % 2
unfolding faulty
faulty-low w = rw (div-one w) (bit-parity w)

-- where no bit stands at n or above, the set bits are the faulty nodes
pub ones-faulty : (n w : ℕ) → w < 2 ^ n → ones w ≡ count (faulty w) (up_to n)
unfolding count up_to ones ones_in
ones-faulty zero zero h = refl
ones-faulty zero (suc w) h = absurd (omega arith)
ones-faulty (suc n) w h =
    ones_step w
    ∙ sym (count-shift (faulty w) n ∙ ap₂ ◌+◌ (faulty-low w) (ap (λ P. count P (up_to n)) (fun_ext (faulty-shift w)) ∙ sym (ones-faulty n (w / 2) (omega arith))))

-- ---- a bit at n or above

-- such a bit of w
pub record BitFrom (n w : ℕ) : Type 0 where
  pub at : ℕ
  pub from : n ≤ at
  pub is_set : faulty w at ≡ true

bit-later : (n w : ℕ) → BitFrom n (w / 2) → BitFrom (suc n) w
bit-later n w b = record { at = suc b.at; from = omega (arith, b.from); is_set = faulty-shift w b.at ∙ b.is_set }

-- a word that is not 0 has one: k bounds its length
some-bit : (k w : ℕ) → w < 2 ^ k → 1 ≤ w → BitFrom 0 w
some-bit zero w short some = absurd (omega arith)
some-bit (suc k) w short some =
    by-test (faulty w 0)
    (λ (e : faulty w 0 ≡ true). record { at = 0; from = omega arith; is_set = e })
    (λ (e : faulty w 0 ≡ false).
    let even : 0 ≡ w % 2 = rw e at (faulty-low w) in
    let b = bit-later 0 w (some-bit k (w / 2) (omega arith) (omega arith)) in
    record { at = b.at; from = omega arith; is_set = b.is_set })

below_power : (w : ℕ) → w < 2 ^ w
below_power zero = omega arith
below_power (suc w) = omega (arith, below_power w)

set-bit : (n w i : ℕ) → n ≤ i → faulty w i ≡ true → 2 ^ n ≤ w
unfolding faulty
set-bit n w i h e = grind (arith, nat_tests, bit_at_above w n i, cases_lt w (2 ^ n))

high_bit : (n w : ℕ) → 2 ^ n ≤ w → BitFrom n w
high_bit zero w h = some-bit w w (below_power w) (omega arith)
high_bit (suc n) w h = bit-later n w (high_bit n (w / 2) (omega arith))

-- there is one exactly where the word is 2 ^ n or more
pub bit-from : (n w : ℕ) → BitFrom n w ↔ (2 ^ n ≤ w)
bit-from n w = (λ b. set-bit n w b.at b.from b.is_set, high_bit n w)

module _ (s : Settings) (ok : SettingsAccepted s) where
  -- f is the number of faulty nodes
  pub faults-are : fault_count s ≡ count (faulty s.faults) (up_to s.n)
  faults-are = ones-faulty s.n s.faults ok.faults-below

  -- and there are no more of them than nodes
  pub faults-most : fault_count s ≤ s.n
  faults-most = ones-le s.n s.faults ok.faults-below
