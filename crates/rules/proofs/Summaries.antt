-- The summary of an exchange: its class as the paper says it, and that its numbers fit a word of a file.
use mathlib.Core.Path.{◌≡◌, ap}
use mathlib.Core.Logic.{◌↔◌}
use mathlib.Core.List.{List, [], ◌∷◌, map, map-map}
use Prim.Native.Nat.{ℕ, zero, suc, ◌*◌, ◌≤◌, ◌<◌}
use native.Mathlib.Nat.{mul-le-mul_right, suc-mul}
use native.Mathlib.Omega.{arith}
use lib.ListN.{length}
use Rattle.std.proofs.lemmas.Bool.Decides.{nat_tests}
use Rattle.rules.specs.Lists.{up_to, total}
use Rattle.rules.specs.Routes.{receiver, receivers}
use Rattle.rules.specs.Vote.{vote}
use Rattle.rules.specs.Decision.{via, threshold, byz, entries, decision}
use Rattle.rules.specs.Exchange.{class_of, slot, slots, tie_count}
use Rattle.rules.specs.declared.Settings.{Settings}
use Rattle.rules.proofs.Counting.{bit-le-one, count_most, length-up_to}
use Rattle.rules.proofs.Receivers.{size, length-receivers}
use Rattle.rules.proofs.Accepted.{SettingsAccepted, layout_of}
use Rattle.rules.proofs.Clauses.{byz-told, byz-ties}
use Rattle.rules.proofs.Growth.{ties_most, ties-most}
use Rattle.rules.proofs.Ties.{counted, uncounted}

-- ---- the class

module _ (f m u : ℕ) where
  -- 1 exactly if f ≤ m
  pub class-one : (class_of f m u ≡ 1) ↔ (f ≤ m)
  unfolding class_of
  class-one = (λ e. grind (arith, nat_tests), λ h. grind (arith, nat_tests))

  -- 2 exactly if m < f ≤ u
  pub class-two : (class_of f m u ≡ 2) ↔ ((m < f) × (f ≤ u))
  unfolding class_of
  class-two = (λ e. (grind (arith, nat_tests), grind (arith, nat_tests)), λ h. grind (arith, nat_tests))

  -- 3 exactly if f > u, where u is not below m
  pub class-three : m ≤ u → (class_of f m u ≡ 3) ↔ (u < f)
  unfolding class_of
  class-three bound = (λ e. grind (arith, nat_tests), λ h. grind (arith, nat_tests))

-- ---- the ties

-- a sum where each of its numbers is b at the most
pub total-most : {A : Type 0} (g : A → ℕ) (b : ℕ) (L : List A) → ((x : A) → g x ≤ b) → total (map g L) ≤ length L * b
unfolding total
total-most g b [] h = omega arith
total-most g b (x ∷ L) h = rw suc-mul (omega (arith, h x, total-most g b L h))

-- no more receive than there are nodes
receivers-most : (n sender : ℕ) (p : List ℕ) → length (receivers n sender p) ≤ n
unfolding size
receivers-most n sender p = omega (arith, length-receivers n sender p, count_most (receiver n sender p) n)

module _ (s : Settings) (table : List ℕ) where
  -- the ties behind a decision, by the rounds that are left
  pub ties-behind : (t : ℕ) (r : List ℕ) → (byz s table t r).ties ≤ ties_most s.n t
  unfolding ties_most
  ties-behind zero r = rw (byz-told s table r) (omega arith)
  ties-behind (suc t) r =
      omega (
        arith,
        byz-ties s table t r,
        bit-le-one (vote (threshold s r) (entries s table t r)).tie,
        total-most (λ j. (byz s table t (via j r)).ties) (ties_most s.n t) (receivers s.n s.sender r) (λ j. ties-behind t (via j r)),
        mul-le-mul_right (ties_most s.n t) (receivers-most s.n s.sender r),
      )

  -- and behind a slot
  pub slot-ties : (i : ℕ) → (slot s table i).ties ≤ ties_most s.n s.m
  unfolding decision
  slot-ties i = grind (arith, counted s table i, uncounted s table i, ties-behind s.m (i ∷ []))

  -- the count of ties is 3,615 at the most, and so fits a word
  pub ties-fit : SettingsAccepted s → tie_count s table ≤ 3615
  unfolding tie_count slots
  ties-fit ok =
      rw map-map (omega (
        arith,
        total-most (λ i. (slot s table i).ties) (ties_most s.n s.m) (up_to s.n) slot-ties,
        ap (λ k. k * ties_most s.n s.m) (length-up_to s.n),
        ties-most s.n s.m (layout_of s ok),
      ))
