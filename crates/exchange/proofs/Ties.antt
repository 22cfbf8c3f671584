-- Ties are few: behind every decision, every gathering and every row they fit 32 bits.
use Prim.Native.Nat.{ℕ, ◌+◌, ◌*◌, ◌≤◌}
use mathlib.Core.List.{List, map}
use native.Mathlib.Omega.{arith}
use native.Mathlib.Nat.{mul-le-mul_right}
use lib.ListN.{length}
use Rattle.rules.specs.Lists.{keep, up_to, total}
use Rattle.rules.specs.Routes.{receiver}
use Rattle.rules.specs.Decision.{via, byz}
use Rattle.rules.proofs.Counting.{count_most, length-keep}
use Rattle.rules.proofs.Numbering.{ascends}
use Rattle.rules.proofs.Accepted.{SettingsAccepted, layout_of}
use Rattle.rules.proofs.Growth.{ties_most, ties-most}
use Rattle.rules.proofs.Summaries.{total-most, ties-behind}
use Rattle.rules.specs.declared.Settings.{Settings}

-- those below k that may receive beside p
abbrev pub asked : Settings → List ℕ → ℕ → List ℕ
asked s p k = keep (receiver s.n s.sender p) (up_to k)

module _ (s : Settings) (t : List ℕ) (ok : SettingsAccepted s) (k : ℕ) (le : k ≤ s.m) where
  -- with fewer rounds there are no more
  fewer-rounds : ties_most s.n k ≤ ties_most s.n s.m
  unfolding ties_most
  fewer-rounds = ascends (ties_most s.n) grows k s.m le
    where
      grows : (i : ℕ) → ties_most s.n i ≤ s.n * ties_most s.n i + 1
      grows i = let one = mul-le-mul_right {m = 1} {n = s.n} (ties_most s.n i) (omega (arith, ok.four)) in omega arith

  -- behind one decision
  pub decision-ties : (p : List ℕ) → (byz s t k p).ties ≤ 3615
  decision-ties p =
      let one = mul-le-mul_right {m = 1} {n = s.n} (ties_most s.n s.m) (omega (arith, ok.four)) in
      omega (arith, ties-behind s t k p, fewer-rounds, ties-most s.n s.m (layout_of s ok))

  -- behind the decisions of all who are asked
  pub gathered-ties : (p : List ℕ) (x : ℕ) → x ≤ s.n → total (map (λ j. (byz s t k (via j p)).ties) (asked s p x)) ≤ 3615
  gathered-ties p x h =
      let may = receiver s.n s.sender p in
      let few : length (asked s p x) ≤ s.n = omega (arith, length-keep may (up_to x), count_most may x) in
      let each = total-most (λ j. (byz s t k (via j p)).ties) (ties_most s.n s.m) (asked s p x) (λ j. omega (arith, ties-behind s t k (via j p), fewer-rounds)) in
      omega (arith, each, mul-le-mul_right (ties_most s.n s.m) few, ties-most s.n s.m (layout_of s ok))
