-- The count of ties: the votes behind the decisions of fault-free receivers that met a tie, and no others. A faulty node's votes do
-- not count, and a sender has none.
use mathlib.Core.Path.{◌≡◌, refl, ap, ◌∙◌}
use mathlib.Core.Bool.{Bool, true, false, not, ◌&&◌}
use mathlib.Core.List.{List, [], ◌∷◌, map, map-map}
use Prim.Native.Nat.{ℕ}
use native.Mathlib.Omega.{arith}
use lib.Dec.{eqb}
use Rattle.rules.specs.Lists.{bit, count, keep, up_to, total}
use Rattle.rules.specs.Words.{faulty}
use Rattle.rules.specs.Decision.{decision}
use Rattle.rules.specs.Exchange.{slot, slots, tie_count}
use Rattle.rules.specs.declared.Settings.{Settings}
use Rattle.rules.proofs.Counting.{map-keep}

-- ---- sums

-- a sum of bits is a count
pub total-bits : (P : ℕ → Bool) (L : List ℕ) → total (map (λ x. bit (P x)) L) ≡ count P L
unfolding total count
total-bits P [] = refl
total-bits P (x ∷ L) = omega (arith, total-bits P L)

-- what adds nothing may be left out
total-keep : (g : ℕ → ℕ) (R : ℕ → Bool) (L : List ℕ) → ((x : ℕ) → R x ≡ false → g x ≡ 0) → total (map g L) ≡ total (map g (keep R L))
unfolding total keep
total-keep g R [] h = refl
total-keep g R (x ∷ L) h = grind (arith, h x, total-keep g R L h)

-- ---- whose votes count

-- a fault-free node other than the sender
abbrev pub counts : Settings → ℕ → Bool
counts s i = not (faulty s.faults i) && not (eqb i s.sender)

-- the fault-free receivers, ascending
unfoldable pub sound_receivers : Settings → List ℕ
sound_receivers s = keep (counts s) (up_to s.n)

module _ (s : Settings) (table : List ℕ) where
  -- behind any other node's slot there is none
  pub uncounted : (i : ℕ) → counts s i ≡ false → (slot s table i).ties ≡ 0
  unfolding slot
  uncounted i h = grind arith

  -- behind theirs there are those of the decision
  pub counted : (i : ℕ) → counts s i ≡ true → (slot s table i).ties ≡ (decision s table i).ties
  unfolding slot
  counted i h = grind arith

  -- the ties behind the decisions of the fault-free receivers, added up; what stands behind one is `byz-ties`, level by level
  pub ties-counted : tie_count s table ≡ total (map (λ i. (decision s table i).ties) (sound_receivers s))
  unfolding tie_count slots sound_receivers
  ties-counted =
      rw map-map (total-keep (λ i. (slot s table i).ties) (counts s) (up_to s.n) uncounted
      ∙ ap total (map-keep (λ i. (slot s table i).ties) (λ i. (decision s table i).ties) (counts s) (up_to s.n) counted))
