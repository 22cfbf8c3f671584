-- The report's own clauses, BYZ(1,m) and BYZ(t,m), as equations of the definition, with its n_t and its threshold; and what is
-- told on a route, clause by clause.
use mathlib.Core.Path.{◌≡◌, refl}
use mathlib.Core.Bool.{true, false}
use mathlib.Core.List.{List, [], ◌∷◌, map, map-map}
use Prim.Native.Nat.{ℕ, suc, ◌+◌, ◌-◌, ◌≤◌, ◌<◌}
use native.Mathlib.Omega.{arith}
use lib.ListN.{length, length-map}
use Rattle.rules.specs.Lists.{bit, total}
use Rattle.rules.specs.Words.{word_at, plain, faulty}
use Rattle.rules.specs.Routes.{receivers, is_path, teller}
use Rattle.rules.specs.Cells.{cell}
use Rattle.rules.specs.Vote.{vote}
use Rattle.rules.specs.Delivered.{delivered}
use Rattle.rules.specs.Decision.{via, judge, decide, nodes_at, threshold, byz, entries, decision}
use Rattle.rules.specs.declared.Settings.{Settings}
use Rattle.rules.proofs.Accepted.{SettingsAccepted}
use Rattle.rules.proofs.Receivers.{level-size, length-receivers}

-- ---- what is told

module _ (s : Settings) (table : List ℕ) where
  -- a fault-free sender tells its value
  pub told-by-sender : (i : ℕ) → faulty s.faults s.sender ≡ false → delivered s table (i ∷ []) ≡ s.value
  unfolding delivered
  told-by-sender i h = rw h

  -- a fault-free relay passes on the word that it was itself told
  pub told-by-relay : (i j : ℕ) (p : List ℕ) → faulty s.faults j ≡ false → delivered s table (i ∷ j ∷ p) ≡ delivered s table (j ∷ p)
  unfolding delivered
  told-by-relay i j p h = rw h

  -- a faulty teller tells what the cell holds, a reserved word read as the default
  pub told-by-faulty : (i : ℕ) (p : List ℕ) → faulty s.faults (teller s.sender p) ≡ true → delivered s table (i ∷ p) ≡ plain (word_at table (cell s.n s.sender (i ∷ p)))
  unfolding delivered
  told-by-faulty i p h = rw h

  -- ---- the decision, with t rounds left, of the receiver of r

  -- with no round left it is the delivered word
  pub byz-told : (r : List ℕ) → byz s table 0 r ≡ record { word = delivered s table r; ties = 0 }
  unfolding byz decide
  byz-told r = refl

  -- BYZ(t+1,m): VOTE over the own entry and, for each other receiver j, the decision of BYZ(t,m) where j acts as sender
  pub byz-votes : (t : ℕ) (r : List ℕ) → (byz s table (suc t) r).word ≡ (vote (threshold s r) (entries s table t r)).word
  unfolding byz decide judge entries
  byz-votes t r = rw map-map

  -- BYZ(1,m): each entry for another receiver is simply the word that it delivers
  pub byz-one : (r : List ℕ) → (byz s table 1 r).word ≡ (vote (threshold s r) (delivered s table r ∷ map (λ j. delivered s table (via j r)) (receivers s.n s.sender r))).word
  unfolding entries byz decide
  byz-one r = byz-votes 0 r

  -- the ties behind a decision: those behind the entries, and one more where this vote meets one
  pub byz-ties : (t : ℕ) (r : List ℕ)
      → (byz s table (suc t) r).ties ≡ total (map (λ j. (byz s table t (via j r)).ties) (receivers s.n s.sender r)) + bit (vote (threshold s r) (entries s table t r)).tie
  unfolding byz decide judge entries
  byz-ties t r = simp map-map

  -- BYZ(m,m) is the exchange
  pub byz-top : (i : ℕ) → decision s table i ≡ byz s table s.m (i ∷ [])
  unfolding decision
  byz-top i = refl

  -- ---- a relay passes on the word it was told, whatever it decides

  -- with no round left, what i decides when a fault-free j acts as sender is the word that j was told
  pub relay-tells : (i j : ℕ) (p : List ℕ) → faulty s.faults j ≡ false → (byz s table 0 (via j (i ∷ p))).word ≡ delivered s table (j ∷ p)
  unfolding via byz decide delivered
  relay-tells i j p h = rw h

  -- with rounds left, it is the own entry of i's vote
  pub relay-enters : (t i j : ℕ) (p : List ℕ) → faulty s.faults j ≡ false
      → entries s table t (via j (i ∷ p)) ≡ delivered s table (j ∷ p) ∷ map (λ k. (byz s table t (i ∷ k ∷ j ∷ p)).word) (receivers s.n s.sender (i ∷ j ∷ p))
  unfolding entries via
  relay-enters t i j p h = rw (told-by-relay i j p h)

  -- ---- how many entries there are: n_t - 1

  pub entries-count : (t : ℕ) (r : List ℕ) → s.sender < s.n → is_path s.n s.sender r ≡ true → length (entries s table t r) + 1 ≡ nodes_at s r
  unfolding entries nodes_at
  entries-count t r below path =
      rw length-map (omega (arith, length-receivers s.n s.sender r, level-size s.n s.sender below r path))

-- the other receivers are n_t - 2
pub others-count : (s : Settings) (r : List ℕ) → s.sender < s.n → is_path s.n s.sender r ≡ true → length (receivers s.n s.sender r) + 2 ≡ nodes_at s r
unfolding nodes_at
others-count s r below path = omega (arith, length-receivers s.n s.sender r, level-size s.n s.sender below r path)

-- ---- n_t and the threshold, for settings that are accepted

-- at the top n is N
pub nodes-top : (s : Settings) (i : ℕ) → nodes_at s (i ∷ []) ≡ s.n
unfolding nodes_at
nodes-top s i = omega arith

module _ (s : Settings) (ok : SettingsAccepted s) where
  -- a route that is reached with t rounds left has m + 1 - t numbers; there n_t is N - m + t
  pub nodes-at : (t : ℕ) (r : List ℕ) → length r + t ≡ s.m + 1 → nodes_at s r ≡ s.n - s.m + t
  unfolding nodes_at
  nodes-at t r reached = omega (arith, ok)

  -- and with each relay it falls by one
  pub nodes-fall : (i j : ℕ) (p : List ℕ) → length p < s.m → nodes_at s (via j (i ∷ p)) + 1 ≡ nodes_at s (i ∷ p)
  unfolding nodes_at via
  nodes-fall i j p room = omega (arith, ok)

  -- Where a round is left, the threshold is n_t - 1 - m, with the same m at every level: no case is hidden by the subtraction.
  pub threshold-is : (t : ℕ) (r : List ℕ) → length r + suc t ≡ s.m + 1 → threshold s r + s.m + 1 ≡ nodes_at s r
  unfolding threshold nodes_at
  threshold-is t r reached = omega (arith, ok)

  -- it is above u, and so never 0
  pub threshold-above : (t : ℕ) (r : List ℕ) → length r + suc t ≡ s.m + 1 → s.u < threshold s r
  unfolding threshold nodes_at
  threshold-above t r reached = omega (arith, ok)

  pub threshold-positive : (t : ℕ) (r : List ℕ) → length r + suc t ≡ s.m + 1 → 1 ≤ threshold s r
  threshold-positive t r reached = omega (arith, threshold-above t r reached)
