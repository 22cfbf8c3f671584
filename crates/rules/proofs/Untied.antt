-- No vote of an accepted exchange ties: at every level the threshold is above half of the entries, so two values cannot both reach it.
use mathlib.Core.Path.{◌≡◌, refl}
use mathlib.Core.Bool.{Bool, true, false}
use mathlib.Core.List.{List, [], ◌∷◌, map, map-map}
use Prim.Native.Nat.{ℕ, zero, suc, ◌+◌, ◌≤◌, ◌<◌}
use native.Mathlib.Omega.{arith}
use lib.ListN.{length}
use Rattle.std.proofs.lemmas.Bool.{false_from_ne_true}
use Rattle.rules.specs.Lists.{keep, up_to, total}
use Rattle.rules.specs.Routes.{free, receiver, receivers, is_path}
use Rattle.rules.specs.Vote.{vote}
use Rattle.rules.specs.Decision.{via, nodes_at, threshold, byz, entries, decision}
use Rattle.rules.specs.Exchange.{slot, slots, tie_count}
use Rattle.rules.specs.declared.Settings.{Settings}
use Rattle.rules.proofs.Counting.{count-both, map-append, total-snoc}
use Rattle.rules.proofs.Voting.{Tied, vote-tie}
use Rattle.rules.proofs.Accepted.{SettingsAccepted}
use Rattle.rules.proofs.Receivers.{is-receiver, path-next}
use Rattle.rules.proofs.Relays.{length-via, path-via}
use Rattle.rules.proofs.Clauses.{byz-told, byz-ties, entries-count}

-- above half of its entries a vote does not tie
pub vote-untied : (q : ℕ) (xs : List ℕ) → 1 ≤ q → length xs < q + q → (vote q xs).tie ≡ false
vote-untied q xs pos short = false_from_ne_true (vote q xs).tie (λ e. clash ((vote-tie q xs pos).0 e))
  where
    clash : Tied q xs → ⊥
    clash t = omega (arith, short, t.one-reaches, t.other-reaches, count-both t.one t.other xs t.differ)

-- a sum of nothing
total-none : (f : ℕ → ℕ) (R : ℕ → Bool) (L : List ℕ) → ((x : ℕ) → R x ≡ true → f x ≡ 0) → total (map f (keep R L)) ≡ 0
unfolding total keep
total-none f R [] h = refl
total-none f R (x ∷ L) h = grind (arith, h x, total-none f R L h)

-- what adds nothing below n adds nothing over the numbers below n
total-below : (f : ℕ → ℕ) (n : ℕ) → ((i : ℕ) → i < n → f i ≡ 0) → total (map f (up_to n)) ≡ 0
unfolding up_to total
total-below f zero h = refl
total-below f (suc n) h = rw (map-append f, total-snoc (map f (up_to n)) (f n)) (omega (arith, total-below f n (λ i b. h i (omega arith)), h n (omega arith)))

module _ (s : Settings) (ok : SettingsAccepted s) (table : List ℕ) where
  -- where a round is left the threshold is above half of the entries
  pub above_half : (t : ℕ) (r : List ℕ) → is_path s.n s.sender r ≡ true → length r ≤ s.m → length (entries s table t r) < threshold s r + threshold s r
  unfolding threshold nodes_at
  above_half t r path room = omega (arith, ok, entries-count s table t r ok.sender-below path)

  pub byz-untied : (t : ℕ) (r : List ℕ) → is_path s.n s.sender r ≡ true → t + length r ≤ s.m + 1 → (byz s table t r).ties ≡ 0
  unfolding receivers
  byz-untied zero r path room = rw (byz-told s table r)
  byz-untied (suc t) r path room =
      let half = above_half t r path (omega arith) in
      rw (
        byz-ties s table t r,
        vote-untied (threshold s r) (entries s table t r) (omega (arith, half)) half,
        total-none (λ j. (byz s table t (via j r)).ties) (receiver s.n s.sender r) (up_to s.n)
            (λ j rj. byz-untied t (via j r) (path-via s.n s.sender j r path rj) (omega (arith, length-via j r))),
      )

  slot-untied : (i : ℕ) → i < s.n → (slot s table i).ties ≡ 0
  unfolding slot free decision is_path
  slot-untied i below = grind (arith, is-receiver s.n s.sender [] i below, path-next s.n s.sender [] i, byz-untied s.m (i ∷ []))

  -- the tie word of every accepted exchange is 0
  pub untied : tie_count s table ≡ 0
  unfolding tie_count slots
  untied = rw map-map (total-below (λ i. (slot s table i).ties) s.n slot-untied)
