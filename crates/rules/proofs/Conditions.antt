-- D.1 to D.4 of the report for BYZ(m,m): the induction over the rounds, begun at the top, with BYZ's facts of one level.
use mathlib.Core.Path.{◌≡◌, refl, sym, ◌∙◌}
use mathlib.Core.Logic.{◌⊎◌, inl, inr, ◌≢◌}
use mathlib.Core.Bool.{true, false}
use mathlib.Core.List.{List, [], ◌∷◌}
use Prim.Native.Nat.{ℕ, zero, suc, ◌≤◌}
use native.Mathlib.Omega.{arith}
use Rattle.rules.specs.Words.{faulty}
use Rattle.rules.specs.Routes.{is_path}
use Rattle.rules.specs.Delivered.{delivered}
use Rattle.rules.specs.Decision.{poll, byz, decision}
use Rattle.rules.specs.declared.Settings.{Settings}
use Rattle.rules.proofs.Counting.{by-test}
use Rattle.rules.proofs.Tally.{OrDefault, FaultFree, among_first}
use Rattle.rules.proofs.Rounds.{held, Polls, polls, decided-sound, entries-sound, decided-alike}
use Rattle.rules.proofs.Quorum.{Assumed, faults, unordered, exact-level, or-default-level, two-votes}

-- i is a receiver in the exchange, and fault-free
abbrev pub Receives : Settings → ℕ → Type 0
Receives s i = FaultFree s.n s.sender (faulty s.faults) [] i

module _ (s : Settings) (given : Assumed s) (table : List ℕ) where
  -- D.1: up to m faults, if the sender is fault-free, they decide its value (Lemma 3)
  pub D1 : faults s ≤ s.m → faulty s.faults s.sender ≡ false → (i : ℕ) → Receives s i → (decision s table i).word ≡ s.value
  unfolding decision byz is_path delivered
  D1 few steady i r = decided-sound s.n s.sender (poll s) (delivered s table) s.m (faulty s.faults)
      (λ w v. w ≡ v) (exact-level s given table few) s.m [] i refl (omega arith) steady r

  -- D.2: up to m faults they decide alike; if the sender is one of the faulty, fewer than m receivers are (Lemma 4)
  pub D2 : faults s ≤ s.m → (i k : ℕ) → Receives s i → Receives s k → (decision s table i).word ≡ (decision s table k).word
  unfolding decision byz is_path
  D2 few i k ri rk = decided-alike s.n s.sender (poll s) (delivered s table) s.m (faulty s.faults)
      (exact-level s given table few) (unordered s given) s.m [] i k refl (omega arith)
      (λ f. omega (arith, few, among_first s.n s.sender (faulty s.faults) given.sender-below f)) ri rk

  -- D.3: up to u faults, if the sender is fault-free, they decide its value or the default (Lemma 5)
  pub D3 : faults s ≤ s.u → faulty s.faults s.sender ≡ false → (i : ℕ) → Receives s i → OrDefault (decision s table i).word s.value
  unfolding decision byz is_path delivered
  D3 few steady i r = decided-sound s.n s.sender (poll s) (delivered s table) s.m (faulty s.faults)
      OrDefault (or-default-level s given table few) s.m [] i refl (omega arith) steady r

  -- D.4: up to u faults, of two who decide differently one decides the default (Lemma 6; by D.3 if the sender is fault-free)
  pub D4 : faults s ≤ s.u → (i k : ℕ) → Receives s i → Receives s k → (decision s table i).word ≢ (decision s table k).word
      → ((decision s table i).word ≡ 0) ⊎ ((decision s table k).word ≡ 0)
  unfolding decision byz is_path
  D4 few i k ri rk differ = by-test (faulty s.faults s.sender) (λ f. top s.m refl f differ) (λ steady. apart (D3 few steady i ri) (D3 few steady k rk) differ)
    where
      apart : {a b v : ℕ} → OrDefault a v → OrDefault b v → a ≢ b → (a ≡ 0) ⊎ (b ≡ 0)
      apart (inl a) (inl b) ne = absurd (ne (a ∙ sym b))
      apart (inl a) (inr b) ne = inr b
      apart (inr a) b ne = inl a

      -- what i holds for j
      holds : ℕ → ℕ → ℕ → ℕ
      holds t i = held s.n s.sender (poll s) (delivered s table) t [] i

      polled : (t i : ℕ) → Receives s i → Polls s.n s.sender (poll s) (delivered s table) t [] i
      polled t i r = polls s.n s.sender (poll s) (delivered s table) t [] i r.receives

      -- by Lemma 5 it is what j was told by the sender, or the default
      read : (t : ℕ) → suc t ≡ s.m → (i : ℕ) → Receives s i → (j : ℕ) → Receives s j → OrDefault (holds t i j) (delivered s table (j ∷ []))
      read t e i r = entries-sound s.n s.sender (poll s) (delivered s table) s.m (faulty s.faults) OrDefault (or-default-level s given table few) t [] i refl (omega arith) r

      top : (t : ℕ) → t ≡ s.m → faulty s.faults s.sender ≡ true → (byz s table t (i ∷ [])).word ≢ (byz s table t (k ∷ [])).word
          → ((byz s table t (i ∷ [])).word ≡ 0) ⊎ ((byz s table t (k ∷ [])).word ≡ 0)
      top zero e f ne = absurd (omega (arith, given))
      top (suc t) e f ne =
          let b = polled t i ri in
          let c = polled t k rk in
          rw (b.outcome, c.outcome)
          (two-votes s given few f (λ j. delivered s table (j ∷ [])) (holds t i) (holds t k) b.votes c.votes b.each c.each (read t e i ri) (read t e k rk) i k
          (λ same. ne (b.outcome ∙ same ∙ sym c.outcome)))
