-- Demand 3: what every exchange that is not refused guarantees, whatever the faulty nodes tell.
--
-- Up to m faults all fault-free receivers end with one value, the sender's if the sender is fault-free. With more, but no more
-- than u, they end with at most two values, and one of the two is the default. These are conditions D.1 to D.4 of the report.
-- Its proof is read in this order: Tally (counting at one level), Rounds (the induction, for any vote), Quorum (one level of
-- BYZ), Conditions (D.1 to D.4 of BYZ(m,m)).
use mathlib.Core.Path.{◌≡◌, refl}
use mathlib.Core.Logic.{◌⊎◌, inl, inr, ◌≢◌}
use mathlib.Core.Bool.{false}
use mathlib.Core.List.{List, []}
use Prim.Native.Nat.{ℕ, ◌≤◌, ◌<◌}
use native.Mathlib.Omega.{arith}
use lib.ListN.{length}
use Rattle.rules.specs.Words.{word_at, faulty}
use Rattle.rules.specs.Routes.{free}
use Rattle.rules.specs.Decision.{decision}
use Rattle.rules.specs.Refusals.{exchange_refusal}
use Rattle.rules.specs.Exchange.{fault_count, row_after}
use Rattle.rules.specs.declared.Settings.{Settings}
use Rattle.rules.proofs.Receivers.{free-cons, is-receiver}
use Rattle.rules.proofs.Accepted.{SettingsAccepted, settings-of}
use Rattle.rules.proofs.FaultWord.{faults-are}
use Rattle.rules.proofs.DecisionRow.{row_word, slot-receiver}
use Rattle.rules.proofs.Tally.{OrDefault}
use Rattle.rules.proofs.Quorum.{Assumed, faults}
use Rattle.rules.proofs.Conditions.{Receives, D1, D2, D3, D4}

-- ---- what is guaranteed

-- node i is a receiver, and fault-free
pub record Receiver (s : Settings) (i : ℕ) : Type 0 where
  pub node : i < s.n
  pub not-sender : i ≢ s.sender
  pub fault-free : faulty s.faults i ≡ false

-- the sender is fault-free
abbrev pub SoundSender : Settings → Type 0
SoundSender s = faulty s.faults s.sender ≡ false

-- What is asked of the words that the nodes hold in the end. f is the number of set bits in the fault word.
pub record Agreed (s : Settings) (holds : ℕ → ℕ) : Type 0 where
  -- f ≤ m: all fault-free receivers hold the same value,
  pub one_value : fault_count s ≤ s.m → (i k : ℕ) → Receiver s i → Receiver s k → holds i ≡ holds k
  -- the sender's if the sender is fault-free
  pub sender-value : fault_count s ≤ s.m → SoundSender s → (i : ℕ) → Receiver s i → holds i ≡ s.value
  -- f ≤ u, and so for m < f ≤ u: of two fault-free receivers who hold different values one holds the default;
  pub two-values : fault_count s ≤ s.u → (i k : ℕ) → Receiver s i → Receiver s k → holds i ≢ holds k → (holds i ≡ 0) ⊎ (holds k ≡ 0)
  -- if the sender is fault-free, every value other than the default is the sender's
  pub sender-or-default : fault_count s ≤ s.u → SoundSender s → (i : ℕ) → Receiver s i → holds i ≢ 0 → holds i ≡ s.value

-- ---- of the decisions

receives : (s : Settings) (i : ℕ) → Receiver s i → Receives s i
unfolding free
receives s i r = record { receives = is-receiver s.n s.sender [] i r.node (free-cons s.sender [] i r.not-sender refl); sound = r.fault-free }

not-default : {w v : ℕ} → OrDefault w v → w ≢ 0 → w ≡ v
not-default (inl e) ne = e
not-default (inr e) ne = absurd (ne e)

module _ (s : Settings) (accepted : SettingsAccepted s) where
  given : Assumed s
  given = record { enough = accepted.enough; bound = accepted.bound; one = accepted.one; sender-below = accepted.sender-below }

  -- f counts the faulty nodes
  up-to : (b : ℕ) → fault_count s ≤ b → faults s ≤ b
  up-to b few = omega (arith, few, faults-are s accepted)

  agreed : (table : List ℕ) → Agreed s (λ i. (decision s table i).word)
  agreed table = record {
    one_value = λ few i k ri rk. D2 s given table (up-to s.m few) i k (receives s i ri) (receives s k rk);
    sender-value = λ few steady i r. D1 s given table (up-to s.m few) steady i (receives s i r);
    two-values = λ few i k ri rk. D4 s given table (up-to s.u few) i k (receives s i ri) (receives s k rk);
    sender-or-default = λ few steady i r. not-default (D3 s given table (up-to s.u few) steady i (receives s i r));
  }

-- Of every exchange that is not refused: the decisions, each BYZ(m,m), are agreed.
pub decisions-agreed : (s : Settings) (table : List ℕ) (rowBytes : ℕ) → exchange_refusal s (length table) rowBytes ≡ 0
    → Agreed s (λ i. (decision s table i).word)
decisions-agreed s table rowBytes accepted = agreed s (settings-of s (length table) rowBytes accepted) table

-- ---- of the decision row

-- a fault-free receiver's decision stands in its slot
row-holds : (s : Settings) (table row : List ℕ) → exchange_refusal s (length table) (length row) ≡ 0
    → (i : ℕ) → Receiver s i → word_at (row_after s table row) i ≡ (decision s table i).word
unfolding row_after
row-holds s table row accepted i r = rw (accepted, row_word s table i r.node, slot-receiver s table i r.fault-free r.not-sender)

-- what is agreed stays so under other names for the words that the receivers hold
agreed-too : (s : Settings) (a b : ℕ → ℕ) → ((i : ℕ) → Receiver s i → b i ≡ a i) → Agreed s a → Agreed s b
agreed-too s a b e h = record {
  one_value = λ few i k ri rk. rw (e i ri, e k rk) (h.one_value few i k ri rk);
  sender-value = λ few steady i r. rw (e i r) (h.sender-value few steady i r);
  two-values = λ few i k ri rk. rw (e i ri, e k rk) (h.two-values few i k ri rk);
  sender-or-default = λ few steady i r. rw (e i r) (h.sender-or-default few steady i r);
}

-- The words that stand in the decision row after an exchange that is not refused are agreed.
pub row-agreed : (s : Settings) (table row : List ℕ) → exchange_refusal s (length table) (length row) ≡ 0
    → Agreed s (word_at (row_after s table row))
row-agreed s table row accepted =
    agreed-too s (λ i. (decision s table i).word) (word_at (row_after s table row)) (row-holds s table row accepted) (decisions-agreed s table (length row) accepted)
