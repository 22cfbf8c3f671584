-- The decision row: node i's word in it is node i's slot. A slot is "not reported" exactly where the node is faulty, since
-- every word that a fault-free node can hold is the default or an ordinary value.
use mathlib.Core.Path.{◌≡◌, refl, ap, ◌∙◌}
use mathlib.Core.Logic.{◌↔◌, ◌≢◌}
use mathlib.Core.Bool.{true, false}
use mathlib.Core.List.{List, [], ◌∷◌, map}
use Prim.Native.Nat.{ℕ, ◌*◌, ◌≤◌, ◌<◌}
use native.Mathlib.Omega.{arith}
use lib.ListN.{length, length-map}
use borrow.Author.Tests.{eq-eqb, ne_eqb}
use Rattle.std.proofs.lemmas.List.{get_or-map}
use Rattle.rules.specs.Lists.{up_to}
use Rattle.rules.specs.Words.{word_at, not_reported, faulty}
use Rattle.rules.specs.Decision.{word_of, decision}
use Rattle.rules.specs.Exchange.{slot, slots, row_of, row_after}
use Rattle.rules.specs.Refusals.{exchange_refusal}
use Rattle.rules.specs.declared.Settings.{Settings}
use Rattle.rules.proofs.Counting.{length-up_to, nth-up_to}
use Rattle.rules.proofs.WordRows.{length-bytes, word-of-bytes}
use Rattle.rules.proofs.Accepted.{settings-of}
use Rattle.rules.proofs.Ordinary.{byz-ordinary}

module _ (s : Settings) (table : List ℕ) where
  -- N words
  pub row-length : length (row_of s table) ≡ 2 * s.n
  unfolding row_of slots
  row-length = length-bytes (map word_of (slots s table)) ∙ simp length-map (ap (λ k. 2 * k) (length-up_to s.n))

  -- node i's word in the row is its slot
  pub row_word : (i : ℕ) → i < s.n → word_at (row_of s table) i ≡ (slot s table i).word
  unfolding row_of slots
  row_word i below =
      let long : i < length (up_to s.n) = omega (arith, length-up_to s.n) in
      word-of-bytes (map word_of (slots s table)) i
      ∙ get_or-map word_of (slots s table) i (slot s table 0) 0 (rw length-map long)
      ∙ ap word_of (get_or-map (slot s table) (up_to s.n) i 0 (slot s table 0) long ∙ ap (slot s table) (nth-up_to s.n i below))

  -- ---- what a slot holds

  -- a faulty node's slot is "not reported", 65,535
  pub slot-faulty : (i : ℕ) → faulty s.faults i ≡ true → (slot s table i).word ≡ 65535
  unfolding slot
  slot-faulty i f = rw f

  -- a fault-free sender's is its value
  pub slot-sender : faulty s.faults s.sender ≡ false → (slot s table s.sender).word ≡ s.value
  unfolding slot
  slot-sender f = rw (f, eq-eqb s.sender s.sender refl)

  -- a fault-free receiver's is its decision
  pub slot-receiver : (i : ℕ) → faulty s.faults i ≡ false → i ≢ s.sender → slot s table i ≡ decision s table i
  unfolding slot
  slot-receiver i f ne = rw (f, ne_eqb i s.sender ne)

  module _ (value : s.value ≤ 65000) where
    -- a fault-free node's slot is the default or an ordinary value
    slot-ordinary : (i : ℕ) → faulty s.faults i ≡ false → (slot s table i).word ≤ 65000
    unfolding slot decision
    slot-ordinary i f = grind (arith, byz-ordinary s table value s.m (i ∷ []))

    -- so "not reported" stands exactly where the node is faulty
    pub slot-unreported : (i : ℕ) → ((slot s table i).word ≡ not_reported) ↔ (faulty s.faults i ≡ true)
    slot-unreported i = (λ e. grind (arith, slot-ordinary i), slot-faulty i)

-- ---- the row that an exchange leaves

module _ (s : Settings) (table row : List ℕ) where
  -- an accepted exchange leaves the decision row
  pub row_written : exchange_refusal s (length table) (length row) ≡ 0 → row_after s table row ≡ row_of s table
  unfolding row_after
  row_written accepted = rw accepted

  -- a refused one keeps the row's bytes
  pub row_kept : exchange_refusal s (length table) (length row) ≢ 0 → row_after s table row ≡ row
  unfolding row_after
  row_kept refused = rw (ne_eqb (exchange_refusal s (length table) (length row)) 0 refused)

  -- an accepted one reports every node but the faulty
  pub row-unreported : exchange_refusal s (length table) (length row) ≡ 0 → (i : ℕ) → i < s.n
      → (word_at (row_after s table row) i ≡ not_reported) ↔ (faulty s.faults i ≡ true)
  row-unreported accepted i below =
      rw (row_written accepted, row_word s table i below)
      (slot-unreported s table (settings-of s (length table) (length row) accepted).value-plain i)
