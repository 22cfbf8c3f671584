-- What the cascade of tests answers is the first refusal that applies: one law for each answer, over the tests passed before it.
use Prim.Native.Nat.{ℕ, ◌+◌, ◌*◌, ◌/◌, ◌^◌, ◌<◌, ◌≤◌}
use mathlib.Core.Path.{◌≡◌, sym, ◌∙◌}
use mathlib.Core.List.{List, [], ◌∷◌}
use mathlib.Core.Bool.{Bool, true, false}
use mathlib.Core.Logic.{◌⊎◌, inl, inr}
use borrow.Author.Tests.{lt-ltb, le-ltb, le-leb, lt-leb, eq-eqb, ne_eqb}
use Rattle.rules.specs.Words.{reserved}
use Rattle.rules.specs.Refusals.{Reason, because, first, wrong_nodes, wrong_rounds, low_bound, too_few, no_sender, reserved_value, stray_fault, settings_reasons, settings_refusal}
use Rattle.rules.specs.declared.Settings.{Settings}

-- ---- a list of reasons, one after another

here : (k : ℕ) (b : Bool) (rs : List Reason) → b ≡ true → k ≡ first (because k b ∷ rs)
unfolding first
here k b rs e = rw e

past : (k : ℕ) (b : Bool) (rs : List Reason) → b ≡ false → first (because k b ∷ rs) ≡ first rs
unfolding first
past k b rs e = rw e

-- the settings' reasons from each number on
abbrev from7 : Settings → List Reason
from7 s = because 7 (stray_fault s.n s.faults) ∷ []

abbrev from6 : Settings → List Reason
from6 s = because 6 (reserved_value s.value) ∷ from7 s

abbrev from5 : Settings → List Reason
from5 s = because 5 (no_sender s.n s.sender) ∷ from6 s

abbrev from4 : Settings → List Reason
from4 s = because 4 (too_few s.n s.m s.u) ∷ from5 s

abbrev from3 : Settings → List Reason
from3 s = because 3 (low_bound s.m s.u) ∷ from4 s

abbrev from2 : Settings → List Reason
from2 s = because 2 (wrong_rounds s.m) ∷ from3 s

-- ---- the settings: each test passed leaves the later reasons, each test failed is an answer

module _ (s : Settings) where
  pub few-nodes : s.n < 4 → 1 ≡ settings_refusal s
  unfolding settings_reasons wrong_nodes
  few-nodes h = here 1 (wrong_nodes s.n) (from2 s) (rw (lt-ltb s.n 4 h))

  pub many-nodes : 4 ≤ s.n → 15 < s.n → 1 ≡ settings_refusal s
  unfolding settings_reasons wrong_nodes
  many-nodes l h = here 1 (wrong_nodes s.n) (from2 s) (rw (le-ltb s.n 4 l, lt-ltb 15 s.n h))

  pub wrong-nodes : (s.n < 4) ⊎ ((4 ≤ s.n) × (15 < s.n)) → 1 ≡ settings_refusal s
  wrong-nodes h = elim h [ inl few ↦ few-nodes few | inr many ↦ many-nodes many.0 many.1 ]

  module _ (four : 4 ≤ s.n) (fifteen : s.n ≤ 15) where
    at2 : settings_refusal s ≡ first (from2 s)
    unfolding settings_reasons wrong_nodes
    at2 = past 1 (wrong_nodes s.n) (from2 s) (rw (le-ltb s.n 4 four, le-ltb 15 s.n fifteen))

    pub no-rounds : s.m ≡ 0 → 2 ≡ settings_refusal s
    unfolding wrong_rounds
    no-rounds h = here 2 (wrong_rounds s.m) (from3 s) (rw (eq-eqb s.m 0 h)) ∙ sym at2

    pub many-rounds : (s.m ≡ 0 → ⊥) → 3 < s.m → 2 ≡ settings_refusal s
    unfolding wrong_rounds
    many-rounds z h = here 2 (wrong_rounds s.m) (from3 s) (rw (ne_eqb s.m 0 z, lt-ltb 3 s.m h)) ∙ sym at2

    pub wrong-rounds : (s.m ≡ 0) ⊎ ((s.m ≡ 0 → ⊥) × (3 < s.m)) → 2 ≡ settings_refusal s
    wrong-rounds h = elim h [ inl none ↦ no-rounds none | inr many ↦ many-rounds many.0 many.1 ]

    module _ (some : s.m ≡ 0 → ⊥) (three : s.m ≤ 3) where
      at3 : settings_refusal s ≡ first (from3 s)
      unfolding wrong_rounds
      at3 = at2 ∙ past 2 (wrong_rounds s.m) (from3 s) (rw (ne_eqb s.m 0 some, le-ltb 3 s.m three))

      pub low-bound : s.u < s.m → 3 ≡ settings_refusal s
      unfolding low_bound
      low-bound h = here 3 (low_bound s.m s.u) (from4 s) (lt-ltb s.u s.m h) ∙ sym at3

      module _ (bound : s.m ≤ s.u) where
        at4 : settings_refusal s ≡ first (from4 s)
        unfolding low_bound
        at4 = at3 ∙ past 3 (low_bound s.m s.u) (from4 s) (le-ltb s.u s.m bound)

        pub too-few : s.n ≤ 2 * s.m + s.u → 4 ≡ settings_refusal s
        unfolding too_few
        too-few h = here 4 (too_few s.n s.m s.u) (from5 s) (le-leb s.n (2 * s.m + s.u) h) ∙ sym at4

        module _ (enough : 2 * s.m + s.u < s.n) where
          at5 : settings_refusal s ≡ first (from5 s)
          unfolding too_few
          at5 = at4 ∙ past 4 (too_few s.n s.m s.u) (from5 s) (lt-leb s.n (2 * s.m + s.u) enough)

          pub no-sender : s.n ≤ s.sender → 5 ≡ settings_refusal s
          unfolding no_sender
          no-sender h = here 5 (no_sender s.n s.sender) (from6 s) (le-leb s.n s.sender h) ∙ sym at5

          module _ (sender : s.sender < s.n) where
            at6 : settings_refusal s ≡ first (from6 s)
            unfolding no_sender
            at6 = at5 ∙ past 5 (no_sender s.n s.sender) (from6 s) (lt-leb s.n s.sender sender)

            pub reserved-value : 65000 < s.value → 6 ≡ settings_refusal s
            unfolding reserved_value reserved
            reserved-value h = here 6 (reserved_value s.value) (from7 s) (lt-ltb 65000 s.value h) ∙ sym at6

            module _ (value : s.value ≤ 65000) where
              at7 : settings_refusal s ≡ first (from7 s)
              unfolding reserved_value reserved
              at7 = at6 ∙ past 6 (reserved_value s.value) (from7 s) (le-ltb 65000 s.value value)

              pub stray-fault : (s.faults / 2 ^ s.n ≡ 0 → ⊥) → 7 ≡ settings_refusal s
              unfolding stray_fault
              stray-fault h = here 7 (stray_fault s.n s.faults) [] (rw (ne_eqb (s.faults / 2 ^ s.n) 0 h)) ∙ sym at7

              pub settings-pass : s.faults / 2 ^ s.n ≡ 0 → settings_refusal s ≡ 0
              unfolding first stray_fault
              settings-pass h = at7 ∙ past 7 (stray_fault s.n s.faults) [] (rw (eq-eqb (s.faults / 2 ^ s.n) 0 h))
