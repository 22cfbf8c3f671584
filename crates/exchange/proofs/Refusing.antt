-- The lengths are judged after the settings: one law for each answer, over the tests passed before it.
use Prim.Native.Nat.{ℕ, ◌*◌}
use mathlib.Core.Path.{◌≡◌, refl, sym}
use mathlib.Core.List.{[], ◌∷◌}
use native.Mathlib.Omega.{arith}
use mir.Syntax.{w64}
use mir.Val.{Fits}
use borrow.Author.Tests.{eq-eqb, ne_eqb}
use Rattle.rules.specs.Cells.{cells}
use Rattle.rules.specs.Numbers.{number_of}
use Rattle.rules.specs.Refusals.{because, first, wrong_table, wrong_row, settings_reasons, settings_refusal, exchange_reasons, exchange_refusal}
use Rattle.rules.proofs.Numbers.{number-some}
use Rattle.rules.proofs.Refused.{settings-ascend, front-stands, rest-decides}
use Rattle.rules.proofs.Growth.{cells-few}
use Rattle.rules.specs.declared.Refusal.{Refusal}
use Rattle.rules.specs.declared.Settings.{Settings}

-- ---- the two lengths, judged after the settings

-- what refuses the settings refuses the exchange
pub settings-refused : (s : Settings) (table row : ℕ) (e : Refusal) → number_of e ≡ settings_refusal s → number_of e ≡ exchange_refusal s table row
unfolding exchange_reasons
settings-refused s table row e known = front-stands (settings_reasons s) _ (number_of e) known (number-some e)

module _ (s : Settings) (table row c : ℕ) (pass : settings_refusal s ≡ 0) (ec : c ≡ cells s.n s.m) where
  lengths : exchange_refusal s table row ≡ first (because 8 (wrong_table s.n s.m table) ∷ because 9 (wrong_row s.n row) ∷ [])
  unfolding exchange_reasons
  lengths = rest-decides (settings_reasons s) _ 0 (settings-ascend s) (sym pass) refl

  pub wrong-table : (table ≡ 2 * c → ⊥) → 8 ≡ exchange_refusal s table row
  unfolding first wrong_table
  wrong-table h = rw (lengths, ← ec, ne_eqb table (2 * c) h)

  module _ (right : table ≡ 2 * c) where
    pub wrong-row : (row ≡ 2 * s.n → ⊥) → 9 ≡ exchange_refusal s table row
    unfolding first wrong_table wrong_row
    wrong-row h = rw (lengths, ← ec, eq-eqb table (2 * c) right, ne_eqb row (2 * s.n) h)

    pub lengths-pass : row ≡ 2 * s.n → exchange_refusal s table row ≡ 0
    unfolding first wrong_table wrong_row
    lengths-pass h = rw (lengths, ← ec, eq-eqb table (2 * c) right, eq-eqb row (2 * s.n) h)

-- two bytes a message
pub cells-scaled : (s : Settings) (c : ℕ) → settings_refusal s ≡ 0 → c ≡ cells s.n s.m → Fits w64 (2 * c)
cells-scaled s c pass ec = record { fits = omega (arith, cells-few s pass) }
