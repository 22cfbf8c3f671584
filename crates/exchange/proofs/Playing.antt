-- The exchange as a whole: acceptance makes the table's room and the row's size, and a summary follows its definition.
use Prim.Native.Nat.{ℕ, ◌*◌, ◌/◌}
use mathlib.Core.Path.{◌≡◌, ◌∙◌}
use mathlib.Core.List.{List}
use native.Mathlib.Omega.{arith}
use lib.ListN.{length}
use lib.Count.{ones}
use mir.Syntax.{w32}
use mir.Val.{Fits}
use borrow.Author.Tests.{eq-eqb, ne_eqb}
use Rattle.rules.specs.Cells.{cells}
use Rattle.rules.specs.Numbers.{number_of}
use Rattle.rules.specs.Refusals.{exchange_refusal}
use Rattle.rules.specs.Exchange.{class_of, row_of, tie_count, played, row_after}
use Rattle.rules.proofs.Numbers.{number-some}
use Rattle.rules.proofs.Numbering.{cell-lt}
use Rattle.rules.proofs.Accepted.{ExchangeAccepted, settings-accepted, exchange-accepted}
use Rattle.rules.proofs.Growth.{cells-few}
use Rattle.rules.specs.declared.Refusal.{Refusal}
use Rattle.rules.specs.declared.Settings.{Settings}
use Rattle.delivery.specs.Told.{Given}

-- a refused call leaves the row its bytes
pub refused-row : (s : Settings) (t row : List ℕ) (e : Refusal) → number_of e ≡ exchange_refusal s (length t) (length row) → row ≡ row_after s t row
unfolding row_after
refused-row s t row e known = rw (← known, ne_eqb (number_of e) 0 (number-some e))

-- ---- an accepted call

module _ (s : Settings) (t row : List ℕ) (pass : exchange_refusal s (length t) (length row) ≡ 0) where
  facts : ExchangeAccepted s (length t) (length row)
  facts = (exchange-accepted s (length t) (length row)).0 pass

  -- every route has its cell in a table of two bytes a message
  pub plays : (s' : Settings) → s' ≡ s → Given s' t
  plays s' es =
      rw es
      record {
        judged = facts.settings;
        room = λ p route. omega (arith, cell-lt s.n s.sender facts.settings.sender-below s.m p route, facts.table_is);
      }

  -- and the row has two bytes a node
  pub row-fits : (s' : Settings) → s' ≡ s → length row ≡ 2 * s'.n
  row-fits s' es = rw es facts.row_is

  -- the table has a word for each message
  messages-are : length t / 2 ≡ cells s.n s.m
  messages-are = omega (arith, facts.table_is)

  -- and M fits 32 bits
  pub messages-fit : Fits w32 (length t / 2)
  messages-fit = record { fits = omega (arith, messages-are, cells-few s ((settings-accepted s).1 facts.settings)) }

  -- the row that was played is the row that is due
  pub played-row : (s' : Settings) (row' : List ℕ) → s' ≡ s → row' ≡ row_of s' t → row' ≡ row_after s t row
  unfolding row_after
  played-row s' row' es er = er ∙ rw (es, eq-eqb _ 0 pass)

  -- and so is the summary
  pub played-summary : (s' : Settings) (class ties : ℕ) → s' ≡ s → class ≡ class_of (ones s.faults) s.m s.u → ties ≡ tie_count s' t
      → record { refusal = 0; faults = ones s.faults; fault_class = class; ties = ties; messages = length t / 2 } ≡ played s t
  unfolding played
  played-summary s' class ties es ec et = rw (ec, et, es, messages-are)
