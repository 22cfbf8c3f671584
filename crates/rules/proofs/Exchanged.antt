-- What an exchange comes to for each demand: said of any summary and row that are those of the definitions for what was given.
use mathlib.Core.Path.{◌≡◌, sym, ap, subst, ◌∙◌}
use mathlib.Core.Logic.{◌↔◌, ◌≢◌}
use mathlib.Core.Bool.{true, false}
use mathlib.Core.List.{List}
use Prim.Native.Nat.{ℕ}
use lib.ListN.{length}
use lib.Dec.{eqb}
use borrow.Author.Tests.{eq-eqb, ne_eqb, eqb-true}
use Rattle.rules.specs.Words.{word_at}
use Rattle.rules.specs.Refusals.{exchange_reasons, exchange_refusal}
use Rattle.rules.specs.Exchange.{row_of, played, refused, summary_of, row_after}
use Rattle.rules.specs.declared.Settings.{Settings}
use Rattle.rules.specs.declared.Summary.{Summary}
use Rattle.rules.proofs.Counting.{by-test}
use Rattle.rules.proofs.Refused.{Lowest, exchange-refused}
use Rattle.rules.proofs.Accepted.{ExchangeAccepted, exchange-accepted}
use Rattle.rules.proofs.DecisionRow.{row_written, row_kept}
use Rattle.rules.proofs.Unread.{Agree, unread}
use Rattle.rules.proofs.Agreement.{Agreed, row-agreed}

-- the summary, and the row as it was before and as it is left
pub record Exchanged (s : Settings) (table earlier : List ℕ) (y : Summary) (later : List ℕ) : Type 0 where
  pub summary : y ≡ summary_of s table (length earlier)
  pub row : later ≡ row_after s table earlier

module _ {s : Settings} {table earlier : List ℕ} {y : Summary} {later : List ℕ} (x : Exchanged s table earlier y later) where
  -- the number that the definitions give
  abbrev due : ℕ
  due = exchange_refusal s (length table) (length earlier)

  -- ---- demand 1: what is turned away

  due-summed : (summary_of s table (length earlier)).refusal ≡ due
  unfolding summary_of played refused
  due-summed = by-test (eqb due 0) (λ (e : eqb due 0 ≡ true). rw e (sym (eqb-true due 0 e))) (λ (e : eqb due 0 ≡ false). rw e)

  -- the number returned is the one that is due
  pub number : y.refusal ≡ due
  number = ap (λ (z : Summary). z.refusal) x.summary ∙ due-summed

  -- it is k, which is not 0, exactly when k's condition holds and nothing lower does
  pub turned-away : (k : ℕ) → k ≢ 0 → (y.refusal ≡ k) ↔ Lowest k (exchange_reasons s (length table) (length earlier))
  turned-away k some =
      let exactly = exchange-refused k s (length table) (length earlier) some in
      (λ e. exactly.0 (sym number ∙ e), λ l. number ∙ exactly.1 l)

  -- and 0 exactly when all that is asked holds
  pub accepted : (y.refusal ≡ 0) ↔ ExchangeAccepted s (length table) (length earlier)
  accepted =
      let exactly = exchange-accepted s (length table) (length earlier) in
      (λ e. exactly.0 (sym number ∙ e), λ h. number ∙ exactly.1 h)

  -- a refused call returns its number with every other field 0, and the row keeps its bytes
  pub refused-call : y.refusal ≢ 0 → (y ≡ refused due) × (later ≡ earlier)
  unfolding summary_of
  refused-call some =
      let no : due ≢ 0 = λ e. some (number ∙ e) in
      (x.summary ∙ rw (ne_eqb due 0 no), x.row ∙ row_kept s table earlier no)

  -- ---- demand 2: what is played

  -- an accepted call returns the summary and leaves the decision row that the definitions say
  pub played-call : y.refusal ≡ 0 → (y ≡ played s table) × (later ≡ row_of s table)
  unfolding summary_of
  played-call zero =
      let e : due ≡ 0 = sym number ∙ zero in
      (x.summary ∙ rw (eq-eqb due 0 e), x.row ∙ row_written s table earlier e)

  -- ---- demand 3: what the row guarantees

  -- the words that stand in the row after an accepted call are agreed
  pub agreed-call : y.refusal ≡ 0 → Agreed s (word_at later)
  agreed-call zero =
      subst (λ (row : List ℕ). Agreed s (word_at row)) (sym x.row) (row-agreed s table earlier (sym number ∙ zero))

-- equal settings and rows make equal answers
same-given : (s s' : Settings) (t row row' : List ℕ) → s ≡ s' → row ≡ row' → (summary_of s t (length row) ≡ summary_of s' t (length row')) × (row_after s t row ≡ row_after s' t row')
same-given s s' t row row' es er = (rw (es, er), rw (es, er))

-- Two exchanges that are given the same except for their tables, of equal length, accepted or not: if the tables agree at every cell
-- whose teller is faulty, the summaries are the same and so are the rows that are left.
pub same-call : {s s' : Settings} {table table' earlier earlier' : List ℕ} {y y' : Summary} {later later' : List ℕ} → Exchanged s table earlier y later
    → Exchanged s' table' earlier' y' later' → s ≡ s' → earlier ≡ earlier' → length table ≡ length table' → Agree s table table' → (y ≡ y') × (later ≡ later')
same-call {s} {s'} {table} {table'} {earlier} {earlier'} a b es er long agree =
    let tables = unread (record { settings = s; row = earlier }) table table' long agree in
    let given = same-given s s' table' earlier earlier' es er in
    (a.summary ∙ tables.0 ∙ given.0 ∙ sym b.summary, a.row ∙ tables.1 ∙ given.1 ∙ sym b.row)
