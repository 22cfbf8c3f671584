-- What the contract of `exchange` comes to for each demand. A call is its arguments, its result and the row as it is left, with
-- the contract that ties them together, as callers read it; every statement below is of any such call.
use mathlib.Core.Path.{◌≡◌, ◌∙◌}
use mathlib.Core.Logic.{◌↔◌, ◌≢◌}
use mathlib.Core.List.{List}
use Prim.Native.Nat.{ℕ}
use lib.ListN.{length}
use borrow.Author.Tests.{ne_eqb}
use contract.Lifetimes.{Lfts}
use denote.Triple.Clauses.{AtExit}
use borrow.Fn.Kinds.{Dens, res_t, ended_of}
use Rattle.std.specs.Prelude.{Result, Ok, Err}
use Rattle.rules.specs.Words.{word_at}
use Rattle.rules.specs.Numbers.{number_of, RefusedOr}
use Rattle.rules.specs.Refusals.{exchange_reasons, exchange_refusal}
use Rattle.rules.specs.Exchange.{row_of, played, refused, summary_of}
use Rattle.rules.proofs.Numbers.{number-some}
use Rattle.rules.proofs.Refused.{Lowest}
use Rattle.rules.proofs.Accepted.{ExchangeAccepted}
use Rattle.rules.proofs.Unread.{Agree}
use Rattle.rules.proofs.Agreement.{Agreed}
use Rattle.rules.proofs.Exchanged.{Exchanged}
use Rattle.rules.proofs.Exchanged as E
use Rattle.rules.specs.declared.Settings.{Settings}
use Rattle.rules.specs.declared.Refusal.{Refusal}
use Rattle.rules.specs.declared.Summary.{Summary}
use Rattle.exchange.proofs.exchange.Reads as exchange
use Rattle.exchange.proofs.exchange.Kinds as exchange-kinds

-- ---- a call

pub record Call : Type 0 where
  pub lifetimes : Lfts 2
  pub args : Dens lifetimes exchange-kinds.ps
  pub result : (res_t exchange-kinds.r lifetimes).Denot
  pub exit : AtExit (ended_of 2 exchange-kinds.ps exchange-kinds.r) lifetimes
  pub contract : exchange.Post lifetimes args result exit

abbrev pub settings : Call → Settings
settings c = c.args.0

abbrev pub table : Call → List ℕ
table c = c.args.1.0.now

-- the row's bytes before and after
abbrev pub earlier : Call → List ℕ
earlier c = c.args.1.1.0.now

abbrev pub later : Call → List ℕ
later c = c.exit.1.1.0.now

-- the summary that an answer comes to: a refusal is its number with every other field 0
abbrev pub summed : Result Summary Refusal → Summary
summed (Ok y) = y
summed (Err e) = refused (number_of e)

abbrev pub summary : Call → Summary
summary c = summed c.result

-- the number that the definitions give for a call
abbrev pub due : Call → ℕ
due c = exchange_refusal (settings c) (length (table c)) (length (earlier c))

-- the summary is the one that the definitions give for a call
sums-up : (s : Settings) (t : List ℕ) (row : ℕ) (x : Result Summary Refusal) → RefusedOr (exchange_refusal s (length t) row) (λ y. y ≡ played s t) x
    → summed x ≡ summary_of s t row
unfolding summary_of
sums-up s t row (Ok y) p = p.1 ∙ rw p.0
sums-up s t row (Err e) p = rw (← p, ne_eqb (number_of e) 0 (number-some e))

-- what the contract says of a call
pub told : (c : Call) → Exchanged (settings c) (table c) (earlier c) (summary c) (later c)
told c = record { summary = sums-up (settings c) (table c) (length (earlier c)) c.result c.contract.0; row = c.contract.1 }

-- ---- demand 1: what is turned away

-- the number returned is the one that is due
pub number : (c : Call) → (summary c).refusal ≡ due c
number c = E.number (told c)

-- it is k, which is not 0, exactly when k's condition holds and nothing lower does
pub turned-away : (c : Call) (k : ℕ) → k ≢ 0 → ((summary c).refusal ≡ k) ↔ Lowest k (exchange_reasons (settings c) (length (table c)) (length (earlier c)))
turned-away c = E.turned-away (told c)

-- and 0 exactly when all that is asked holds
pub accepted : (c : Call) → ((summary c).refusal ≡ 0) ↔ ExchangeAccepted (settings c) (length (table c)) (length (earlier c))
accepted c = E.accepted (told c)

-- a refused call returns its number with every other field 0, and the row keeps its bytes
pub refused-call : (c : Call) → (summary c).refusal ≢ 0 → (summary c ≡ refused (due c)) × (later c ≡ earlier c)
refused-call c = E.refused-call (told c)

-- ---- demand 2: what is played

-- an accepted call returns the summary and leaves the decision row that the definitions say
pub played-call : (c : Call) → (summary c).refusal ≡ 0 → (summary c ≡ played (settings c) (table c)) × (later c ≡ row_of (settings c) (table c))
played-call c = E.played-call (told c)

-- Two calls that are given the same except for their tables, of equal length, accepted or not: if the tables agree at every
-- cell whose teller is faulty, the calls return the same summary and leave the same row.
pub same-call : (c d : Call) → settings c ≡ settings d → earlier c ≡ earlier d → length (table c) ≡ length (table d) → Agree (settings c) (table c) (table d)
    → (summary c ≡ summary d) × (later c ≡ later d)
same-call c d = E.same-call (told c) (told d)

-- ---- demand 3: what the row guarantees

-- the words that stand in the row after an accepted call are agreed
pub agreed-call : (c : Call) → (summary c).refusal ≡ 0 → Agreed (settings c) (word_at (later c))
agreed-call c = E.agreed-call (told c)
