-- The demands, of the function that the C host is offered: its summary and its row are the definitions', and what was shown of those is
-- said of every call of `tsegumbar_exchange`.
use mathlib.Core.Path.{◌≡◌}
use mathlib.Core.Logic.{◌↔◌, ◌≢◌}
use mathlib.Core.List.{List}
use Prim.Native.Nat.{ℕ}
use lib.ListN.{length}
use Rattle.rules.specs.Words as W
use Rattle.rules.specs.Refusals.{exchange_reasons, exchange_refusal}
use Rattle.rules.specs.Exchange.{row_of, played, refused}
use Rattle.rules.specs.declared.Settings.{Settings}
use Rattle.rules.specs.declared.Summary.{Summary}
use Rattle.rules.proofs.Refused.{Lowest}
use Rattle.rules.proofs.Accepted.{ExchangeAccepted}
use Rattle.rules.proofs.Unread.{Agree}
use Rattle.rules.proofs.Agreement.{Agreed}
use Rattle.rules.proofs.Exchanged.{Exchanged}
use Rattle.rules.proofs.Exchanged as E
use Rattle.host.proofs.Calls.{Call}
use Rattle.host.proofs.tsegumbar_exchange.Reads as exchange
use Rattle.host.proofs.tsegumbar_exchange.Kinds as exchange-kinds

-- ---- a call

abbrev pub Exchange : Type 0
Exchange = Call 2 exchange-kinds.ps exchange-kinds.r exchange.Post

abbrev pub settings : Exchange → Settings
settings c = let a = c.args in W.settings a.0 a.1.0 a.1.1.0 a.1.1.1.0 a.1.1.1.1.0 a.1.1.1.1.1.0

abbrev pub table : Exchange → List ℕ
table c = c.args.1.1.1.1.1.1.0.now

-- the row's bytes before and after
abbrev pub earlier : Exchange → List ℕ
earlier c = c.args.1.1.1.1.1.1.1.0.now

abbrev pub later : Exchange → List ℕ
later c = c.exit.1.1.1.1.1.1.1.0.now

abbrev pub summary : Exchange → Summary
summary c = c.result

-- the number that the definitions give for a call
abbrev pub due : Exchange → ℕ
due c = exchange_refusal (settings c) (length (table c)) (length (earlier c))

-- what the contract says of it
told : (c : Exchange) → Exchanged (settings c) (table c) (earlier c) (summary c) (later c)
told c = record { summary = c.contract.0; row = c.contract.1 }

-- ---- demand 1: what is turned away

-- the number returned is the one that is due
pub number : (c : Exchange) → (summary c).refusal ≡ due c
number c = E.number (told c)

-- it is k, which is not 0, exactly when k's condition holds and nothing lower does
pub turned-away : (c : Exchange) (k : ℕ) → k ≢ 0 → ((summary c).refusal ≡ k) ↔ Lowest k (exchange_reasons (settings c) (length (table c)) (length (earlier c)))
turned-away c = E.turned-away (told c)

-- and 0 exactly when all that is asked holds
pub accepted : (c : Exchange) → ((summary c).refusal ≡ 0) ↔ ExchangeAccepted (settings c) (length (table c)) (length (earlier c))
accepted c = E.accepted (told c)

-- a refused call returns its number with every other field 0, and the row keeps its bytes
pub refused-call : (c : Exchange) → (summary c).refusal ≢ 0 → (summary c ≡ refused (due c)) × (later c ≡ earlier c)
refused-call c = E.refused-call (told c)

-- ---- demand 2: what is played

-- an accepted call returns the summary and leaves the decision row that the definitions say
pub played-call : (c : Exchange) → (summary c).refusal ≡ 0 → (summary c ≡ played (settings c) (table c)) × (later c ≡ row_of (settings c) (table c))
played-call c = E.played-call (told c)

-- Two calls that are given the same except for their tables, of equal length, accepted or not: if the tables agree at every
-- cell whose teller is faulty, the calls return the same summary and leave the same row.
pub same-call : (c d : Exchange) → settings c ≡ settings d → earlier c ≡ earlier d → length (table c) ≡ length (table d) → Agree (settings c) (table c) (table d)
    → (summary c ≡ summary d) × (later c ≡ later d)
same-call c d = E.same-call (told c) (told d)

-- ---- demand 3: what the row guarantees

-- the words that stand in the row after an accepted call are agreed
pub agreed-call : (c : Exchange) → (summary c).refusal ≡ 0 → Agreed (settings c) (W.word_at (later c))
agreed-call c = E.agreed-call (told c)
