-- A call of a function that is offered to C, and how its number is read.
use mathlib.Core.Path.{◌≡◌, sym, ap, ◌∙◌}
use mathlib.Core.Logic.{◌↔◌, ◌≢◌}
use mathlib.Core.Bool.{true, false}
use mathlib.Core.List.{List}
use Prim.Native.Nat.{ℕ}
use lib.Dec.{eqb}
use borrow.Author.Tests.{eqb-true, eqb-false}
use contract.Lifetimes.{Lfts}
use denote.Triple.Clauses.{AtExit}
use borrow.Fn.Kinds.{ParamKind, ResultKind, Out, Dens, res_t, ended_of}
use Rattle.rules.proofs.Counting.{by-test}

-- its arguments, its result and what was lent as it is left, with the contract that ties them together, as callers read it
pub record Call (n : ℕ) (ps : List (ParamKind n)) (r : ResultKind n) (Post : Out n ps r) : Type 0 where
  pub lifetimes : Lfts n
  pub args : Dens lifetimes ps
  pub result : (res_t r lifetimes).Denot
  pub exit : AtExit (ended_of n ps r) lifetimes
  pub contract : Post lifetimes args result exit

-- The number in an answer is k, if the answer has number 0 where k is 0, and k elsewhere.
pub number_is : {A : Type 0} (number : A → ℕ) (k : ℕ) {x found taken refused : A} → x ≡ found → (k ≡ 0 → found ≡ taken) → (k ≢ 0 → found ≡ refused)
    → number taken ≡ 0 → number refused ≡ k → number x ≡ k
number_is number k its passed stopped zero some =
    by-test (eqb k 0)
    (λ (e : eqb k 0 ≡ true). let z = eqb-true k 0 e in ap number (its ∙ passed z) ∙ zero ∙ sym z)
    (λ (e : eqb k 0 ≡ false). ap number (its ∙ stopped (eqb-false k 0 e)) ∙ some)

-- what is so exactly where x is k is so exactly where y is, which is the same as x
pub exactly : {A B : Type 0} {x y k : A} → x ≡ y → (y ≡ k) ↔ B → (x ≡ k) ↔ B
exactly e h = (λ p. h.0 (sym e ∙ p), λ a. e ∙ h.1 a)
