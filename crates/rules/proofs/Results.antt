-- What it means that a contract leaves one result: stated of the contract itself, as callers read it. And where a function refuses or
-- gives a value, that leaves one result where it leaves one value.
use mathlib.Core.Path.{◌≡◌, ap, sym, ◌∙◌}
use mathlib.Core.List.{List}
use Prim.Native.Nat.{ℕ}
use contract.Lifetimes.{Lfts}
use denote.Triple.Clauses.{AtExit}
use borrow.Fn.Kinds.{ParamKind, ResultKind, Out, Dens, res_t, ended_of}
use Rattle.std.specs.Prelude.{Result, Ok, Err}
use Rattle.rules.specs.Numbers.{number_of, RefusedOr}
use Rattle.rules.specs.declared.Refusal.{Refusal}
use Rattle.rules.proofs.Numbers.{number-some, number-tells}

-- any two results that it allows for the same arguments are equal
abbrev pub OneResult : (n : ℕ) (ps : List (ParamKind n)) (r : ResultKind n) → Out n ps r → Type 0
OneResult n ps r Post =
    (κs : Lfts n) (a : Dens κs ps) (x y : (res_t r κs).Denot) (s t : AtExit (ended_of n ps r) κs) → Post κs a x s → Post κs a y t → x ≡ y

-- any two answers of a function that refuses by k or gives a value of which P holds are equal, where P leaves one value
pub one-answer : {A : Type 0} (k : ℕ) (P : A → Type 0) → ((a b : A) → P a → P b → a ≡ b) → (x y : Result A Refusal) → RefusedOr k P x → RefusedOr k P y
    → x ≡ y
one-answer k P one (Ok a) (Ok b) p q = ap Ok (one a b p.1 q.1)
one-answer k P one (Ok a) (Err f) p q = absurd (number-some f (q ∙ p.0))
one-answer k P one (Err e) (Ok b) p q = absurd (number-some e (p ∙ q.0))
one-answer k P one (Err e) (Err f) p q = ap Err (number-tells e f (p ∙ sym q))

-- the number that an answer gives: that of its refusal, or 0 beside a value
abbrev pub number_in : {A : Type 0} → Result A Refusal → ℕ
number_in (Ok a) = 0
number_in (Err e) = number_of e

-- it is k of every answer of a function that refuses by k, whatever its values are
pub one-number : {A : Type 0} (k : ℕ) (P : A → Type 0) → (x : Result A Refusal) → RefusedOr k P x → number_in x ≡ k
one-number k P (Ok a) p = sym p.0
one-number k P (Err e) p = p
