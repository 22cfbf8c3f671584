-- Refusals of lines and of whole files: a number is given exactly when its condition holds and no earlier one in the order does, and
-- none exactly when none holds.
use mathlib.Core.Path.{◌≡◌, refl}
use mathlib.Core.Logic.{◌≢◌, ◌↔◌}
use mathlib.Core.Bool.{Bool, true, and-not_self}
use mathlib.Core.List.{List}
use Prim.Native.Nat.{ℕ, ◌≤◌}
use native.Mathlib.Omega.{arith}
use lib.Dec.{eqb, leb}
use Rattle.rules.specs.Lists.{all}
use Rattle.rules.specs.Refusals.{Reason, settings_reasons}
use Rattle.rules.proofs.Refused.{FirstApplies, NoneApplies, numbered, numbers, first-is, first-none, first-most}
use Rattle.scenario.specs.Hex.{frame_of}
use Rattle.scenario.specs.Reasons.{Desk, lent_reasons, open_reasons, tell_reasons, close_reasons, kind_reasons, line_reasons, line_refusal}
use Rattle.scenario.specs.File.{end_reasons, end_refusal}
use Rattle.scenario.specs.declared.Reader.{Reader}

-- ---- a line

-- what holds of the reasons of each kind holds of a line's
each-kind : (P : List Reason → Bool) (d : Desk) (frame : List ℕ) → P (open_reasons d frame) ≡ true → P (tell_reasons d frame) ≡ true → P (close_reasons d frame) ≡ true
    → P (kind_reasons d frame) ≡ true
unfolding kind_reasons
each-kind P d frame opens tells closes = grind arith

line-numbered : (d : Desk) (line : List ℕ) → numbered (line_reasons d line) ≡ true
unfolding line_reasons numbered open_reasons tell_reasons close_reasons lent_reasons settings_reasons
line-numbered d line = each-kind numbered d (frame_of line) refl refl refl

-- no number is above 25
line-few : (d : Desk) (line : List ℕ) → all (λ k. leb k 25) (numbers (line_reasons d line)) ≡ true
unfolding line_reasons all open_reasons tell_reasons close_reasons lent_reasons settings_reasons
line-few d line = each-kind (λ l. all (λ k. leb k 25) (numbers l)) d (frame_of line) refl refl refl

pub line_small : (d : Desk) (line : List ℕ) → line_refusal d line ≤ 25
line_small d line = first-most 25 (line_reasons d line) (line-few d line)

pub line_refused : (k : ℕ) (d : Desk) (line : List ℕ) → k ≢ 0 → (line_refusal d line ≡ k) ↔ FirstApplies k (line_reasons d line)
line_refused k d line = first-is k (line_reasons d line)

pub line-passed : (d : Desk) (line : List ℕ) → (line_refusal d line ≡ 0) ↔ NoneApplies (line_reasons d line)
line-passed d line = first-none (line_reasons d line) (line-numbered d line)

-- ---- a file

end-numbered : (r : Reader) (table rest : List ℕ) → numbered (end_reasons r table rest) ≡ true
unfolding end_reasons numbered
end-numbered r table rest = rw (and-not_self (eqb r.refusal 0))

pub file-refused : (k : ℕ) (r : Reader) (table rest : List ℕ) → k ≢ 0 → (end_refusal r table rest ≡ k) ↔ FirstApplies k (end_reasons r table rest)
file-refused k r table rest = first-is k (end_reasons r table rest)

pub file-passed : (r : Reader) (table rest : List ℕ) → (end_refusal r table rest ≡ 0) ↔ NoneApplies (end_reasons r table rest)
file-passed r table rest = first-none (end_reasons r table rest) (end-numbered r table rest)
