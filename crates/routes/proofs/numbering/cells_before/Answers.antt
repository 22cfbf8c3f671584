-- `routes::numbering::cells_before`: the rounds multiplied out, by cases on their number.
use Rattle.std.proofs.Common.{arith, ◌≡◌, ◌+◌, ◌-◌, ℕ, zero-add, one-mul}
use native.Mathlib.Nat.{sub-zero}
use Rattle.rules.specs.Cells.{cells_before, routes_of}
use Rattle.routes.proofs.numbering.cells_before.Goals as goal

less : (n k : ℕ) → n - 1 - k ≡ n - (k + 1)
less n k = omega arith

pub returns-then-k-eq0 : goal.returns-then-k-eq0
unfolding cells_before
returns-then-k-eq0 c = rw c.if-k-eq0.true

pub returns-then-k-eq1 : goal.returns-then-k-eq1
unfolding cells_before routes_of
returns-then-k-eq1 c = simp (c.if-k-eq1.true, zero-add, one-mul, sub-zero)

pub returns-then-k-eq2 : goal.returns-then-k-eq2
unfolding cells_before routes_of
returns-then-k-eq2 c = simp (c.if-k-eq2.true, zero-add, one-mul, sub-zero, less)

pub returns-then-k-eq3 : goal.returns-then-k-eq3
unfolding cells_before routes_of
returns-then-k-eq3 c = simp (c.if-k-eq3.true, zero-add, one-mul, sub-zero, less)

pub returns : goal.returns
unfolding cells_before routes_of
returns c =
    let four : c.args.k ≡ 4 = omega (arith, c.requires.deep) in
    simp (four, zero-add, one-mul, sub-zero, less)
