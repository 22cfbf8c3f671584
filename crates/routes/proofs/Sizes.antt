-- How many routes there can be of at most 4 numbers over at most 15 nodes: so few that every product and every sum of the code fits.
use mathlib.Core.Path.{refl}
use Prim.Native.Nat.{ℕ, suc, ◌+◌, ◌≤◌, ◌<◌}
use native.Mathlib.Omega.{arith}
use native.Mathlib.Numerals.{add-one}
use Rattle.rules.specs.Cells.{routes_of, cells_before}
use Rattle.rules.proofs.Numbering.{cells-step}
use Rattle.rules.proofs.Growth.{cells-most}

-- the routes of a length are part of the cells
pub routes-most : (n k : ℕ) → n ≤ 15 → k < 4 → routes_of n (k + 1) ≤ 26404
routes-most n k few deep = rw add-one (omega (arith, cells-step n k, cells-most n (suc k) (cells_before n (suc k)) refl few deep))
