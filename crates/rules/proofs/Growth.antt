-- Numbers that grow with the nodes and the rounds, and what they come to at the most: 15 nodes and 3 rounds.
use mathlib.Core.Path.{◌≡◌, refl}
use Prim.Native.Nat.{ℕ, zero, suc, ◌+◌, ◌*◌, ◌≤◌}
use native.Mathlib.Nat.{mul-le-mul}
use native.Mathlib.Omega.{arith}
use Rattle.rules.specs.Cells.{routes_of, cells_before, cells}
use Rattle.rules.specs.Refusals.{settings_refusal}
use Rattle.rules.specs.declared.Settings.{Settings}
use Rattle.rules.proofs.Numbering.{ascends, cells-ascend}
use Rattle.rules.proofs.Accepted.{LayoutAccepted, settings-accepted, layout_of}

-- ---- cells

routes-grow : (n n' k : ℕ) → n ≤ n' → routes_of n k ≤ routes_of n' k
unfolding routes_of
routes-grow n n' zero h = omega arith
routes-grow n n' (suc k) h = mul-le-mul (routes-grow n n' k h) (omega arith)

wider : (n n' k : ℕ) → n ≤ n' → cells_before n k ≤ cells_before n' k
unfolding cells_before
wider n n' zero h = omega arith
wider n n' (suc k) h = omega (arith, wider n n' k h, routes-grow n n' (suc k) h)

-- more nodes or more rounds have no fewer cells
cells-grow : (n n' k k' : ℕ) → n ≤ n' → k ≤ k' → cells_before n k ≤ cells_before n' k'
cells-grow n n' k k' h h' = omega (arith, wider n n' k h, cells-ascend n' k k' h')

-- rounds 0 to 3 of 15 nodes have 26,404
pub cells-most : (n k b : ℕ) → b ≡ cells_before n k → n ≤ 15 → k ≤ 4 → b ≤ 26404
unfolding cells_before routes_of
cells-most n k b e few deep = rw e (cells-grow n 15 k 4 few deep)

-- so M is 26,404 at the most
pub messages-most : (n m : ℕ) → LayoutAccepted n m → cells n m ≤ 26404
unfolding cells
messages-most n m ok = cells-most n (m + 1) (cells n m) refl ok.fifteen (omega (arith, ok.three))

pub cells-few : (s : Settings) → settings_refusal s ≡ 0 → cells s.n s.m ≤ 26404
cells-few s pass = messages-most s.n s.m (layout_of s ((settings-accepted s).0 pass))

-- ---- ties

-- so many ties at the most stand behind a decision with t rounds left: one for each entry's decision, and one of its own
unfoldable pub ties_most : ℕ → ℕ → ℕ
ties_most n zero = 0
ties_most n (suc t) = n * ties_most n t + 1

ties-wider : (n n' t : ℕ) → n ≤ n' → ties_most n t ≤ ties_most n' t
unfolding ties_most
ties-wider n n' zero h = omega arith
ties-wider n n' (suc t) h = omega (arith, mul-le-mul h (ties-wider n n' t h))

-- over all nodes they are 3,615 at the most
pub ties-most : (n m : ℕ) → LayoutAccepted n m → n * ties_most n m ≤ 3615
unfolding ties_most
ties-most n m ok =
    let deeper : ties_most 15 m ≤ ties_most 15 3 = ascends (ties_most 15) (λ k. omega arith) m 3 ok.three in
    mul-le-mul {n₁ = n} {m₁ = ties_most n m} {n₂ = 15} {m₂ = 241} ok.fifteen (omega (arith, ties-wider n 15 m ok.fifteen))
