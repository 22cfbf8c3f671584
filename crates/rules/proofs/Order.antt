-- Ascending order of rows of numbers, the first number weighing most.
use Rattle.std.proofs.Common.{ℕ, ◌<◌, ◌≡◌, ◌⊎◌, inl, inr, refl, List, [], ◌∷◌, ◌++◌, arith}

-- x stands before y: at the first place where they differ, x has the smaller number
pub data Before : List ℕ → List ℕ → Type 0 where
  first-differs : {a b : ℕ} {x y : List ℕ} → a < b → Before (a ∷ x) (b ∷ y)
  first-same : {a : ℕ} {x y : List ℕ} → Before x y → Before (a ∷ x) (a ∷ y)

-- the same by the rows' first numbers
Stands : List ℕ → List ℕ → Type 0
Stands [] y = ⊥
Stands (a ∷ x) [] = ⊥
Stands (a ∷ x) (b ∷ y) = (a < b) ⊎ ((a ≡ b) × Stands x y)

stands : {x y : List ℕ} → Before x y → Stands x y
unfolding Stands
stands (first-differs h) = inl h
stands (first-same h) = inr (refl, stands h)

stands-one-way : (x y : List ℕ) → Stands x y → Stands y x → ⊥
unfolding Stands
stands-one-way [] y s t = s
stands-one-way (a ∷ x) [] s t = s
stands-one-way (a ∷ x) (b ∷ y) h k = grind (arith, stands-one-way x y)

-- not both ways, and so no row stands before itself
pub before-one-way : {x y : List ℕ} → Before x y → Before y x → ⊥
before-one-way {x = x} {y = y} h k = stands-one-way x y (stands h) (stands k)

-- what follows does not matter once two rows differ
pub before-rest : {x y : List ℕ} (u v : List ℕ) → Before x y → Before (x ++ u) (y ++ v)
before-rest u v (first-differs h) = first-differs h
before-rest u v (first-same h) = first-same (before-rest u v h)

-- the last number decides where the others are the same
pub before_last : (x : List ℕ) (a b : ℕ) → a < b → Before (x ++ (a ∷ [])) (x ++ (b ∷ []))
before_last [] a b h = first-differs h
before_last (c ∷ x) a b h = first-same (before_last x a b h)
