-- Plain words about lists of numbers, used by every other page.
use Rattle.std.specs.Prelude.{ℕ, zero, suc, ◌+◌, List, [], ◌∷◌, ◌++◌, Bool, true, false, ◌&&◌, cond}

-- 1 where a test passes, 0 where it fails
abbrev pub bit : Bool → ℕ
bit true = 1
bit false = 0

-- how many numbers pass a test
unfoldable pub count : (ℕ → Bool) → List ℕ → ℕ
count P [] = 0
count P (x ∷ xs) = bit (P x) + count P xs

-- the numbers that pass a test, in their order
unfoldable pub keep : (ℕ → Bool) → List ℕ → List ℕ
keep P [] = []
keep P (x ∷ xs) = cond (P x) (x ∷ keep P xs) (keep P xs)

-- every number passes a test
unfoldable pub all : (ℕ → Bool) → List ℕ → Bool
all P [] = true
all P (x ∷ xs) = P x && all P xs

-- the numbers below n, ascending
unfoldable pub up_to : ℕ → List ℕ
up_to zero = []
up_to (suc n) = up_to n ++ (n ∷ [])

-- the sum of the numbers
unfoldable pub total : List ℕ → ℕ
total [] = 0
total (x ∷ xs) = x + total xs
