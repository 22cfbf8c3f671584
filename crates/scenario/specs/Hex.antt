-- Hexadecimal, both ways: upper case only, two digits a byte.
use Rattle.std.specs.Prelude.{ℕ, ◌+◌, ◌-◌, ◌*◌, ◌/◌, ◌%◌, List, [], ◌∷◌, Bool, ◌&&◌, ◌||◌, cond, ltb, leb}

-- 0-9 or A-F, as the bytes of a file
unfoldable pub is_digit : ℕ → Bool
is_digit b = (leb 48 b && leb b 57) || (leb 65 b && leb b 70)

-- what a digit stands for
unfoldable pub digit_value : ℕ → ℕ
digit_value b = cond (ltb b 65) (b - 48) (b - 55)

-- the digit that stands for a number below 16
unfoldable pub digit_of : ℕ → ℕ
digit_of v = cond (ltb v 10) (48 + v) (55 + v)

-- the bytes that a line's digits write, two digits each
unfoldable pub frame_of : List ℕ → List ℕ
frame_of [] = []
frame_of (a ∷ []) = []
frame_of (a ∷ b ∷ line) = (digit_value a * 16 + digit_value b) ∷ frame_of line

-- the digits that write a row of bytes
unfoldable pub digits_of : List ℕ → List ℕ
digits_of [] = []
digits_of (b ∷ frame) = digit_of (b / 16) ∷ digit_of (b % 16) ∷ digits_of frame
