-- Hexadecimal goes both ways: what is written is read back, and what is read could only be written so.
use mathlib.Core.Path.{◌≡◌, refl, ap₂}
use mathlib.Core.Bool.{true, ◌&&◌}
use mathlib.Core.List.{List, [], ◌∷◌}
use Prim.Native.Nat.{ℕ, ◌*◌, ◌/◌, ◌%◌, ◌<◌}
use native.Mathlib.Omega.{arith}
use lib.ListN.{length}
use lib.Arith.{digits_div, digits_mod}
use Rattle.std.proofs.lemmas.Bool.Decides.{nat_tests}
use Rattle.rules.specs.Lists.{all}
use Rattle.rules.proofs.Counting.{and_left, and_right}
use Rattle.scenario.specs.Hex.{is_digit, digit_value, digit_of, frame_of, digits_of}

-- ---- one digit

-- what a digit that was written stands for
value-of-digit : (v : ℕ) → digit_value (digit_of v) ≡ v
unfolding digit_value digit_of
value-of-digit v = grind (arith, nat_tests)

-- 0-9 stand for less than 10, A-F for 10 to 15
pub record Digit (b v : ℕ) : Type 0 where
  pub low : v < 16
  pub written : digit_of v ≡ b

pub digit-of : (b : ℕ) → is_digit b ≡ true → Digit b (digit_value b)
unfolding is_digit digit_value digit_of
digit-of b h = record { low = grind (arith, nat_tests); written = grind (arith, nat_tests) }

-- ---- rows of bytes and lines of digits

-- bytes that are written are read back
pub read_back : (frame : List ℕ) → frame_of (digits_of frame) ≡ frame
unfolding frame_of digits_of
read_back [] = refl
read_back (b ∷ frame) =
    let high : digit_value (digit_of (b / 16)) ≡ b / 16 = value-of-digit (b / 16) in
    let low : digit_value (digit_of (b % 16)) ≡ b % 16 = value-of-digit (b % 16) in
    ap₂ ◌∷◌ (omega arith) (read_back frame)

-- digits that are read are the only ones that write what was read
pub written-so : (line : List ℕ) → all is_digit line ≡ true → length line % 2 ≡ 0 → digits_of (frame_of line) ≡ line
unfolding frame_of digits_of all
written-so [] h even = refl
written-so (a ∷ []) h even = absurd (omega arith)
written-so (a ∷ b ∷ line) h even =
    let later = and_right (is_digit a) (is_digit b && all is_digit line) h in
    let high = digit-of a (and_left (is_digit a) (is_digit b && all is_digit line) h) in
    let low = digit-of b (and_left (is_digit b) (all is_digit line) later) in
    ap₂ ◌∷◌
    (rw (digits_div (digit_value a) low.low) high.written)
    (ap₂ ◌∷◌
    (rw (digits_mod (digit_value a) low.low) low.written)
    (written-so line (and_right (is_digit b) (all is_digit line) later) (omega arith)))

pub length_digits : (frame : List ℕ) → length (digits_of frame) ≡ 2 * length frame
unfolding digits_of
length_digits [] = refl
length_digits (b ∷ frame) = omega (arith, length_digits frame)

pub length-frame : (line : List ℕ) → length (frame_of line) ≡ length line / 2
unfolding frame_of
length-frame [] = refl
length-frame (a ∷ []) = refl
length-frame (a ∷ b ∷ line) = omega (arith, length-frame line)
