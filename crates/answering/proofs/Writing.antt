-- A frame written as a line, a byte at a time.
use mathlib.Core.Path.{◌≡◌, refl, ap}
use mathlib.Core.List.{List, [], ◌∷◌, ◌++◌, append_assoc}
use Prim.Native.Nat.{ℕ, ◌+◌, ◌*◌, ◌/◌, ◌%◌, ◌≤◌, ◌<◌}
use native.Mathlib.Numerals.{add-one}
use lib.ListN.{length, take, get_or, length-append}
use lib.Seq.{take-suc, length-take-le}
use Rattle.std.proofs.lemmas.List.{take_all}
use Rattle.scenario.specs.Hex.{digit_of, digits_of}
use Rattle.scenario.specs.Answer.{line_of}
use Rattle.scenario.proofs.Hexadecimal.{length_digits}

digits_append : (xs ys : List ℕ) → digits_of (xs ++ ys) ≡ digits_of xs ++ digits_of ys
unfolding digits_of
digits_append [] ys = refl
digits_append (b ∷ xs) ys = ap (λ l. digit_of (b / 16) ∷ digit_of (b % 16) ∷ l) (digits_append xs ys)

-- where the first i bytes of a frame were written behind something, so long that is
pub digits_long : (was now frame : List ℕ) (i : ℕ) → now ≡ was ++ digits_of (take i frame) → i ≤ length frame → length now ≡ length was + 2 * i
digits_long was now frame i is h = rw (is, length-append, length_digits, length-take-le i frame h)

-- one more byte of it, two more digits
pub byte_more : (was now frame : List ℕ) (i : ℕ) → now ≡ was ++ digits_of (take i frame) → i < length frame
    → (now' : List ℕ) → now' ≡ now ++ (digit_of (get_or frame i 0 / 16) ∷ digit_of (get_or frame i 0 % 16) ∷ [])
    → now' ≡ was ++ digits_of (take (i + 1) frame)
unfolding digits_of
byte_more was now frame i is h now' more = rw (more, is, add-one, take-suc frame i 0 h, digits_append, append_assoc)

-- LF behind the last ends the line
pub line_ended : (was now frame : List ℕ) (i : ℕ) → now ≡ was ++ digits_of (take i frame) → length frame ≤ i
    → (now' : List ℕ) → now' ≡ now ++ (10 ∷ []) → now' ≡ was ++ line_of frame
unfolding line_of
line_ended was now frame i is h now' more = rw (more, is, take_all i frame h, append_assoc)
