-- The lent marks: where a cell's mark stands; setting it sets it and no other, and cleared marks are all unset.
use mathlib.Core.Path.{◌≡◌, refl}
use mathlib.Core.Logic.{◌≢◌}
use mathlib.Core.Bool.{true, false}
use mathlib.Core.List.{List, ◌∷◌}
use Prim.Native.Nat.{ℕ, zero, suc, ◌+◌, ◌/◌, ◌%◌, ◌^◌, ◌<◌}
use native.Mathlib.Nat.{zero-div}
use native.Mathlib.Omega.{arith}
use lib.ListN.{length, get_or, replicate, length-set}
use lib.Seq.{get_or-set_same, get_or-set_other, set_out}
use lib.Dec.{eqb}
use lib.Bits.{bit_or}
use Rattle.std.proofs.lemmas.Bool.{cases_eq, cases_lt}
use Rattle.std.proofs.lemmas.Bool.Decides.{nat_tests}
use Rattle.std.proofs.lemmas.Nat.Bits.{bit_at_or, bit_at-pow_same, bit_at-pow_other}
use Rattle.scenario.specs.Marks.{marked, mark, bits_of}

-- ---- where a cell's mark stands

-- the first eight cells have the bits of the first byte, the first cell the lowest,
pub first_byte : (b : ℕ) (marks : List ℕ) (c : ℕ) → c < 8 → marked (b ∷ marks) c ≡ eqb (b / 2 ^ c % 2) 1
unfolding marked
first_byte b marks c h =
    let byte : c / 8 ≡ 0 = omega arith in
    let place : c % 8 ≡ c = omega arith in
    rw (byte, place)

-- and those behind them the bits of the bytes behind it
pub next-byte : (b : ℕ) (marks : List ℕ) (c : ℕ) → marked (b ∷ marks) (8 + c) ≡ marked marks c
unfolding marked
next-byte b marks c =
    let byte : (8 + c) / 8 ≡ suc (c / 8) = omega arith in
    let place : (8 + c) % 8 ≡ c % 8 = omega arith in
    rw (byte, place)

-- ---- all marks

-- the cell's own mark
pub mark-same : (marks : List ℕ) (c : ℕ) → c < bits_of marks → marked (mark marks c) c ≡ true
unfolding marked mark
mark-same marks c h =
    let byte = get_or marks (c / 8) 0 in
    let bit = 2 ^ (c % 8) in
    grind (arith, nat_tests, get_or-set_same marks (c / 8) (bit_or byte bit) 0, bit_at_or byte bit (c % 8), bit_at-pow_same (c % 8))

-- any other's
pub mark-other : (marks : List ℕ) (c e : ℕ) → e ≢ c → marked (mark marks c) e ≡ marked marks e
unfolding marked mark
mark-other marks c e ne =
    let byte = get_or marks (c / 8) 0 in
    let bit = 2 ^ (c % 8) in
    grind (
      arith,
      nat_tests,
      cases_eq (e / 8) (c / 8),
      cases_lt (c / 8) (length marks),
      get_or-set_same marks (c / 8) (bit_or byte bit) 0,
      get_or-set_other marks (c / 8) (e / 8) (bit_or byte bit) 0,
      set_out marks (c / 8) (bit_or byte bit),
      bit_at_or byte bit (e % 8),
      bit_at-pow_other (c % 8) (e % 8),
    )

pub marks-length : (marks : List ℕ) (c : ℕ) → length (mark marks c) ≡ length marks
unfolding mark
marks-length marks c = length-set marks (c / 8) (bit_or (get_or marks (c / 8) 0) (2 ^ (c % 8)))

-- a cleared row reads 0 everywhere
pub zero_row : (k i : ℕ) → ◌≡◌ {A = ℕ} (get_or (replicate k 0) i 0) 0
zero_row zero i = refl
zero_row (suc k) zero = refl
zero_row (suc k) (suc i) = zero_row k i

-- cleared marks
pub unmarked : (k c : ℕ) → marked (replicate k 0) c ≡ false
unfolding marked
unmarked k c = rw (zero_row k (c / 8), zero-div)
