-- Laws of a line and of its frame as a row of nine bytes.
use mathlib.Core.Path.{◌≡◌, refl, sym, ap, ◌∙◌}
use mathlib.Core.Bool.{Bool, true, false, not, ◌||◌, or-true}
use mathlib.Core.Logic.{◌≢◌}
use mathlib.Core.List.{List, [], ◌∷◌, ◌++◌}
use Prim.Native.Nat.{ℕ, zero, suc, ◌+◌, ◌-◌, ◌*◌, ◌%◌, ◌≤◌, ◌<◌}
use native.Mathlib.Omega.{arith}
use lib.ListN.{length, take, drop, get_or, set, replicate, length-append, get_or-append}
use lib.Seq.{length-take-le, set-append_seam, append_snoc, drop-drop, drop-append_seam}
use Rattle.std.proofs.Common.{add-zero, length-drop}
use Rattle.std.proofs.lemmas.List.{get_or-drop}
use lib.Dec.{eqb, ltb}
use borrow.Author.Tests.{eq-eqb, ne_eqb, lt-ltb, le-ltb, eqb-true, ltb-false, not-false}
use Rattle.rules.specs.Lists.{all}
use Rattle.rules.proofs.Counting.{or_left, or_right}
use Rattle.scenario.specs.Hex.{is_digit, digit_value, frame_of}
use Rattle.scenario.specs.Frames.{line_in, settings_in, route_in, word_told, count_in}
use Rattle.scenario.specs.Reasons.{no_frame, size_of}
use Rattle.frames.specs.Rows.{frame_row}
use Rattle.scenario.proofs.Hexadecimal.{length-frame}

-- ---- what is refused as no frame

-- a line of digits, two for each of at most nine bytes
pub record Framed (line : List ℕ) : Type 0 where
  pub most : length line ≤ 18
  pub even : length line % 2 ≡ 0
  pub digits : all is_digit line ≡ true

module _ (line : List ℕ) where
  -- no digits make no frame
  pub none-held : length line ≡ 0 → true ≡ no_frame line
  unfolding no_frame
  none-held e = rw e

  -- nor do more than 18
  pub too-many-held : 18 < length line → true ≡ no_frame line
  unfolding no_frame
  too-many-held h = rw (lt-ltb 18 (length line) h, or-true)

  -- nor does an odd number
  pub odd-held : length line % 2 ≢ 0 → true ≡ no_frame line
  unfolding no_frame
  odd-held ne = rw (ne_eqb (length line % 2) 0 ne, or-true)

  -- an even number from 2 to 18 makes one exactly where all are digits
  pub digits-held : length line ≢ 0 → length line ≤ 18 → length line % 2 ≡ 0 → {b : Bool} → b ≡ all is_digit line → not b ≡ no_frame line
  unfolding no_frame
  digits-held ne h even e = rw (e, ne_eqb (length line) 0 ne, eq-eqb (length line % 2) 0 even, le-ltb 18 (length line) h)

-- what the tests of a line's length say of it
pub ruleset count_told = (none-held, too-many-held, odd-held, digits-held)

-- a line that is not refused is one
pub framed : (line : List ℕ) → no_frame line ≡ false → Framed line
unfolding no_frame
framed line e =
    let odd = not (eqb (length line % 2) 0) in
    let size = or_left (eqb (length line) 0 || odd || ltb 18 (length line)) (not (all is_digit line)) e in
    let even = or_right (eqb (length line) 0) odd (or_left (eqb (length line) 0 || odd) (ltb 18 (length line)) size) in
    record {
      most = ltb-false 18 (length line) (or_right (eqb (length line) 0 || odd) (ltb 18 (length line)) size);
      even = eqb-true (length line % 2) 0 (not-false (eqb (length line % 2) 0) even);
      digits = not-false (all is_digit line) (or_right (eqb (length line) 0 || odd || ltb 18 (length line)) (not (all is_digit line)) e);
    }

-- ---- the frame, a byte at a time

-- two more digits are one more byte
frame-snoc : (i : ℕ) (xs : List ℕ) → 2 * i + 1 < length xs
    → frame_of (take (2 * i + 2) xs) ≡ frame_of (take (2 * i) xs) ++ ((digit_value (get_or xs (2 * i) 0) * 16 + digit_value (get_or xs (2 * i + 1) 0)) ∷ [])
unfolding frame_of
frame-snoc i [] h = absurd (omega arith)
frame-snoc i (a ∷ []) h = absurd (omega arith)
frame-snoc zero (a ∷ b ∷ xs) h = refl
frame-snoc (suc i) (a ∷ b ∷ xs) h =
    let e : 2 * suc i ≡ suc (suc (2 * i)) = omega arith in
    let e1 : suc (suc (2 * i)) + 1 ≡ suc (suc (2 * i + 1)) = omega arith in
    let e2 : suc (suc (2 * i)) + 2 ≡ suc (suc (2 * i + 2)) = omega arith in
    rw (e, e1, e2) (ap (◌∷◌ (digit_value a * 16 + digit_value b)) (frame-snoc i xs (omega arith)))

-- a byte stored behind a frame's last makes the row of the longer frame
row_snoc : (frame : List ℕ) (v : ℕ) → length frame < 9 → set (frame_row frame) (length frame) v ≡ frame_row (frame ++ (v ∷ []))
unfolding frame_row
row_snoc frame v h =
    let e : 9 - length frame ≡ suc (8 - length frame) = omega arith in
    let e2 : 9 - length (frame ++ (v ∷ [])) ≡ 8 - length frame = rw length-append (omega arith) in
    rw (e, e2, set-append_seam frame 0 (replicate (8 - length frame) 0) v, append_snoc)

-- a turn of the loop: two more digits read, one more byte in the row
pub frame-more : (line : List ℕ) (i : ℕ) (row : List ℕ) (v : ℕ) → row ≡ frame_row (frame_of (take (2 * i) line))
    → v ≡ digit_value (get_or line (2 * i) 0) * 16 + digit_value (get_or line (2 * i + 1) 0) → i < 9 → 2 * i + 1 < length line
    → set row i v ≡ frame_row (frame_of (take (2 * (i + 1)) line))
frame-more line i row v same is h inside =
    let e : 2 * (i + 1) ≡ 2 * i + 2 = omega arith in
    let long : length (frame_of (take (2 * i) line)) ≡ i =
    rw (length-frame, length-take-le (2 * i) line (omega arith)) (omega arith) in
    rw (e, frame-snoc i line inside, same, is, ← row_snoc (frame_of (take (2 * i) line)) _ (omega arith), long)

-- what the next two digits of a line are, where those behind its first i pairs are left
pub record NextPair (line digits rest : List ℕ) (i : ℕ) : Type 0 where
  pub inside : 2 * i + 1 < length line
  pub high : get_or digits 0 0 ≡ get_or line (2 * i) 0
  pub low : get_or digits 1 0 ≡ get_or line (2 * i + 1) 0
  pub left : rest ≡ drop (2 * (i + 1)) line

pub next-pair : (line left digits rest : List ℕ) (i : ℕ) → left ≡ drop (2 * i) line → left ≡ digits ++ rest → length digits ≡ 2 → NextPair line digits rest i
next-pair line left digits rest i is parts two =
    let whole : drop (2 * i) line ≡ digits ++ rest = sym is ∙ parts in
    let long : length line - 2 * i ≡ 2 + length rest =
    sym (length-drop (2 * i) line) ∙ ap length whole ∙ length-append digits rest ∙ ap (λ n. n + length rest) two in
    let at : (j : ℕ) → j < 2 → get_or digits j 0 ≡ get_or line (2 * i + j) 0 =
    λ j h. sym (get_or-append digits rest 0 j (omega arith)) ∙ sym (ap (λ xs. get_or xs j 0) whole) ∙ get_or-drop (2 * i) line j 0 in
    let e : 2 * (i + 1) ≡ 2 * i + 2 = omega arith in
    record {
      inside = omega arith;
      high = at 0 (omega arith) ∙ ap (λ n. get_or line n 0) (add-zero (2 * i));
      low = at 1 (omega arith);
      left =
          sym (ap (λ n. drop n line) e ∙ sym (drop-drop 2 (2 * i) line) ∙ ap (drop 2) whole ∙ ap (λ n. drop n (digits ++ rest)) (sym two) ∙ drop-append_seam digits rest);
    }

-- ---- what a row holds is what its frame holds

-- a row holds its frame's bytes, and zeros behind them
pub row-byte : (frame : List ℕ) (i : ℕ) → get_or (frame_row frame) i 0 ≡ get_or frame i 0
unfolding frame_row
row-byte frame i = go frame (9 - length frame) i
  where
    none : (k j : ℕ) → get_or {A = ℕ} (replicate k 0) j 0 ≡ 0
    none zero j = refl
    none (suc k) zero = refl
    none (suc k) (suc j) = none k j

    go : (xs : List ℕ) (k j : ℕ) → get_or (xs ++ replicate k 0) j 0 ≡ get_or xs j 0
    go [] k j = none k j
    go (x ∷ xs) k zero = refl
    go (x ∷ xs) k (suc j) = go xs k j

module _ (frame : List ℕ) where
  -- so it says what the frame says
  pub line-row : line_in (frame_row frame) ≡ line_in frame
  unfolding line_in settings_in route_in word_told count_in
  line-row = simp row-byte

  -- and has the same size
  pub size-row : size_of (frame_row frame) ≡ size_of frame
  unfolding size_of
  size-row = simp row-byte
