-- Words in rows of bytes: which words a row has, what a reserved one counts as, and what putting a word into a place changes.
use mathlib.Core.Path.{◌≡◌, refl, ap₂, ◌∙◌}
use mathlib.Core.Logic.{◌≢◌}
use mathlib.Core.List.{List, [], ◌∷◌}
use Prim.Native.Nat.{ℕ, zero, suc, ◌+◌, ◌*◌, ◌/◌, ◌%◌, ◌≤◌, ◌<◌}
use native.Mathlib.Nat.{div-add-mod'}
use native.Mathlib.Omega.{arith}
use lib.ListN.{length, length-map, length-set, get_or, set}
use lib.Seq.{get_or-set_same, get_or-set_other}
use borrow.Author.Tests.{lt-ltb, le-ltb}
use Rattle.std.proofs.lemmas.List.{get_or-map}
use Rattle.rules.specs.Lists.{up_to}
use Rattle.rules.specs.Words.{word_at, reserved, plain, words_of, bytes_of, put_word}
use Rattle.rules.proofs.Counting.{length-up_to, nth-up_to}

-- ---- words as bytes

-- a word is two bytes, high byte first
pub high-first : (high low : ℕ) (rest : List ℕ) → word_at (high ∷ low ∷ rest) 0 ≡ high * 256 + low
unfolding word_at
high-first high low rest = refl

-- two bytes for each word
pub length-bytes : (ws : List ℕ) → length (bytes_of ws) ≡ 2 * length ws
unfolding bytes_of
length-bytes [] = refl
length-bytes (w ∷ ws) = omega (arith, length-bytes ws)

-- and from them each word is had again
pub word-of-bytes : (ws : List ℕ) (i : ℕ) → word_at (bytes_of ws) i ≡ get_or ws i 0
unfolding bytes_of word_at
word-of-bytes [] i = omega arith
word-of-bytes (w ∷ ws) zero = div-add-mod' w 256
word-of-bytes (w ∷ ws) (suc i) =
    let e : 2 * suc i ≡ suc (suc (2 * i)) = omega arith in
    let e' : 2 * suc i + 1 ≡ suc (suc (2 * i + 1)) = omega arith in
    rw (e', e) (word-of-bytes ws i)

-- ---- reserved words

-- 65,001 and above count as the default
pub plain-reserved : (w : ℕ) → 65000 < w → plain w ≡ 0
unfolding plain reserved
plain-reserved w h = rw (lt-ltb 65000 w h)

-- the default and the ordinary values count as themselves
pub plain-same : (w : ℕ) → w ≤ 65000 → plain w ≡ w
unfolding plain reserved
plain-same w h = rw (le-ltb 65000 w h)

-- ---- all the words of a row

-- a word for every two bytes
pub words_count : (bytes : List ℕ) → length (words_of bytes) ≡ length bytes / 2
unfolding words_of
words_count bytes = rw length-map (length-up_to (length bytes / 2))

-- each is the word in its place, a reserved one read as the default
pub words-at : (bytes : List ℕ) (c : ℕ) → c < length bytes / 2 → get_or (words_of bytes) c 0 ≡ plain (word_at bytes c)
unfolding words_of
words-at bytes c h =
    get_or-map (λ k. plain (word_at bytes k)) (up_to (length bytes / 2)) c 0 0 (omega (arith, length-up_to (length bytes / 2)))
    ∙ rw (nth-up_to (length bytes / 2) c h)

-- ---- a word put into a place

module _ (bytes : List ℕ) (c w : ℕ) where
  -- the row keeps its length
  pub put-length : length (put_word bytes c w) ≡ length bytes
  unfolding put_word
  put-length = rw (length-set, length-set)

  -- the word stands in its place
  pub put-here : 2 * c + 1 < length bytes → word_at (put_word bytes c w) c ≡ w
  unfolding put_word word_at
  put-here room =
      rw (
        get_or-set_same (set bytes (2 * c) (w / 256)) (2 * c + 1) (w % 256) 0 (rw length-set room),
        get_or-set_other (set bytes (2 * c) (w / 256)) (2 * c + 1) (2 * c) (w % 256) 0 (λ e. omega arith),
        get_or-set_same bytes (2 * c) (w / 256) 0 (omega arith),
      )
      (div-add-mod' w 256)

  -- and every other place keeps its word
  pub put-elsewhere : (d : ℕ) → d ≢ c → word_at (put_word bytes c w) d ≡ word_at bytes d
  unfolding put_word word_at
  put-elsewhere d ne = ap₂ (λ a b. a * 256 + b) (kept (2 * d) (λ e. ne (omega arith)) (λ e. omega arith)) (kept (2 * d + 1) (λ e. omega arith) (λ e. ne (omega arith)))
    where
      kept : (i : ℕ) → i ≢ 2 * c → i ≢ 2 * c + 1 → get_or (set (set bytes (2 * c) (w / 256)) (2 * c + 1) (w % 256)) i 0 ≡ get_or bytes i 0
      kept i high low = get_or-set_other (set bytes (2 * c) (w / 256)) (2 * c + 1) i (w % 256) 0 low ∙ get_or-set_other bytes (2 * c) i (w / 256) 0 high
