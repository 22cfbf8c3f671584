-- Words held as bytes: one word more is two bytes more, and ordinary words are read again as they were.
use Prim.Native.Nat.{ℕ, zero, suc, ◌+◌, ◌*◌, ◌/◌, ◌%◌, ◌<◌, ◌≤◌}
use mathlib.Core.Path.{◌≡◌, refl, sym, ap, ◌∙◌}
use mathlib.Core.List.{List, [], ◌∷◌, ◌++◌, map, append_assoc}
use mathlib.Core.Bool.{true}
use native.Mathlib.Omega.{arith}
use native.Mathlib.Numerals.{add-one}
use lib.ListN.{length, get_or, set, take, length-set}
use lib.Seq.{take-suc, take-suc-set, take-length}
use borrow.Author.Tests.{leb-true}
use Rattle.rules.specs.Lists.{all, up_to}
use Rattle.rules.specs.Words.{word_at, plain, words_of, bytes_of, put_word}
use Rattle.rules.proofs.Counting.{all-at, map-up_to}
use Rattle.rules.proofs.Ordinary.{ordinary}
use Rattle.rules.proofs.WordRows.{length-bytes, word-of-bytes, plain-same}
use Rattle.exchange.specs.Entries.{Gathered}

-- ---- one word more

bytes-snoc : (ws : List ℕ) (w : ℕ) → bytes_of ws ++ bytes_of (w ∷ []) ≡ bytes_of (ws ++ (w ∷ []))
unfolding bytes_of
bytes-snoc [] w = refl
bytes-snoc (a ∷ ws) w = rw (bytes-snoc ws w)

two-more : (l : List ℕ) (k a b : ℕ) → k + 1 < length l → take (k + 2) (set (set l k a) (k + 1) b) ≡ take k l ++ (a ∷ b ∷ [])
two-more l k a b h =
    let two : k + 2 ≡ suc (suc k) = omega arith in
    rw (two, add-one k)
    (take-suc-set (set l k a) (suc k) b (rw length-set (omega arith))
    ∙ ap (λ (z : List ℕ). z ++ (b ∷ [])) (take-suc-set l k a (omega arith))
    ∙ append_assoc (take k l) (a ∷ []) (b ∷ []))

-- a word put behind those in front is one more of them
put-more : (bytes : List ℕ) (k w : ℕ) → 2 * k + 1 < length bytes → take (2 * (k + 1)) (put_word bytes k w) ≡ take (2 * k) bytes ++ bytes_of (w ∷ [])
unfolding put_word bytes_of
put-more bytes k w h =
    let two : 2 * (k + 1) ≡ 2 * k + 2 = omega arith in
    rw (two, two-more bytes (2 * k) (w / 256) (w % 256) h)

pub put-behind : (bytes : List ℕ) (ws : List ℕ) (k w : ℕ) → 2 * k + 1 < length bytes → take (2 * k) bytes ≡ bytes_of ws
    → take (2 * (k + 1)) (put_word bytes k w) ≡ bytes_of (ws ++ (w ∷ []))
put-behind bytes ws k w h e = put-more bytes k w h ∙ rw e (bytes-snoc ws w)

-- what is gathered is its bytes and its ties
pub same-gathered : (b b' : List ℕ) (k k' : ℕ) → b ≡ b' → k ≡ k' → ◌≡◌ {A = Gathered} (record { bytes = b; ties = k }) (record { bytes = b'; ties = k' })
same-gathered b b' k k' eb ek = rw (eb, ek)

-- ---- read again

first-words : (ws : List ℕ) (k : ℕ) → k ≤ length ws → all ordinary ws ≡ true → map (λ c. plain (word_at (bytes_of ws) c)) (up_to k) ≡ take k ws
unfolding up_to
first-words ws zero h e = refl
first-words ws (suc k) h e =
    rw (map-up_to, first-words ws k (omega arith) e, word-of-bytes ws k, plain-same (get_or ws k 0) (leb-true (get_or ws k 0) 65000 (all-at ordinary ws k h e)))
    (sym (take-suc ws k 0 h))

pub words-again : (ws : List ℕ) → all ordinary ws ≡ true → words_of (bytes_of ws) ≡ ws
unfolding words_of
words-again ws e =
    let half : length (bytes_of ws) / 2 ≡ length ws = omega (arith, length-bytes ws) in
    rw half (first-words ws (length ws) (omega arith) e ∙ take-length ws)
