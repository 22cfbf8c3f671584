-- Words and settings. A word is two bytes, high byte first; 0 is the default value.
use Rattle.std.specs.Prelude.{ℕ, ◌+◌, ◌*◌, ◌/◌, ◌%◌, ◌^◌, List, [], ◌∷◌, map, Bool, cond, length, get_or, set, eqb, ltb}
use Rattle.rules.specs.Lists.{up_to}
use Rattle.rules.specs.declared.Settings.{Settings}

-- everything given to an exchange except the table and the row, from its numbers
abbrev pub settings : ℕ → ℕ → ℕ → ℕ → ℕ → ℕ → Settings
settings n m u sender value faults = record { n = n; m = m; u = u; sender = sender; value = value; faults = faults }

-- the word in place c of a row of bytes
unfoldable pub word_at : List ℕ → ℕ → ℕ
word_at bytes c = get_or bytes (2 * c) 0 * 256 + get_or bytes (2 * c + 1) 0

-- 65,001 to 65,535 are reserved
unfoldable pub reserved : ℕ → Bool
reserved w = ltb 65000 w

-- a reserved word that is met counts as the default
unfoldable pub plain : ℕ → ℕ
plain w = cond (reserved w) 0 w

-- all the words of a row of bytes, reserved ones read as the default
unfoldable pub words_of : List ℕ → List ℕ
words_of bytes = map (λ c. plain (word_at bytes c)) (up_to (length bytes / 2))

-- words as bytes
unfoldable pub bytes_of : List ℕ → List ℕ
bytes_of [] = []
bytes_of (w ∷ ws) = w / 256 ∷ w % 256 ∷ bytes_of ws

-- a row of bytes with a word put into place c
unfoldable pub put_word : List ℕ → ℕ → ℕ → List ℕ
put_word bytes c w = set (set bytes (2 * c) (w / 256)) (2 * c + 1) (w % 256)

-- "not reported" in a decision row
abbrev pub not_reported : ℕ
not_reported = 65535

-- node i is faulty: bit i of the fault word is set
unfoldable pub faulty : ℕ → ℕ → Bool
faulty faults i = eqb (faults / 2 ^ i % 2) 1
