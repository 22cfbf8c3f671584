-- The entries of a list of bytes are its words, read one after another; and what a loop that counts among them has so far.
use mathlib.Core.Path.{◌≡◌, refl, sym, ap, ◌∙◌}
use mathlib.Core.Bool.{Bool, true, false, not}
use mathlib.Core.List.{List, [], ◌∷◌, ◌++◌, map}
use Prim.Native.Nat.{ℕ, zero, suc, ◌+◌, ◌*◌, ◌-◌, ◌/◌, ◌≤◌, ◌<◌}
use native.Mathlib.Omega.{arith}
use native.Mathlib.Numerals.{add-one}
use lib.ListN.{length, drop, length-drop}
use lib.Seq.{get_or-drop}
use lib.Dec.{eqb, leb}
use borrow.Author.Tests.{eq-eqb, ne_eqb, le-leb, lt-leb, not-true, not-false}
use Rattle.rules.specs.Lists.{bit, count, up_to}
use Rattle.rules.specs.Words.{word_at, plain, words_of}
use Rattle.votes.specs.Needs.{Candidate}
use Rattle.rules.proofs.Counting.{complement, map-up_to, count-append}
use Rattle.rules.proofs.Ordinary.{plain-ordinary}
use Rattle.rules.proofs.WordRows.{words_count}

abbrev pub entry : List ℕ → ℕ → ℕ
entry bytes i = plain (word_at bytes i)

-- the first i entries
abbrev pub firsts : List ℕ → ℕ → List ℕ
firsts bytes i = map (entry bytes) (up_to i)

-- all of them are the list's words
all_firsts : (bytes : List ℕ) (i : ℕ) → i ≡ length bytes / 2 → firsts bytes i ≡ words_of bytes
unfolding words_of
all_firsts bytes i e = rw e

-- one entry more
firsts-next : (bytes : List ℕ) (i : ℕ) → firsts bytes (i + 1) ≡ firsts bytes i ++ (entry bytes i ∷ [])
firsts-next bytes i = rw add-one (map-up_to (entry bytes) i)

pub count_next : (P : ℕ → Bool) (bytes : List ℕ) (i : ℕ) → count P (firsts bytes (i + 1)) ≡ count P (firsts bytes i) + bit (P (entry bytes i))
unfolding count
count_next P bytes i = rw (firsts-next, count-append) (omega arith)

pub count_none : (P : ℕ → Bool) (bytes : List ℕ) → count P (firsts bytes 0) ≡ 0
unfolding count up_to
count_none P bytes = refl

-- the entry in a place after the first i is an entry of the bytes after theirs
entry-after : (bytes : List ℕ) (i d : ℕ) → entry (drop (2 * i) bytes) d ≡ entry bytes (i + d)
unfolding word_at
entry-after bytes i d =
    let high : 2 * i + 2 * d ≡ 2 * (i + d) = omega arith in
    let low : 2 * i + (2 * d + 1) ≡ 2 * (i + d) + 1 = omega arith in
    rw (get_or-drop (2 * i) bytes (2 * d) 0, get_or-drop (2 * i) bytes (2 * d + 1) 0, high, low)

count-after : (P : ℕ → Bool) (bytes : List ℕ) (i d : ℕ) → count P (firsts bytes (i + d)) ≡ count P (firsts bytes i) + count P (firsts (drop (2 * i) bytes) d)
count-after P bytes i zero = let e : i + 0 ≡ i = omega arith in rw e (omega (arith, count_none P (drop (2 * i) bytes)))
count-after P bytes i (suc d) =
    let e : i + suc d ≡ i + d + 1 = omega arith in
    let e' : suc d ≡ d + 1 = omega arith in
    rw (e, e', count_next P bytes (i + d), count_next P (drop (2 * i) bytes) d, entry-after) (omega (arith, count-after P bytes i d))

-- what is counted among the first i entries and among those from there on is counted among all
pub count-from : (P : ℕ → Bool) (bytes : List ℕ) (i : ℕ) → i ≤ length bytes / 2 → count P (words_of bytes) ≡ count P (firsts bytes i) + count P (words_of (drop (2 * i) bytes))
count-from P bytes i h =
    let left = length bytes / 2 - i in
    rw (← all_firsts bytes (i + left) (omega arith), ← all_firsts (drop (2 * i) bytes) left (omega (arith, length-drop (2 * i) bytes)))
    (count-after P bytes i left)

-- the entries that are left add no more than they are
pub entries-rest : (P : ℕ → Bool) (bytes : List ℕ) (i : ℕ) → i ≤ length bytes / 2 → count P (words_of bytes) ≤ count P (firsts bytes i) + (length bytes / 2 - i)
entries-rest P bytes i h =
    let rest = drop (2 * i) bytes in
    omega (arith, count-from P bytes i h, complement P (words_of rest), words_count rest, length-drop (2 * i) bytes)

-- no entry is reserved
pub candidate-plain : (bytes : List ℕ) (place word spare : ℕ) → Candidate bytes place word spare → word ≤ 65000
candidate-plain bytes place word spare c = omega (arith, c.stands, plain-ordinary (word_at bytes place))

-- ---- counting the entries that equal a word: one that does is counted, another is not, and so to the end of the list
module _ (bytes : List ℕ) (word i : ℕ) where
  pub hit : entry bytes i ≡ word → count (eqb word) (firsts bytes (i + 1)) ≡ count (eqb word) (firsts bytes i) + 1
  hit e = rw (eq-eqb word (entry bytes i) (sym e)) at (count_next (eqb word) bytes i)

  pub miss : (entry bytes i ≡ word → ⊥) → count (eqb word) (firsts bytes (i + 1)) ≡ count (eqb word) (firsts bytes i)
  miss n = omega (arith, rw (ne_eqb word (entry bytes i) (λ e. n (sym e))) at (count_next (eqb word) bytes i))

pub all-counted : (P : ℕ → Bool) (bytes : List ℕ) (i : ℕ) → i ≡ length bytes / 2 → count P (firsts bytes i) ≡ count P (words_of bytes)
all-counted P bytes i e = ap (count P) (all_firsts bytes i e)

pub ruleset counting = (count_none, hit, miss, all-counted)

-- ---- counting those that do not equal the entry in a place, up to a spare; those before the place among them

pub record Missed (bytes : List ℕ) (place word spare missed i : ℕ) : Type 0 where
  pub passed : i ≤ length bytes / 2
  pub both : missed + count (eqb word) (firsts bytes i) ≡ i + count (eqb word) (firsts bytes place)
  pub spared : missed ≤ spare

-- the entry itself equals the word
pub missed-before : (bytes : List ℕ) (place word spare : ℕ) → Candidate bytes place word spare → Missed bytes place word spare place (place + 1)
missed-before bytes place word spare c =
    record { passed = omega (arith, c.inside); both = omega (arith, hit bytes word place (sym c.stands)); spared = c.early }

module _ (bytes : List ℕ) (place word spare missed i : ℕ) (c : Candidate bytes place word spare) (so_far : Missed bytes place word spare missed i) where
  -- the word's count from the place on
  from_place : count (eqb word) (words_of bytes) ≡ count (eqb word) (firsts bytes place) + count (eqb word) (words_of (drop (2 * place) bytes))
  from_place = count-from (eqb word) bytes place (omega (arith, c.inside))

  -- no more than are spared
  pub missed-few : length bytes / 2 ≤ i → true ≡ leb (length (words_of bytes)) (count (eqb word) (words_of (drop (2 * place) bytes)) + spare)
  missed-few h =
      let all : firsts bytes i ≡ words_of bytes = all_firsts bytes i (omega (arith, so_far.passed)) in
      sym (le-leb (length (words_of bytes)) (count (eqb word) (words_of (drop (2 * place) bytes)) + spare)
      (omega (arith, rw all at so_far.both, so_far.passed, so_far.spared, from_place, words_count bytes)))

  module _ (b : Bool) (more : i < length bytes / 2) (read : b ≡ eqb word (entry bytes i)) where
    -- one entry passed, and one counted if it equals the word
    passed-one : (d : Bool) → b ≡ d → count (eqb word) (firsts bytes (i + 1)) ≡ count (eqb word) (firsts bytes i) + bit d
    passed-one d e = count_next (eqb word) bytes i ∙ rw (← read, e)

    pub missed-hit : (missed' : ℕ) → not b ≡ false → missed' ≡ missed → Missed bytes place word spare missed' (i + 1)
    missed-hit missed' h e' = record { passed = omega arith; both = omega (arith, passed-one true (not-false b h), so_far.both); spared = omega (arith, so_far.spared) }

    pub missed_more : (missed' : ℕ) → not b ≡ true → (missed ≡ spare → ⊥) → missed' ≡ missed + 1 → Missed bytes place word spare missed' (i + 1)
    missed_more missed' h s e' =
        record { passed = omega arith; both = omega (arith, passed-one false (not-true b h), so_far.both); spared = omega (arith, so_far.spared) }

    -- one too many
    pub missed-over : not b ≡ true → missed ≡ spare → false ≡ leb (length (words_of bytes)) (count (eqb word) (words_of (drop (2 * place) bytes)) + spare)
    missed-over h s =
        sym (lt-leb (length (words_of bytes)) (count (eqb word) (words_of (drop (2 * place) bytes)) + spare)
        (omega (arith, entries-rest (eqb word) bytes (i + 1) (omega arith), passed-one false (not-true b h), so_far.both, from_place, words_count bytes)))
