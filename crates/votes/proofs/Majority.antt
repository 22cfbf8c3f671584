-- A threshold above half of the entries: only one value can reach it, and it stands among the first of them.
use mathlib.Core.Path.{◌≡◌, refl, sym, ◌∙◌}
use mathlib.Core.Bool.{Bool, true, false}
use mathlib.Core.List.{List}
use Prim.Native.Nat.{ℕ, ◌+◌, ◌*◌, ◌-◌, ◌/◌, ◌≤◌, ◌<◌}
use native.Mathlib.Omega.{arith}
use lib.ListN.{length, drop}
use lib.Dec.{eqb, leb}
use borrow.Author.Tests.{eqb-true, leb-true, leb-false}
use Rattle.rules.specs.Lists.{count, up_to}
use Rattle.rules.specs.Words.{words_of}
use Rattle.rules.specs.Vote.{vote}
use Rattle.rules.specs.declared.Outcome.{Outcome}
use Rattle.rules.proofs.Counting.{by-test}
use Rattle.rules.proofs.WordRows.{words_count}
use Rattle.rules.proofs.Voting.{Reaches, vote-none, vote-only, vote-wins, vote-above}
use Rattle.votes.specs.Needs.{Candidate, AboveHalf}
use Rattle.votes.proofs.Entries.{entry, firsts, entries-rest, count-from, count_next}

-- no value that reaches the threshold stands among the first i entries
pub record Unled (q : ℕ) (bytes : List ℕ) (spare i : ℕ) : Type 0 where
  pub passed : i ≤ spare + 1
  pub none : (v : ℕ) → Reaches q (words_of bytes) v → count (eqb v) (firsts bytes i) ≡ 0

pub unled-start : (q : ℕ) (bytes : List ℕ) (spare : ℕ) → Unled q bytes spare 0
unfolding count up_to
unled-start q bytes spare = record { passed = omega arith; none = λ v r. refl }

module _ (q : ℕ) (bytes : List ℕ) (spare : ℕ) (half : AboveHalf q (words_of bytes) spare) where
  -- each of the first entries is there
  pub in_list : (i : ℕ) → i ≤ spare → 2 * i + 1 < length bytes
  in_list i h = omega (arith, half.rest, half.most, words_count bytes)

  pub candidate : (i w : ℕ) → i ≤ spare → w ≡ entry bytes i → Candidate bytes i w spare
  candidate i w h read = record { inside = in_list i h; stands = read; early = h }

  module _ (i w : ℕ) (b : Bool) (so_far : Unled q bytes spare i) (early : i ≤ spare) (read : w ≡ entry bytes i)
      (found : b ≡ leb (length (words_of bytes)) (count (eqb w) (words_of (drop (2 * i) bytes)) + spare)) where
    from-here : count (eqb w) (words_of bytes) ≡ count (eqb w) (firsts bytes i) + count (eqb w) (words_of (drop (2 * i) bytes))
    from-here = count-from (eqb w) bytes i (omega (arith, in_list i early))

    -- an entry that all but the spare ones equal wins
    pub led : b ≡ true → ◌≡◌ {A = Outcome} (record { word = w; tie = false }) (vote q (words_of bytes))
    led e =
        let many = leb-true (length (words_of bytes)) (count (eqb w) (words_of (drop (2 * i) bytes)) + spare) (sym found ∙ e) in
        let reached : Reaches q (words_of bytes) w = omega (arith, half.rest, many, from-here) in
        let positive : 1 ≤ q = omega (arith, half.most) in
        let short : length (words_of bytes) < q + q = omega (arith, half.rest, half.most) in
        let wins : (v : ℕ) → Reaches q (words_of bytes) v → (vote q (words_of bytes)).word ≡ v = λ v r. vote-wins q (words_of bytes) v positive short r in
        sym (vote-only q (words_of bytes) w positive (record { reached = reached; only = λ v r. sym (wins v r) ∙ wins w reached }))

    -- another is no value that reaches the threshold: one that does did not stand before
    pub unled-next : b ≡ false → Unled q bytes spare (i + 1)
    unled-next e =
        let below = leb-false (length (words_of bytes)) (count (eqb w) (words_of (drop (2 * i) bytes)) + spare) (sym found ∙ e) in
        let differs : (v : ℕ) → Reaches q (words_of bytes) v → eqb v w ≡ false = λ v r. by-test (eqb v w)
        (λ (t : eqb v w ≡ true). let same = eqb-true v w t in absurd (omega (arith, half.rest, below, from-here, rw same at r, rw same at (so_far.none v r))))
        (λ (t : eqb v w ≡ false). t) in
        record {
          passed = omega arith;
          none = λ v r. count_next (eqb v) bytes i ∙ rw (← read, differs v r) (omega (arith, so_far.none v r));
        }

    -- and where that was the last that may stand first, none does
    pub unled-all : b ≡ false → spare ≤ i → ◌≡◌ {A = Outcome} (record { word = 0; tie = false }) (vote q (words_of bytes))
    unled-all e last = sym (vote-none q (words_of bytes) few)
      where
        few : (v : ℕ) → count (eqb v) (words_of bytes) < q
        few v = by-test (leb q (count (eqb v) (words_of bytes)))
            (λ (t : leb q (count (eqb v) (words_of bytes)) ≡ true).
            let r = leb-true q (count (eqb v) (words_of bytes)) t in
            let rest = entries-rest (eqb v) bytes (i + 1) (omega (arith, in_list i early)) in
            absurd (omega (arith, rest, (unled-next e).none v r, half.rest, words_count bytes)))
            (λ (t : leb q (count (eqb v) (words_of bytes)) ≡ false). leb-false q (count (eqb v) (words_of bytes)) t)

-- ---- which way the vote goes

-- more than there are entries
pub above-all : (q : ℕ) (bytes : List ℕ) → length bytes / 2 < q → ◌≡◌ {A = Outcome} (record { word = 0; tie = false }) (vote q (words_of bytes))
above-all q bytes h = sym (vote-above q (words_of bytes) (omega (arith, words_count bytes)))

-- more than half of them
pub above_half : (q : ℕ) (bytes : List ℕ) → q ≤ length bytes / 2 → length bytes / 2 - q < q → AboveHalf q (words_of bytes) (length bytes / 2 - q)
above_half q bytes h m = record { rest = omega (arith, words_count bytes); most = m }
