-- The vote at any threshold, as a loop keeps it: the first value that reaches the threshold, where one has been seen, and that no
-- other that reaches it stands among the entries passed.
use mathlib.Core.Path.{◌≡◌, refl, sym, ap, ◌∙◌}
use mathlib.Core.Logic.{◌≢◌}
use mathlib.Core.Bool.{Bool, true, false}
use mathlib.Core.List.{List, [], ◌∷◌}
use Prim.Native.Nat.{ℕ, zero, suc, ◌+◌, ◌*◌, ◌-◌, ◌/◌, ◌≤◌, ◌<◌}
use native.Mathlib.Omega.{arith}
use lib.ListN.{length, drop}
use lib.Dec.{eqb, leb}
use borrow.Author.Tests.{eqb-true, eqb-false, eq-eqb, le-leb, leb-true, leb-false}
use Rattle.std.proofs.Common.{Option, None, Some}
use Rattle.std.specs.Option.{option_eq, is_some, unwrap_or}
use Rattle.rules.specs.Lists.{count, keep}
use Rattle.rules.specs.Words.{words_of}
use Rattle.rules.specs.Vote.{reaches, settle, vote}
use Rattle.rules.specs.declared.Outcome.{Outcome}
use Rattle.rules.proofs.Counting.{by-test}
use Rattle.rules.proofs.Voting.{vote-none, vote-only, vote-tied}
use Rattle.votes.proofs.Entries.{entry, firsts, hit, miss, count_none, count-from, entries-rest}

-- ---- a threshold of 0, which every entry reaches, votes as 1 does

abbrev positive : ℕ → ℕ
positive q = q + (1 - q)

kept-alike : (xs l : List ℕ) → ((v : ℕ) → count (eqb v) l ≤ count (eqb v) xs) → keep (reaches 0 xs) l ≡ keep (reaches 1 xs) l
unfolding keep reaches count
kept-alike xs [] h = refl
kept-alike xs (x ∷ l) h =
    rw (
      le-leb 0 (count (eqb x) xs) (omega arith),
      le-leb 1 (count (eqb x) xs) (omega (arith, rw (eq-eqb x x refl) at (h x))),
      kept-alike xs l (λ v. omega (arith, h v)),
    )

vote-positive : (q : ℕ) (xs : List ℕ) → vote q xs ≡ vote (positive q) xs
unfolding vote
vote-positive zero xs = ap settle (kept-alike xs xs (λ v. omega arith))
vote-positive (suc q) xs = let e : positive (suc q) ≡ suc q = omega arith in rw e

-- ---- the loop

-- the value kept, if any, reaches the threshold, and no other that does stands among the first i entries
pub record Scan (q : ℕ) (bytes : List ℕ) (kept : Option ℕ) (i : ℕ) : Type 0 where
  pub passed : i ≤ length bytes / 2
  pub reaching : (v : ℕ) → kept ≡ Some v → positive q ≤ count (eqb v) (words_of bytes)
  pub others : (v : ℕ) → positive q ≤ count (eqb v) (words_of bytes) → kept ≢ Some v → count (eqb v) (firsts bytes i) ≡ 0

pub scan-start : (q : ℕ) (bytes : List ℕ) → Scan q bytes None 0
scan-start q bytes = record { passed = omega arith; reaching = λ v e. cc; others = λ v r n. count_none (eqb v) bytes }

-- what the tests of a kept value say
same-kept : (kept : Option ℕ) (w : ℕ) → option_eq eqb kept (Some w) ≡ true → kept ≡ Some w
same-kept None w e = cc
same-kept (Some v) w e = ap Some (eqb-true v w e)

other-kept : (kept : Option ℕ) (w : ℕ) → option_eq eqb kept (Some w) ≡ false → kept ≢ Some w
other-kept None w e t = cc
other-kept (Some v) w e t = eqb-false v w e cc

some-kept : (kept : Option ℕ) → is_some kept ≡ true → kept ≡ Some (unwrap_or kept 0)
some-kept None e = cc
some-kept (Some v) e = refl

none-kept : (kept : Option ℕ) → is_some kept ≡ false → kept ≡ None
none-kept None e = refl
none-kept (Some v) e = cc

module _ (q : ℕ) (bytes : List ℕ) (kept : Option ℕ) (i w : ℕ) (so_far : Scan q bytes kept i) (more : i < length bytes / 2) (read : w ≡ entry bytes i) where
  -- a value that did not stand among the first i entries, and is not the next one
  past : (v : ℕ) → v ≢ w → count (eqb v) (firsts bytes i) ≡ 0 → count (eqb v) (firsts bytes (i + 1)) ≡ 0
  past v n e = omega (arith, e, miss bytes v i (λ h. n (sym h ∙ sym read)))

  -- the value kept, once more
  pub scan-again : (s : Bool) → s ≡ option_eq eqb kept (Some w) → s ≡ true → Scan q bytes kept (i + 1)
  scan-again s e t = record {
    passed = omega arith;
    reaching = so_far.reaching;
    others = λ v r n. past v (λ h. n (same-kept kept w (sym e ∙ t) ∙ ap Some (sym h))) (so_far.others v r n);
  }

  module _ (b : Bool) (counted : b ≡ leb q (count (eqb w) (words_of (drop (2 * i) bytes)))) where
    from-here : count (eqb w) (words_of bytes) ≡ count (eqb w) (firsts bytes i) + count (eqb w) (words_of (drop (2 * i) bytes))
    from-here = count-from (eqb w) bytes i (omega arith)

    reached : b ≡ true → positive q ≤ count (eqb w) (words_of bytes)
    reached e =
        let many = leb-true q (count (eqb w) (words_of (drop (2 * i) bytes))) (sym counted ∙ e) in
        omega (arith, many, from-here, hit bytes w i (sym read), count-from (eqb w) bytes (i + 1) (omega arith))

    -- too few of them: had the value stood before, it would have been kept or found too rare then
    pub scan-skip : b ≡ false → Scan q bytes kept (i + 1)
    scan-skip e =
        let few = leb-false q (count (eqb w) (words_of (drop (2 * i) bytes))) (sym counted ∙ e) in
        record {
          passed = omega arith;
          reaching = so_far.reaching;
          others = λ v r n. let stood = so_far.others v r n in past v (λ h. omega (arith, rw h at r, few, from-here, rw h at stood)) stood;
        }

    module _ (enough : b ≡ true) (k : Bool) (any : k ≡ is_some kept) where
      -- the first value that reaches the threshold
      pub scan-first : k ≡ false → Scan q bytes (Some w) (i + 1)
      scan-first e =
          let blank : kept ≡ None = none-kept kept (sym any ∙ e) in
          record {
            passed = omega arith;
            reaching = λ v t. let same : w ≡ v = cc in rw (← same) (reached enough);
            others = λ v r n. past v (λ t. n (ap Some (sym t))) (so_far.others v r (λ t. cc));
          }

      -- a second one
      pub scan-tie : k ≡ true → (s : Bool) → s ≡ option_eq eqb kept (Some w) → s ≡ false → ◌≡◌ {A = Outcome} (record { word = 0; tie = true }) (vote q (words_of bytes))
      scan-tie e s t f =
          let first : kept ≡ Some (unwrap_or kept 0) = some-kept kept (sym any ∙ e) in
          sym (vote-positive q (words_of bytes) ∙ vote-tied (positive q) (words_of bytes) (omega arith) (record {
            one = w;
            other = unwrap_or kept 0;
            differ = λ h. other-kept kept w (sym t ∙ f) (first ∙ ap Some (sym h));
            one-reaches = reached enough;
            other-reaches = so_far.reaching (unwrap_or kept 0) first;
          }))

-- what all entries settle
module _ (q : ℕ) (bytes : List ℕ) (i : ℕ) (end : length bytes / 2 ≤ i) where
  rare : (kept : Option ℕ) → Scan q bytes kept i → (v : ℕ) → positive q ≤ count (eqb v) (words_of bytes) → kept ≢ Some v → ⊥
  rare kept so_far v r n = omega (arith, entries-rest (eqb v) bytes i so_far.passed, so_far.others v r n)

  settled : (kept : Option ℕ) → Scan q bytes kept i → vote (positive q) (words_of bytes) ≡ record { word = unwrap_or kept 0; tie = false }
  settled (Some w) so_far = vote-only (positive q) (words_of bytes) w (omega arith) (record {
    reached = so_far.reaching w refl;
    only = λ v r. by-test (eqb v w) (λ (e : eqb v w ≡ true). eqb-true v w e) (λ (e : eqb v w ≡ false). absurd (rare (Some w) so_far v r (λ t. eqb-false v w e cc)));
  })
  settled None so_far = vote-none (positive q) (words_of bytes) (λ v. by-test (leb (positive q) (count (eqb v) (words_of bytes)))
      (λ (e : leb (positive q) (count (eqb v) (words_of bytes)) ≡ true). absurd (rare None so_far v (leb-true (positive q) (count (eqb v) (words_of bytes)) e) (λ t. cc)))
      (λ (e : leb (positive q) (count (eqb v) (words_of bytes)) ≡ false). leb-false (positive q) (count (eqb v) (words_of bytes)) e))

  pub scan-end : (kept : Option ℕ) (w : ℕ) → Scan q bytes kept i → w ≡ unwrap_or kept 0 → ◌≡◌ {A = Outcome} (record { word = w; tie = false }) (vote q (words_of bytes))
  scan-end kept w so_far e = rw e (sym (vote-positive q (words_of bytes) ∙ settled kept so_far))
