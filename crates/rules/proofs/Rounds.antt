-- The induction over the rounds left, once for any vote and any account of what is told. What one level must keep stands in
-- `Level`; a method of agreement that shows that much of one level of its own has the rest from here.
--
-- With t rounds left a decision is the report's BYZ(t,m). Its proofs begin at t = 1 with Lemma 2; here they begin at t = 0, where
-- a decision is the word delivered, so that BYZ(1,m) is a step like any other.
use mathlib.Core.Path.{◌≡◌, refl, sym, ap, ◌∙◌}
use mathlib.Core.Bool.{Bool, true, false, true≢false}
use mathlib.Core.List.{List, ◌∷◌, map-map}
use Prim.Native.Nat.{ℕ, zero, suc, ◌+◌, ◌≤◌, ◌<◌}
use native.Mathlib.Omega.{arith}
use lib.ListN.{length}
use lib.Dec.{eqb}
use borrow.Author.Tests.{eqb-true, ne_eqb}
use Rattle.rules.specs.Lists.{count}
use Rattle.rules.specs.Routes.{receiver, is_path, teller}
use Rattle.rules.specs.Decision.{via, judge, decide}
use Rattle.rules.specs.declared.Outcome.{Outcome}
use Rattle.rules.proofs.Counting.{by-test}
use Rattle.rules.proofs.Receivers.{path-next}
use Rattle.rules.proofs.Tally.{among, among_next, OneEach, FaultFree, fault-free-next, entry, one_each, each-alike}

-- A poll goes by how often each value stands in its list, not by their order, and alike for all receivers of a level.
abbrev pub Unordered : ℕ → (List ℕ → List ℕ → Outcome) → Type 0
Unordered m poll = (p : List ℕ) (i k : ℕ) (xs ys : List ℕ) → length p < m
    → ((v : ℕ) → count (eqb v) xs ≡ count (eqb v) ys) → (poll (i ∷ p) xs).word ≡ (poll (k ∷ p) ys).word

-- told r is the word delivered on route r
module _ (n sender : ℕ) (poll : List ℕ → List ℕ → Outcome) (told : List ℕ → ℕ) where
  -- what the receiver of r decides with t rounds left
  abbrev pub decided : ℕ → List ℕ → ℕ
  decided t r = (decide n sender poll told t r).word

  -- what receiver i holds for receiver j when the last on p acts as sender and t rounds are left after this one
  abbrev pub held : ℕ → List ℕ → ℕ → ℕ → ℕ
  held t p i = entry i (told (i ∷ p)) (λ j. decided t (i ∷ j ∷ p))

  -- With one more round left i decides by a poll of its entries, one for each receiver on top of p.
  pub record Polls (t : ℕ) (p : List ℕ) (i : ℕ) : Type 0 where
    pub votes : List ℕ
    pub outcome : decided (suc t) (i ∷ p) ≡ (poll (i ∷ p) votes).word
    pub each : OneEach n sender p (held t p i) votes

  pub polls : (t : ℕ) (p : List ℕ) (i : ℕ) → receiver n sender p i ≡ true → Polls t p i
  unfolding decide judge via
  polls t p i r = record { votes = _; outcome = refl; each = λ P. rw map-map (one_each n sender p i (told (i ∷ p)) (λ j. decided t (i ∷ j ∷ p)) r P) }

  -- m rounds after the first; faulty tells which nodes are
  module _ (m : ℕ) (faulty : ℕ → Bool) where
    -- What one level must keep, for a relation Ok between a word that is read and the word that was told: "it is that word", or
    -- "it is that word or the default".
    pub record Level (Ok : ℕ → ℕ → Type 0) : Type 0 where
      -- the word itself is a sound reading of it
      pub exact : (w : ℕ) → Ok w w
      -- what a fault-free node was told, is read soundly where it tells it on
      pub heard : (p : List ℕ) (i : ℕ) → is_path n sender p ≡ true → length p ≤ m → faulty (teller sender p) ≡ false → FaultFree n sender faulty p i
          → Ok (told (i ∷ p)) (told p)
      -- where the acting sender is fault-free, a poll over sound readings of what the fault-free receivers were told is a sound
      -- reading of the acting sender's word
      pub polled : (p : List ℕ) (i : ℕ) → is_path n sender p ≡ true → length p < m → faulty (teller sender p) ≡ false
          → (e : ℕ → ℕ) (xs : List ℕ) → OneEach n sender p e xs
          → ((j : ℕ) → FaultFree n sender faulty p j → Ok (e j) (told (j ∷ p)))
          → Ok (poll (i ∷ p) xs).word (told p)

    -- ---- the acting sender is fault-free: Lemmas 3 and 5 of the report, in one

    -- with t rounds left, every fault-free receiver decides a sound reading of the acting sender's word
    abbrev pub Sound : (ℕ → ℕ → Type 0) → ℕ → Type 0
    Sound Ok t = (p : List ℕ) (i : ℕ) → is_path n sender p ≡ true → t + length p ≤ m → faulty (teller sender p) ≡ false
        → FaultFree n sender faulty p i → Ok (decided t (i ∷ p)) (told p)

    module _ (Ok : ℕ → ℕ → Type 0) (level : Level Ok) where
      -- if so, then with one more it holds a sound reading of what each fault-free receiver was told, whoever acts as sender
      held-sound : (t : ℕ) → Sound Ok t → (p : List ℕ) (i : ℕ) → is_path n sender p ≡ true → suc t + length p ≤ m → FaultFree n sender faulty p i
          → (j : ℕ) → FaultFree n sender faulty p j → Ok (held t p i j) (told (j ∷ p))
      held-sound t below p i path room ri j rj = by-test (eqb i j)
          (λ (e : eqb i j ≡ true). rw (e, ← eqb-true i j e) (level.exact (told (i ∷ p))))
          (λ (e : eqb i j ≡ false). rw e
          (below (j ∷ p) i (path-next n sender p j rj.receives path) (omega arith) rj.sound (fault-free-next n sender faulty p i j ri e)))

      -- Lemma 3, where Ok is "it is that word"; Lemma 5, where it is "that word or the default"
      pub decided-sound : (t : ℕ) → Sound Ok t
      unfolding decide
      decided-sound zero p i path room steady ri = level.heard p i path (omega arith) steady ri
      decided-sound (suc t) p i path room steady ri =
          let b = polls t p i ri.receives in
          rw b.outcome
          (level.polled p i path (omega arith) steady (held t p i) b.votes b.each (held-sound t (decided-sound t) p i path room ri))

      -- and so of each entry for a fault-free receiver, whoever acts as sender: what Lemmas 4 and 6 begin from
      pub entries-sound : (t : ℕ) (p : List ℕ) (i : ℕ) → is_path n sender p ≡ true → suc t + length p ≤ m → FaultFree n sender faulty p i
          → (j : ℕ) → FaultFree n sender faulty p j → Ok (held t p i j) (told (j ∷ p))
      entries-sound t = held-sound t (decided-sound t)

    -- ---- the acting sender may be faulty, but then fewer receivers are than there are rounds left: Lemma 4 of the report

    -- with t rounds left, any two fault-free receivers decide alike
    abbrev pub Alike : ℕ → Type 0
    Alike t = (p : List ℕ) (i k : ℕ) → is_path n sender p ≡ true → t + length p ≤ m
        → (faulty (teller sender p) ≡ true → among n sender faulty p < t)
        → FaultFree n sender faulty p i → FaultFree n sender faulty p k
        → decided t (i ∷ p) ≡ decided t (k ∷ p)

    module _ (level : Level (λ w v. w ≡ v)) (unordered : Unordered m poll) where
      -- by Lemma 3, where the acting sender is fault-free
      by-sender : (t : ℕ) (p : List ℕ) (i k : ℕ) → is_path n sender p ≡ true → t + length p ≤ m
          → FaultFree n sender faulty p i → FaultFree n sender faulty p k → faulty (teller sender p) ≡ false
          → decided t (i ∷ p) ≡ decided t (k ∷ p)
      by-sender t p i k path room ri rk steady =
          decided-sound (λ w v. w ≡ v) level t p i path room steady ri ∙ sym (decided-sound (λ w v. w ≡ v) level t p k path room steady rk)

      -- if so, then with one more they hold the same for every receiver: for a fault-free one by Lemma 3, and for a faulty one
      -- because beside it there is one faulty receiver fewer
      held-alike : (t : ℕ) → Alike t → (p : List ℕ) (i k : ℕ) → is_path n sender p ≡ true → suc t + length p ≤ m → among n sender faulty p ≤ t
          → FaultFree n sender faulty p i → FaultFree n sender faulty p k
          → (j : ℕ) → receiver n sender p j ≡ true → held t p i j ≡ held t p k j
      held-alike t below p i k path room few ri rk j rj = by-test (faulty j)
          (λ (f : faulty j ≡ true). rw (apart i ri f, apart k rk f)
          (below (j ∷ p) i k (path-next n sender p j rj path) (omega arith) (λ _. omega (arith, among_next n sender faulty p j rj f))
          (fault-free-next n sender faulty p i j ri (apart i ri f)) (fault-free-next n sender faulty p k j rk (apart k rk f))))
          (λ (f : faulty j ≡ false). told-alike (record { receives = rj; sound = f }))
        where
          apart : (i : ℕ) → FaultFree n sender faulty p i → faulty j ≡ true → eqb i j ≡ false
          apart i ri f = ne_eqb i j (λ e. true≢false (sym f ∙ ap faulty (sym e) ∙ ri.sound))

          told-alike : FaultFree n sender faulty p j → held t p i j ≡ held t p k j
          told-alike r = entries-sound (λ w v. w ≡ v) level t p i path room ri j r ∙ sym (entries-sound (λ w v. w ≡ v) level t p k path room rk j r)

      -- Lemma 4
      pub decided-alike : (t : ℕ) → Alike t
      decided-alike zero p i k path room few ri rk = by-test (faulty (teller sender p))
          (λ (f : faulty (teller sender p) ≡ true). absurd (omega (arith, few f)))
          (by-sender zero p i k path room ri rk)
      decided-alike (suc t) p i k path room few ri rk = by-test (faulty (teller sender p))
          (λ (f : faulty (teller sender p) ≡ true).
          let b = polls t p i ri.receives in
          let c = polls t p k rk.receives in
          let same = held-alike t (decided-alike t) p i k path room (omega (arith, few f)) ri rk in
          b.outcome
          ∙ unordered p i k b.votes c.votes (omega arith)
          (λ v. each-alike n sender p (held t p i) (held t p k) b.votes c.votes b.each c.each same (eqb v))
          ∙ sym c.outcome)
          (by-sender (suc t) p i k path room ri rk)
