-- One level of BYZ: what its threshold is worth, and what a vote with it gives when all that is known of its entries is what
-- fault-free nodes stand for. The report's Lemma 1, the counting of its Lemmas 2, 3 and 5, and its Lemma 6.
use mathlib.Core.Path.{◌≡◌, refl, sym, ap, ◌∙◌}
use mathlib.Core.Logic.{◌⊎◌, inl, inr, ◌≢◌}
use mathlib.Core.Bool.{true, false}
use mathlib.Core.List.{List, [], ◌∷◌}
use Prim.Native.Nat.{ℕ, ◌+◌, ◌*◌, ◌≤◌, ◌<◌}
use native.Mathlib.Omega.{arith}
use lib.ListN.{length}
use lib.Dec.{eqb}
use Rattle.std.proofs.lemmas.Bool.{cases_eq}
use Rattle.rules.specs.Lists.{count, up_to}
use Rattle.rules.specs.Words.{faulty}
use Rattle.rules.specs.Routes.{is_path, teller}
use Rattle.rules.specs.Delivered.{delivered}
use Rattle.rules.specs.Vote.{vote}
use Rattle.rules.specs.Decision.{nodes_at, threshold, poll}
use Rattle.rules.specs.declared.Settings.{Settings}
use Rattle.rules.specs.declared.Outcome.{Outcome}
use Rattle.rules.proofs.Receivers.{size, level-size}
use Rattle.rules.proofs.Voting.{vote-reaches, vote-wins, vote-counts}
use Rattle.rules.proofs.Tally.{OrDefault, among-le, among_first, OneEach, each-size, tally-all, tally-none, Within, tally-two}
use Rattle.rules.proofs.Rounds.{Level, Unordered}

-- what the report assumes of the settings: N > 2m+u, u ≥ m > 0, and a sender that is one of the nodes
pub record Assumed (s : Settings) : Type 0 where
  pub enough : 2 * s.m + s.u < s.n
  pub bound : s.m ≤ s.u
  pub one : 1 ≤ s.m
  pub sender-below : s.sender < s.n

-- how many of the nodes are faulty
abbrev pub faults : Settings → ℕ
faults s = count (faulty s.faults) (up_to s.n)

-- where every other value stays below the threshold, a vote gives a or the default
vote-or-default : (q : ℕ) (xs : List ℕ) (a : ℕ) → ((v : ℕ) → v ≢ a → v ≢ 0 → count (eqb v) xs < q) → OrDefault (vote q xs).word a
vote-or-default q xs a few = let w = (vote q xs).word in grind (arith, vote-reaches q xs, cases_eq w a, cases_eq w 0, few w)

-- a fault-free node tells the word that it was told
passed_on : (s : Settings) (table p : List ℕ) (i : ℕ) → faulty s.faults (teller s.sender p) ≡ false → delivered s table (i ∷ p) ≡ delivered s table p
unfolding delivered
passed_on s table p i steady = rw steady

-- what one level of BYZ must keep
abbrev pub ByzLevel : Settings → List ℕ → (ℕ → ℕ → Type 0) → Type 0
ByzLevel s table = Level s.n s.sender (poll s) (delivered s table) s.m (faulty s.faults)

-- Lemma 1. Where a round is left, the threshold is above u, and above half of the entries; it is all of them but m.
pub record Quorum (s : Settings) (i : ℕ) (p : List ℕ) : Type 0 where
  pub above-u : s.u < threshold s (i ∷ p)
  pub above-half : size s.n s.sender p < threshold s (i ∷ p) + threshold s (i ∷ p)
  pub all-but-m : threshold s (i ∷ p) + s.m ≡ size s.n s.sender p

module _ (s : Settings) (given : Assumed s) where
  pub quorum : (i : ℕ) (p : List ℕ) → is_path s.n s.sender p ≡ true → length p < s.m → Quorum s i p
  unfolding threshold nodes_at
  quorum i p path room =
      let e : size s.n s.sender p + length p + 1 ≡ s.n = level-size s.n s.sender given.sender-below p path in
      record { above-u = omega (arith, given, e); above-half = omega (arith, given, e); all-but-m = omega (arith, given, e) }

  -- the vote goes by counts alone
  pub unordered : Unordered s.m (poll s)
  unfolding threshold nodes_at
  unordered p i k xs ys room same = ap (λ (o : Outcome). o.word) (vote-counts (threshold s (i ∷ p)) xs ys (omega (arith, given)) same)

  module _ (table : List ℕ) where
    -- Lemmas 2 and 3, up to m faults: all receivers but the faulty have the acting sender's word, which no other value can outvote.
    pub exact-level : faults s ≤ s.m → ByzLevel s table (λ w v. w ≡ v)
    exact-level few = record {
      exact = λ w. refl;
      heard = λ p i path room steady ri. passed_on s table p i steady;
      polled = λ p i path room steady e xs each all.
          let quo = quorum i p path room in
          let most = tally-all s.n s.sender (faulty s.faults) p e xs each (delivered s table p) (λ j rj. all j rj ∙ passed_on s table p j steady) in
          vote-wins (threshold s (i ∷ p)) xs (delivered s table p)
          (omega (arith, quo))
          (omega (arith, quo, each-size s.n s.sender p e xs each))
          (omega (arith, quo, most, few, among-le s.n s.sender (faulty s.faults) p));
    }

    -- Lemmas 2 and 5, up to u faults: a value that is neither the acting sender's word nor the default has the faulty alone behind it.
    pub or-default-level : faults s ≤ s.u → ByzLevel s table OrDefault
    or-default-level few = record {
      exact = λ w. inl refl;
      heard = λ p i path room steady ri. inl (passed_on s table p i steady);
      polled = λ p i path room steady e xs each all. vote-or-default (threshold s (i ∷ p)) xs (delivered s table p)
          (λ v na nz. omega (
            arith,
            few,
            quorum i p path room,
            among-le s.n s.sender (faulty s.faults) p,
            tally-none s.n s.sender (faulty s.faults) p e xs each v (λ j rj. other (rw (passed_on s table p j steady) at (all j rj)) na nz),
          ));
    }
      where
        other : {x a v : ℕ} → OrDefault x a → v ≢ a → v ≢ 0 → x ≢ v
        other (inl k) na nz q = na (sym q ∙ k)
        other (inr k) na nz q = nz (sym q ∙ k)

  -- Lemma 6, up to u faults, the sender among them: of two votes at the top that differ one gives the default. Each value has
  -- a threshold of entries behind it, and but for the faulty no receiver's entries serve both.
  pub two-votes : faults s ≤ s.u → faulty s.faults s.sender ≡ true
      → (g e e' : ℕ → ℕ) (xs ys : List ℕ) → OneEach s.n s.sender [] e xs → OneEach s.n s.sender [] e' ys
      → Within s.n s.sender (faulty s.faults) [] g e → Within s.n s.sender (faulty s.faults) [] g e'
      → (i k : ℕ) → (poll s (i ∷ []) xs).word ≢ (poll s (k ∷ []) ys).word
      → ((poll s (i ∷ []) xs).word ≡ 0) ⊎ ((poll s (k ∷ []) ys).word ≡ 0)
  unfolding is_path
  two-votes few f g e e' xs ys each each' h h' i k ne =
      grind (arith, vote-reaches (threshold s (i ∷ [])) xs, vote-reaches (threshold s (k ∷ [])) ys, cases_eq v 0, cases_eq w 0, clash)
    where
      v : ℕ
      v = (poll s (i ∷ []) xs).word

      w : ℕ
      w = (poll s (k ∷ []) ys).word

      clash : v ≢ 0 → w ≢ 0 → threshold s (i ∷ []) ≤ count (eqb v) xs → threshold s (k ∷ []) ≤ count (eqb w) ys → ⊥
      clash nv nw a b =
          omega (
            arith,
            few,
            given.enough,
            quorum i [] refl given.one,
            quorum k [] refl given.one,
            level-size s.n s.sender given.sender-below [] refl,
            among_first s.n s.sender (faulty s.faults) given.sender-below f,
            tally-two s.n s.sender (faulty s.faults) [] g e e' xs ys each each' h h' v w ne nv nw,
          )
