-- No word that is told to or decided by a fault-free node is reserved, if the sender's value is not.
use mathlib.Core.Path.{◌≡◌, refl}
use mathlib.Core.Bool.{Bool, true}
use mathlib.Core.List.{List, [], ◌∷◌, map}
use Prim.Native.Nat.{ℕ, zero, suc, ◌≤◌}
use native.Mathlib.Omega.{arith}
use lib.Dec.{leb}
use borrow.Author.Tests.{leb-true, le-leb}
use Rattle.std.proofs.lemmas.Bool.Decides.{nat_tests}
use Rattle.rules.specs.Lists.{all}
use Rattle.rules.specs.Words.{word_at, reserved, plain}
use Rattle.rules.specs.Routes.{receivers}
use Rattle.rules.specs.Cells.{cell}
use Rattle.rules.specs.Vote.{vote}
use Rattle.rules.specs.Delivered.{delivered}
use Rattle.rules.specs.Decision.{via, threshold, byz, entries}
use Rattle.rules.specs.declared.Settings.{Settings}
use Rattle.rules.proofs.Counting.{and_both}
use Rattle.rules.proofs.Voting.{vote-keeps}
use Rattle.rules.proofs.Clauses.{byz-told, byz-votes}

-- the default and the ordinary values
abbrev pub ordinary : ℕ → Bool
ordinary w = leb w 65000

-- what a word counts as is never reserved
pub plain-ordinary : (w : ℕ) → plain w ≤ 65000
unfolding plain reserved
plain-ordinary w = grind (arith, nat_tests)

all_map : (P : ℕ → Bool) (f : ℕ → ℕ) (L : List ℕ) → ((x : ℕ) → P (f x) ≡ true) → all P (map f L) ≡ true
unfolding all
all_map P f [] h = refl
all_map P f (x ∷ L) h = and_both (h x) (all_map P f L h)

module _ (s : Settings) (table : List ℕ) (value : s.value ≤ 65000) where
  -- what is told on a route
  pub delivered-ordinary : (r : List ℕ) → delivered s table r ≤ 65000
  unfolding delivered
  delivered-ordinary [] = value
  delivered-ordinary (i ∷ p) = grind (arith, plain-ordinary (word_at table (cell s.n s.sender (i ∷ p))), delivered-ordinary p)

  pub entries-ordinary : (t : ℕ) (r : List ℕ) → ((k : List ℕ) → (byz s table t k).word ≤ 65000) → all ordinary (entries s table t r) ≡ true
  unfolding entries all
  entries-ordinary t r below =
      and_both (le-leb (delivered s table r) 65000 (delivered-ordinary r))
      (all_map ordinary (λ j. (byz s table t (via j r)).word) (receivers s.n s.sender r) (λ j. le-leb (byz s table t (via j r)).word 65000 (below (via j r))))

  -- what is decided, with any number of rounds left
  pub byz-ordinary : (t : ℕ) (r : List ℕ) → (byz s table t r).word ≤ 65000
  byz-ordinary zero r = rw (byz-told s table r) (delivered-ordinary r)
  byz-ordinary (suc t) r =
      let w = (vote (threshold s r) (entries s table t r)).word in
      rw (byz-votes s table t r) (leb-true w 65000 (vote-keeps ordinary (threshold s r) (entries s table t r) refl (entries-ordinary t r (byz-ordinary t))))
