-- The laws of VOTE: what the vote returns, told by the values that reach the threshold.
-- None does: the default. One alone does: that value. Two do: a tie, and the default. The order of the entries plays no part.
use mathlib.Core.Path.{◌≡◌, refl, sym, ap, ◌∙◌}
use mathlib.Core.Logic.{◌⊎◌, inl, inr, ◌≢◌, ◌↔◌}
use mathlib.Core.Bool.{Bool, true, false, ◌&&◌, true≢false}
use mathlib.Core.List.{List, [], ◌∷◌}
use Prim.Native.Nat.{ℕ, zero, suc, ◌+◌, ◌≤◌, ◌<◌}
use native.Mathlib.Omega.{arith}
use lib.ListN.{length}
use lib.Dec.{eqb}
use borrow.Author.Tests.{eqb-false, eq-eqb, leb-true, le-leb, lt-leb}
use Rattle.std.proofs.lemmas.Bool.Decides.{nat_tests}
use Rattle.rules.specs.Lists.{count, keep, all}
use Rattle.rules.specs.Vote.{reaches, settle, vote}
use Rattle.rules.specs.declared.Outcome.{Outcome}
use Rattle.rules.proofs.Counting.{by-test, count-le, count-both, count-keep, complement, keep-none, all_keep, all-le, and_left, and_right, and_both}

-- ---- what is said of a value, and of two

-- at least q entries equal v
abbrev pub Reaches : ℕ → List ℕ → ℕ → Type 0
Reaches q xs v = q ≤ count (eqb v) xs

-- v reaches the threshold, and no other value does
pub record Alone (q : ℕ) (xs : List ℕ) (v : ℕ) : Type 0 where
  pub reached : Reaches q xs v
  pub only : (w : ℕ) → Reaches q xs w → w ≡ v

-- two different values reach the threshold
pub record Tied (q : ℕ) (xs : List ℕ) : Type 0 where
  pub one : ℕ
  pub other : ℕ
  pub differ : one ≢ other
  pub one-reaches : Reaches q xs one
  pub other-reaches : Reaches q xs other

-- ---- the test of a value, and the entries that pass it

reaches-is : (q : ℕ) (xs : List ℕ) (v : ℕ) → Reaches q xs v → reaches q xs v ≡ true
unfolding reaches
reaches-is q xs v h = le-leb q (count (eqb v) xs) h

reaches-true : (q : ℕ) (xs : List ℕ) (v : ℕ) → reaches q xs v ≡ true → Reaches q xs v
unfolding reaches
reaches-true q xs v e = leb-true q (count (eqb v) xs) e

reaches-not : (q : ℕ) (xs : List ℕ) (v : ℕ) → count (eqb v) xs < q → reaches q xs v ≡ false
unfolding reaches
reaches-not q xs v h = lt-leb q (count (eqb v) xs) h

all_head : (P : ℕ → Bool) (v : ℕ) (vs : List ℕ) → all P (v ∷ vs) ≡ true → P v ≡ true
unfolding all
all_head P v vs e = and_left (P v) (all P vs) e

all_tail : (P : ℕ → Bool) (v : ℕ) (vs : List ℕ) → all P (v ∷ vs) ≡ true → all P vs ≡ true
unfolding all
all_tail P v vs e = and_right (P v) (all P vs) e

-- a value that reaches a threshold above 0 stands among the entries that are kept
stays : (q : ℕ) (xs : List ℕ) (v : ℕ) → 1 ≤ q → Reaches q xs v → 1 ≤ count (eqb v) (keep (reaches q xs) xs)
stays q xs v pos r =
    omega (
      arith,
      count-keep (eqb v) (reaches q xs) xs,
      count-le (eqb v) (λ x. reaches q xs x && eqb v x) xs (λ x. grind (arith, nat_tests, reaches-is q xs v r)),
    )

-- a value found in a list of one value is that value
same-value : (a : ℕ) (ws : List ℕ) (x : ℕ) → all (eqb a) ws ≡ true → 1 ≤ count (eqb x) ws → x ≡ a
unfolding count all
same-value a [] x h some = absurd (omega arith)
same-value a (w ∷ ws) x h some = grind (arith, nat_tests, same-value a ws x)

self-value : (a : ℕ) (ws : List ℕ) → all (eqb a) ws ≡ true → all (eqb a) (a ∷ ws) ≡ true
unfolding all
self-value a ws h = and_both (eq-eqb a a refl) h

settle-only : (v : ℕ) (ws : List ℕ) → all (eqb v) ws ≡ true → 1 ≤ count (eqb v) ws → settle ws ≡ record { word = v; tie = false }
unfolding settle count all
settle-only v [] h some = absurd (omega arith)
settle-only v (a ∷ ws) h some = grind (arith, nat_tests)

settle-tied : (v w : ℕ) (ws : List ℕ) → v ≢ w → 1 ≤ count (eqb v) ws → 1 ≤ count (eqb w) ws → settle ws ≡ record { word = 0; tie = true }
unfolding settle count
settle-tied v w [] ne hv hw = absurd (omega arith)
settle-tied v w (a ∷ ws) ne hv hw =
    let other : all (eqb a) ws ≡ false = grind (arith, self-value a ws, same-value a (a ∷ ws) v, same-value a (a ∷ ws) w) in
    rw other

-- ---- the three answers

-- no value reaches the threshold: the default, and no tie
pub vote-none : (q : ℕ) (xs : List ℕ) → ((v : ℕ) → count (eqb v) xs < q) → vote q xs ≡ record { word = 0; tie = false }
unfolding vote settle
vote-none q xs h = rw (keep-none (reaches q xs) xs (λ x. reaches-not q xs x (h x)))

-- one value alone reaches it: that value, and no tie
pub vote-only : (q : ℕ) (xs : List ℕ) (v : ℕ) → 1 ≤ q → Alone q xs v → vote q xs ≡ record { word = v; tie = false }
unfolding vote
vote-only q xs v pos a =
    settle-only v (keep (reaches q xs) xs)
    (all-le (reaches q xs) (eqb v) (keep (reaches q xs) xs) (λ w h. eq-eqb v w (sym (a.only w (reaches-true q xs w h)))) (all_keep (reaches q xs) xs))
    (stays q xs v pos a.reached)

-- two different values reach it: a tie, which gives the default
pub vote-tied : (q : ℕ) (xs : List ℕ) → 1 ≤ q → Tied q xs → vote q xs ≡ record { word = 0; tie = true }
unfolding vote
vote-tied q xs pos t =
    settle-tied t.one t.other (keep (reaches q xs) xs) t.differ (stays q xs t.one pos t.one-reaches) (stays q xs t.other pos t.other-reaches)

-- ---- the whole of it: exactly one of three things is so of a list, and it decides the vote

pub data Turnout (q : ℕ) (xs : List ℕ) : Type 0 where
  -- no value reaches the threshold
  none : ((v : ℕ) → count (eqb v) xs < q) → Turnout q xs
  -- one value does
  one : (v : ℕ) → Alone q xs v → Turnout q xs
  -- two or more do
  more : Tied q xs → Turnout q xs

-- what a vote returns for each
unfoldable pub outcome : {q : ℕ} {xs : List ℕ} → Turnout q xs → Outcome
outcome (none h) = record { word = 0; tie = false }
outcome (one v a) = record { word = v; tie = false }
outcome (more t) = record { word = 0; tie = true }

pub vote-is : (q : ℕ) (xs : List ℕ) → 1 ≤ q → (t : Turnout q xs) → vote q xs ≡ outcome t
unfolding outcome
vote-is q xs pos (none h) = vote-none q xs h
vote-is q xs pos (one v a) = vote-only q xs v pos a
vote-is q xs pos (more t) = vote-tied q xs pos t

-- which of the three it is
unfoldable pub kind : {q : ℕ} {xs : List ℕ} → Turnout q xs → ℕ
kind (none h) = 0
kind (one v a) = 1
kind (more t) = 2

alone-not-tied : (q : ℕ) (xs : List ℕ) (v : ℕ) → Alone q xs v → Tied q xs → ⊥
alone-not-tied q xs v a t = t.differ (a.only t.one t.one-reaches ∙ sym (a.only t.other t.other-reaches))

-- never two of them at once
pub turnout-unique : (q : ℕ) (xs : List ℕ) (s t : Turnout q xs) → kind s ≡ kind t
unfolding kind
turnout-unique q xs (none h) (none k) = refl
turnout-unique q xs (none h) (one v a) = absurd (omega (arith, h v, a.reached))
turnout-unique q xs (none h) (more t) = absurd (omega (arith, h t.one, t.one-reaches))
turnout-unique q xs (one v a) (none h) = absurd (omega (arith, h v, a.reached))
turnout-unique q xs (one v a) (one w b) = refl
turnout-unique q xs (one v a) (more t) = absurd (alone-not-tied q xs v a t)
turnout-unique q xs (more t) (none h) = absurd (omega (arith, h t.one, t.one-reaches))
turnout-unique q xs (more t) (one v a) = absurd (alone-not-tied q xs v a t)
turnout-unique q xs (more s) (more t) = refl

-- an entry that fails a test, in a list whose entries do not all pass it
record Failing (P Q : ℕ → Bool) : Type 0 where
  entry : ℕ
  fails : P entry ≡ false
  passes : Q entry ≡ true

failing : (P Q : ℕ → Bool) (ws : List ℕ) → all P ws ≡ false → all Q ws ≡ true → Failing P Q
unfolding all
failing P Q [] h k = absurd (true≢false h)
failing P Q (w ∷ ws) h k =
    by-test (P w)
    (λ (e : P w ≡ true). failing P Q ws (rw e at h) (and_right (Q w) (all Q ws) k))
    (λ (e : P w ≡ false). record { entry = w; fails = e; passes = and_left (Q w) (all Q ws) k })

-- and always one of them
pub turnout : (q : ℕ) (xs : List ℕ) → 1 ≤ q → Turnout q xs
unfolding count
turnout q xs pos = go (keep (reaches q xs) xs) (all_keep (reaches q xs) xs) (λ v. stays q xs v pos)
  where
    go : (ws : List ℕ) → all (reaches q xs) ws ≡ true → ((v : ℕ) → Reaches q xs v → 1 ≤ count (eqb v) ws) → Turnout q xs
    go [] h in' = none (λ v. grind (arith, in' v))
    go (a ∷ ws) h in' =
        let ra = reaches-true q xs a (all_head (reaches q xs) a ws h) in
        by-test (all (eqb a) ws)
        (λ (e : all (eqb a) ws ≡ true). one a (record { reached = ra; only = λ w r. same-value a (a ∷ ws) w (self-value a ws e) (in' w r) }))
        (λ (e : all (eqb a) ws ≡ false).
        let f = failing (eqb a) (reaches q xs) ws e (all_tail (reaches q xs) a ws h) in
        more (record { one = a; other = f.entry; differ = eqb-false a f.entry f.fails; one-reaches = ra; other-reaches = reaches-true q xs f.entry f.passes }))

-- ---- exactly when

-- the vote gives v, which is not the default, exactly when v alone reaches the threshold
pub vote-value : (q : ℕ) (xs : List ℕ) (v : ℕ) → 1 ≤ q → v ≢ 0 → (vote q xs ≡ record { word = v; tie = false }) ↔ Alone q xs v
vote-value q xs v pos ne = (λ e. go (turnout q xs pos) e, vote-only q xs v pos)
  where
    go : Turnout q xs → vote q xs ≡ record { word = v; tie = false } → Alone q xs v
    go (none h) e = absurd (ne (ap (λ o. o.word) (sym e ∙ vote-none q xs h)))
    go (one w a) e = rw (← ap (λ o. o.word) (sym e ∙ vote-only q xs w pos a)) at a
    go (more t) e = absurd (true≢false (ap (λ o. o.tie) (sym (vote-tied q xs pos t) ∙ e)))

-- the vote meets a tie exactly when two different values reach the threshold
pub vote-tie : (q : ℕ) (xs : List ℕ) → 1 ≤ q → ((vote q xs).tie ≡ true) ↔ Tied q xs
vote-tie q xs pos = (λ e. go (turnout q xs pos) e, λ t. ap (λ o. o.tie) (vote-tied q xs pos t))
  where
    go : Turnout q xs → (vote q xs).tie ≡ true → Tied q xs
    go (none h) e = absurd (true≢false (sym e ∙ ap (λ o. o.tie) (vote-none q xs h)))
    go (one w a) e = absurd (true≢false (sym e ∙ ap (λ o. o.tie) (vote-only q xs w pos a)))
    go (more t) e = t

-- ---- for proofs about decisions

-- a vote gives the default, or a value that reaches the threshold
pub vote-reaches : (q : ℕ) (xs : List ℕ) → ((vote q xs).word ≡ 0) ⊎ Reaches q xs (vote q xs).word
vote-reaches zero xs = inr (omega arith)
vote-reaches (suc q) xs = go (turnout (suc q) xs (omega arith))
  where
    go : Turnout (suc q) xs → ((vote (suc q) xs).word ≡ 0) ⊎ Reaches (suc q) xs (vote (suc q) xs).word
    go (none h) = inl (ap (λ o. o.word) (vote-none (suc q) xs h))
    go (one v a) = inr (rw (vote-only (suc q) xs v (omega arith) a) a.reached)
    go (more t) = inl (ap (λ o. o.word) (vote-tied (suc q) xs (omega arith) t))

-- where fewer than q + q entries stand, a value that reaches the threshold is what the vote gives
pub vote-wins : (q : ℕ) (xs : List ℕ) (v : ℕ) → 1 ≤ q → length xs < q + q → Reaches q xs v → (vote q xs).word ≡ v
vote-wins q xs v pos short r = ap (λ o. o.word) (vote-only q xs v pos (record { reached = r; only = λ w also. grind (arith, count-both w v xs) }))

-- what is so of every entry is so of those that are kept
all-kept : (P R : ℕ → Bool) (xs : List ℕ) → all P xs ≡ true → all P (keep R xs) ≡ true
unfolding all keep
all-kept P R [] h = refl
all-kept P R (x ∷ xs) h = grind (arith, all-kept P R xs)

settle-keeps : (P : ℕ → Bool) (ws : List ℕ) → P 0 ≡ true → all P ws ≡ true → P (settle ws).word ≡ true
unfolding settle all
settle-keeps P [] z h = z
settle-keeps P (w ∷ ws) z h = grind arith

-- a vote gives the default or one of the entries: what is so of these is so of its value
pub vote-keeps : (P : ℕ → Bool) (q : ℕ) (xs : List ℕ) → P 0 ≡ true → all P xs ≡ true → P (vote q xs).word ≡ true
unfolding vote
vote-keeps P q xs z h = settle-keeps P (keep (reaches q xs) xs) z (all-kept P (reaches q xs) xs h)

-- no count passes the length, so a threshold above the length gives the default and no tie
pub vote-above : (q : ℕ) (xs : List ℕ) → length xs < q → vote q xs ≡ record { word = 0; tie = false }
vote-above q xs h = vote-none q xs (λ v. omega (arith, complement (eqb v) xs))

-- ---- the order of the entries plays no part

-- two lists that hold each value equally often give the same outcome
pub vote-counts : (q : ℕ) (xs ys : List ℕ) → 1 ≤ q → ((v : ℕ) → count (eqb v) xs ≡ count (eqb v) ys) → vote q xs ≡ vote q ys
vote-counts q xs ys pos h = go (turnout q xs pos)
  where
    go : Turnout q xs → vote q xs ≡ vote q ys
    go (none k) = vote-none q xs k ∙ sym (vote-none q ys (λ v. omega (arith, h v, k v)))
    go (one v a) =
        vote-only q xs v pos a
        ∙ sym (vote-only q ys v pos (record { reached = omega (arith, h v, a.reached); only = λ w r. a.only w (omega (arith, h w)) }))
    go (more t) =
        vote-tied q xs pos t
        ∙ sym (vote-tied q ys pos (record {
          one = t.one;
          other = t.other;
          differ = t.differ;
          one-reaches = omega (arith, h t.one, t.one-reaches);
          other-reaches = omega (arith, h t.other, t.other-reaches);
        }))

-- the second list is the first in another order
pub data Reordered : List ℕ → List ℕ → Type 0 where
  nothing : Reordered [] []
  after : (x : ℕ) {xs ys : List ℕ} → Reordered xs ys → Reordered (x ∷ xs) (x ∷ ys)
  swapped : (x y : ℕ) (xs : List ℕ) → Reordered (x ∷ y ∷ xs) (y ∷ x ∷ xs)
  again : {xs ys zs : List ℕ} → Reordered xs ys → Reordered ys zs → Reordered xs zs

reordered-count : {xs ys : List ℕ} (v : ℕ) → Reordered xs ys → count (eqb v) xs ≡ count (eqb v) ys
unfolding count
reordered-count v nothing = refl
reordered-count v (after x r) = omega (arith, reordered-count v r)
reordered-count v (swapped x y xs) = omega arith
reordered-count v (again r s) = reordered-count v r ∙ reordered-count v s

-- any reordering of the list gives the same outcome
pub vote-reordered : (q : ℕ) {xs ys : List ℕ} → 1 ≤ q → Reordered xs ys → vote q xs ≡ vote q ys
vote-reordered q {xs} {ys} pos r = vote-counts q xs ys pos (λ v. reordered-count v r)
