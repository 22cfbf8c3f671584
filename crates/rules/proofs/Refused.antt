-- Refusals: the answer is k exactly when the reason numbered k applies and no earlier reason of the list does, and 0 exactly
-- when none applies. It is shown once over any list of reasons, then read off for each entry point.
use mathlib.Core.Path.{◌≡◌, refl, sym, ◌∙◌}
use mathlib.Core.Logic.{◌⊎◌, inl, inr, ⊎_elim, ◌≢◌, ◌↔◌}
use mathlib.Core.Bool.{Bool, true, false, not, ◌&&◌, true≢false, false≢true}
use mathlib.Core.List.{List, [], ◌∷◌, ◌++◌, map}
use Prim.Native.Nat.{ℕ, ◌≤◌, ◌<◌}
use native.Mathlib.Omega.{arith}
use lib.Dec.{eqb, ltb, leb}
use borrow.Author.Tests.{ltb-true}
use Rattle.std.proofs.lemmas.Bool.Decides.{nat_tests}
use Rattle.rules.specs.Lists.{all}
use Rattle.rules.specs.Refusals.{Reason, first, settings_reasons, exchange_reasons, layout_reasons, route_reasons, cell_reasons, part_reasons, vote_reasons, settings_refusal, exchange_refusal, route_refusal, cell_refusal, part_refusal, vote_refusal}
use Rattle.rules.specs.declared.Settings.{Settings}
use Rattle.rules.specs.declared.Route as R
use Rattle.rules.proofs.Counting.{by-test, and_left, and_right}

-- ---- what is said of a list of reasons

-- a reason numbered k applies, and none before it
pub data FirstApplies (k : ℕ) : List Reason → Type 0 where
  here : {r : Reason} {rs : List Reason} → r.number ≡ k → r.applies ≡ true → FirstApplies k (r ∷ rs)
  later : {r : Reason} {rs : List Reason} → r.applies ≡ false → FirstApplies k rs → FirstApplies k (r ∷ rs)

-- some reason numbered k applies
unfoldable pub Applies : ℕ → List Reason → Type 0
Applies k [] = ⊥
Applies k (r ∷ rs) = ((r.number ≡ k) × (r.applies ≡ true)) ⊎ Applies k rs

-- k applies, and nothing lower does
pub record Lowest (k : ℕ) (l : List Reason) : Type 0 where
  pub holds : Applies k l
  pub least : (j : ℕ) → j < k → ¬ Applies j l

-- no reason applies
infixr 5 ◌⨾◌
pub data NoneApplies : List Reason → Type 0 where
  end : NoneApplies []
  ◌⨾◌ : {r : Reason} {rs : List Reason} → r.applies ≡ false → NoneApplies rs → NoneApplies (r ∷ rs)

abbrev pub numbers : List Reason → List ℕ
numbers l = map (λ r. r.number) l

-- numbers that ascend from above k
unfoldable pub ascending : ℕ → List ℕ → Bool
ascending k [] = true
ascending k (x ∷ xs) = ltb k x && ascending x xs

-- no reason that applies is numbered 0
unfoldable pub numbered : List Reason → Bool
numbered [] = true
numbered (r ∷ rs) = not (eqb r.number 0 && r.applies) && numbered rs

-- ---- over any list

-- the answer is k, which is not 0, exactly when k is the number of the first reason that applies
pub first-is : (k : ℕ) (l : List Reason) → k ≢ 0 → (first l ≡ k) ↔ FirstApplies k l
unfolding first
first-is k l ne = (to l, from)
  where
    to : (rs : List Reason) → first rs ≡ k → FirstApplies k rs
    to [] e = absurd (ne (sym e))
    to (r ∷ rs) e =
        by-test r.applies
        (λ (y : r.applies ≡ true). here (rw y at e) y)
        (λ (y : r.applies ≡ false). later y (to rs (rw y at e)))

    from : {rs : List Reason} → FirstApplies k rs → first rs ≡ k
    from (here n y) = rw y n
    from (later y f) = rw y (from f)

-- what a list that ascends from above j says of its front and of the rest
ascending-head : (j x : ℕ) (xs : List ℕ) → ascending j (x ∷ xs) ≡ true → j < x
unfolding ascending
ascending-head j x xs h = ltb-true j x (and_left (ltb j x) (ascending x xs) h)

ascending-tail : (j x : ℕ) (xs : List ℕ) → ascending j (x ∷ xs) ≡ true → ascending x xs ≡ true
unfolding ascending
ascending-tail j x xs h = and_right (ltb j x) (ascending x xs) h

-- the answer is 0 exactly when no reason applies, where none that applies is numbered 0
pub first-none : (l : List Reason) → numbered l ≡ true → (first l ≡ 0) ↔ NoneApplies l
unfolding first numbered
first-none l named = (to l named, from)
  where
    to : (rs : List Reason) → numbered rs ≡ true → first rs ≡ 0 → NoneApplies rs
    to [] n e = end
    to (r ∷ rs) n e =
        by-test r.applies
        (λ (y : r.applies ≡ true).
        let zero : r.number ≡ 0 = rw y at e in
        absurd (false≢true (rw (y, zero) at (and_left (not (eqb r.number 0 && r.applies)) (numbered rs) n))))
        (λ (y : r.applies ≡ false). y ⨾ to rs (and_right (not (eqb r.number 0 && r.applies)) (numbered rs) n) (rw y at e))

    from : {rs : List Reason} → NoneApplies rs → first rs ≡ 0
    from end = refl
    from (y ⨾ h) = rw y (from h)

ascending-numbered : (j : ℕ) (l : List Reason) → ascending j (numbers l) ≡ true → numbered l ≡ true
unfolding numbered
ascending-numbered j [] up = refl
ascending-numbered j (r ∷ rs) up =
    grind (arith, nat_tests, ascending-head j r.number (numbers rs) up, ascending-numbered r.number rs (ascending-tail j r.number (numbers rs) up))

-- so it is where the numbers ascend
pub first-zero : (j : ℕ) (l : List Reason) → ascending j (numbers l) ≡ true → (first l ≡ 0) ↔ NoneApplies l
first-zero j l up = first-none l (ascending-numbered j l up)

-- the answer is not above a bound of all numbers
pub first-most : (b : ℕ) (l : List Reason) → all (λ k. leb k b) (numbers l) ≡ true → first l ≤ b
unfolding first all
first-most b [] h = omega arith
first-most b (r ∷ rs) h = grind (arith, nat_tests, first-most b rs)

-- none of two lists applies: none of the one, and none of the other
pub none-split : (k l : List Reason) → NoneApplies (k ++ l) → NoneApplies k × NoneApplies l
none-split [] l h = (end, h)
none-split (r ∷ k) l (y ⨾ h) = let rest = none-split k l h in (y ⨾ rest.0, rest.1)

pub none-join : {k l : List Reason} → NoneApplies k → NoneApplies l → NoneApplies (k ++ l)
none-join end e = e
none-join (y ⨾ h) e = y ⨾ none-join h e

-- in a list that ascends from above j, only numbers above j apply
applies-above : (i j : ℕ) (l : List Reason) → ascending j (numbers l) ≡ true → Applies i l → j < i
unfolding Applies
applies-above i j [] up a = absurd a
applies-above i j (r ∷ rs) up (inl a) = omega (arith, ascending-head j r.number (numbers rs) up)
applies-above i j (r ∷ rs) up (inr a) =
    omega (arith, ascending-head j r.number (numbers rs) up, applies-above i r.number rs (ascending-tail j r.number (numbers rs) up) a)

first-lowest : (k j : ℕ) (l : List Reason) → ascending j (numbers l) ≡ true → FirstApplies k l → Lowest k l
unfolding Applies
first-lowest k j [] up f = elim f [ ]
first-lowest k j (r ∷ rs) up (here n y) = record { holds = inl (n, y); least = least }
  where
    least : (i : ℕ) → i < k → ¬ Applies i (r ∷ rs)
    least i b (inl a) = omega arith
    least i b (inr a) = omega (arith, applies-above i r.number rs (ascending-tail j r.number (numbers rs) up) a)
first-lowest k j (r ∷ rs) up (later y f) = after (first-lowest k r.number rs (ascending-tail j r.number (numbers rs) up) f)
  where
    after : Lowest k rs → Lowest k (r ∷ rs)
    after rest = record { holds = inr rest.holds; least = λ i b a. ⊎_elim (λ x. true≢false (sym x.1 ∙ y)) (rest.least i b) a }

lowest-first : (k j : ℕ) (l : List Reason) → ascending j (numbers l) ≡ true → Lowest k l → FirstApplies k l
unfolding Applies
lowest-first k j [] up w = absurd w.holds
lowest-first k j (r ∷ rs) up w =
    by-test r.applies
    (λ (y : r.applies ≡ true). ⊎_elim (λ a. here a.0 y)
    (λ a. absurd (w.least r.number (applies-above k r.number rs (ascending-tail j r.number (numbers rs) up) a) (inl (refl, y)))) w.holds)
    (λ (y : r.applies ≡ false).
    let rest : Applies k rs = ⊎_elim (λ a. absurd (true≢false (sym a.1 ∙ y))) (λ a. a) w.holds in
    later y (lowest-first k r.number rs (ascending-tail j r.number (numbers rs) up) (record { holds = rest; least = λ i b a. w.least i b (inr a) })))

-- The lowest number that applies is given: where the numbers of a list ascend, the answer is k, which is not 0, exactly when k
-- applies and nothing lower does.
pub lowest-is : (k j : ℕ) (l : List Reason) → ascending j (numbers l) ≡ true → k ≢ 0 → (first l ≡ k) ↔ Lowest k l
lowest-is k j l up ne =
    (λ e. first-lowest k j l up ((first-is k l ne).0 e), λ w. (first-is k l ne).1 (lowest-first k j l up w))

-- ---- the numbers of each entry point ascend from 1, whatever is given

pub settings-ascend : (s : Settings) → ascending 0 (numbers (settings_reasons s)) ≡ true
unfolding ascending settings_reasons
settings-ascend s = refl

exchange-ascend : (s : Settings) (table row : ℕ) → ascending 0 (numbers (exchange_reasons s table row)) ≡ true
unfolding ascending exchange_reasons settings_reasons
exchange-ascend s table row = refl

pub layout-ascend : (n m : ℕ) → ascending 0 (numbers (layout_reasons n m)) ≡ true
unfolding ascending layout_reasons
layout-ascend n m = refl

route-ascend : (n m sender : ℕ) (r : R.Route) → ascending 0 (numbers (route_reasons n m sender r)) ≡ true
unfolding ascending route_reasons layout_reasons
route-ascend n m sender r = refl

cell-ascend : (n m sender c : ℕ) → ascending 0 (numbers (cell_reasons n m sender c)) ≡ true
unfolding ascending cell_reasons layout_reasons
cell-ascend n m sender c = refl

part-ascend : (n m table k : ℕ) → ascending 0 (numbers (part_reasons n m table k)) ≡ true
unfolding ascending part_reasons layout_reasons
part-ascend n m table k = refl

vote-ascend : (q list : ℕ) → ascending 0 (numbers (vote_reasons q list)) ≡ true
unfolding ascending vote_reasons
vote-ascend q list = refl

-- ---- so each entry point gives the lowest number that applies

pub exchange-refused : (k : ℕ) (s : Settings) (table row : ℕ) → k ≢ 0 → (exchange_refusal s table row ≡ k) ↔ Lowest k (exchange_reasons s table row)
exchange-refused k s table row = lowest-is k 0 (exchange_reasons s table row) (exchange-ascend s table row)

pub route-refused : (k n m sender : ℕ) (r : R.Route) → k ≢ 0 → (route_refusal n m sender r ≡ k) ↔ Lowest k (route_reasons n m sender r)
route-refused k n m sender r = lowest-is k 0 (route_reasons n m sender r) (route-ascend n m sender r)

pub cell-refused : (k n m sender c : ℕ) → k ≢ 0 → (cell_refusal n m sender c ≡ k) ↔ Lowest k (cell_reasons n m sender c)
cell-refused k n m sender c = lowest-is k 0 (cell_reasons n m sender c) (cell-ascend n m sender c)

pub part-refused : (k n m table round : ℕ) → k ≢ 0 → (part_refusal n m table round ≡ k) ↔ Lowest k (part_reasons n m table round)
part-refused k n m table round = lowest-is k 0 (part_reasons n m table round) (part-ascend n m table round)

pub vote-refused : (k q list : ℕ) → k ≢ 0 → (vote_refusal q list ≡ k) ↔ Lowest k (vote_reasons q list)
vote-refused k q list = lowest-is k 0 (vote_reasons q list) (vote-ascend q list)

-- ---- and 0 exactly when nothing applies

pub exchange-passed : (s : Settings) (table row : ℕ) → (exchange_refusal s table row ≡ 0) ↔ NoneApplies (exchange_reasons s table row)
exchange-passed s table row = first-zero 0 (exchange_reasons s table row) (exchange-ascend s table row)

pub route-passed : (n m sender : ℕ) (r : R.Route) → (route_refusal n m sender r ≡ 0) ↔ NoneApplies (route_reasons n m sender r)
route-passed n m sender r = first-zero 0 (route_reasons n m sender r) (route-ascend n m sender r)

pub cell-passed : (n m sender c : ℕ) → (cell_refusal n m sender c ≡ 0) ↔ NoneApplies (cell_reasons n m sender c)
cell-passed n m sender c = first-zero 0 (cell_reasons n m sender c) (cell-ascend n m sender c)

pub part-passed : (n m table round : ℕ) → (part_refusal n m table round ≡ 0) ↔ NoneApplies (part_reasons n m table round)
part-passed n m table round = first-zero 0 (part_reasons n m table round) (part-ascend n m table round)

pub vote-passed : (q list : ℕ) → (vote_refusal q list ≡ 0) ↔ NoneApplies (vote_reasons q list)
vote-passed q list = first-zero 0 (vote_reasons q list) (vote-ascend q list)

-- the numbers of the settings are 7 at the most
pub settings-most : (s : Settings) → settings_refusal s ≤ 7
unfolding settings_reasons all
settings-most s = first-most 7 (settings_reasons s) refl

-- ---- one list before another: k is what the first one gives

-- a number is that of both lists
pub front-stands : (l rest : List Reason) (k : ℕ) → k ≡ first l → k ≢ 0 → k ≡ first (l ++ rest)
unfolding first
front-stands [] rest k e some = absurd (some e)
front-stands (r ∷ l) rest k e some = grind (arith, front-stands l rest k)

-- and where there is none, the second list decides
pub rest-decides : (l rest : List Reason) (k : ℕ) → ascending 0 (numbers l) ≡ true → k ≡ first l → k ≡ 0 → first (l ++ rest) ≡ first rest
unfolding first
rest-decides l rest k up e z = past ((first-zero 0 l up).0 (sym e ∙ z))
  where
    past : {rs : List Reason} → NoneApplies rs → first (rs ++ rest) ≡ first rest
    past end = refl
    past (y ⨾ h) = rw y (past h)
