-- The table of what is turned away, in plain words: for each entry point its numbers in their order, and when each is given.
use mathlib.Core.Path.{◌≡◌}
use mathlib.Core.Logic.Iff
use mathlib.Core.Logic.{◌⊎◌, inl, inr, ⊎_elim, ◌≢◌, ◌↔◌}
use mathlib.Core.Bool.{Bool, true, false, not}
use mathlib.Core.List.{List, [], ◌∷◌, ◌++◌}
use Prim.Native.Nat.{ℕ, ◌+◌, ◌*◌, ◌/◌, ◌%◌, ◌^◌, ◌≤◌, ◌<◌}
use native.Mathlib.Nat.{div-eq_of_lt, div-lt_iff_lt-mul}
use native.Mathlib.Omega.{arith}
use lib.Dec.{eqb, ltb, leb}
use lib.Pow.{pow_pos}
use borrow.Author.Tests.{leb-true, le-leb, not-true}
use Rattle.std.proofs.lemmas.Bool.{cases_lt, not_from_false}
use Rattle.std.proofs.lemmas.Bool.Decides.{Decides-or as either, Decides-ltb as below, Decides-eqb as equal, Decides-not}
use Rattle.rules.specs.Words.{reserved}
use Rattle.rules.specs.Routes.{is_route, held}
use Rattle.rules.specs.Cells.{cells}
use Rattle.rules.specs.Refusals.{Reason, because, wrong_nodes, wrong_rounds, low_bound, too_few, too_few_alone, no_sender, reserved_value, stray_fault, wrong_table, wrong_row, no_threshold, odd_list, no_route, no_cell, no_round, settings_reasons, exchange_reasons, layout_reasons, route_reasons, cell_reasons, part_reasons, vote_reasons}
use Rattle.rules.specs.declared.Settings.{Settings}
use Rattle.rules.specs.declared.Route as R
use Rattle.rules.proofs.Refused.{Applies}
use Rattle.rules.proofs.FaultWord.{BitFrom, bit-from}

-- ---- what a table says

-- one line: a number, and when it is given
pub record Line : Type 1 where
  pub number : ℕ
  pub when : Type 0

abbrev pub given : ℕ → Type 0 → Line
given k C = record { number = k; when = C }

-- the reasons of an entry point are these lines: the same numbers in the same order, and each applies exactly when its line says
infixr 5 ◌⨾◌
pub data Says : List Reason → List Line → Type 1 where
  end : Says [] []
  ◌⨾◌ : {k : ℕ} {b : Bool} {C : Type 0} {rs : List Reason} {ls : List Line} → (b ≡ true) ↔ C → Says rs ls → Says (because k b ∷ rs) (given k C ∷ ls)

-- line k is there, and what it says is so
unfoldable pub Said : ℕ → List Line → Type 0
Said k [] = ⊥
Said k (l ∷ ls) = ((l.number ≡ k) × l.when) ⊎ Said k ls

-- then number k applies exactly when its line says so; the lowest that applies is given (`exchange-refused` and the like)
pub says-when : {rs : List Reason} {ls : List Line} (k : ℕ) → Says rs ls → Applies k rs ↔ Said k ls
unfolding Applies Said
says-when k end = (λ a. a, λ a. a)
says-when k (e ⨾ s) = (
  ⊎_elim (λ a. inl (a.0, e.0 a.1)) (λ a. inr ((says-when k s).0 a)),
  ⊎_elim (λ a. inl (a.0, e.1 a.1)) (λ a. inr ((says-when k s).1 a)),
)

-- ---- each condition

pub up-to : (a b : ℕ) → (leb a b ≡ true) ↔ (a ≤ b)
up-to a b = (leb-true a b, le-leb a b)

pub differs : (a b : ℕ) → (not (eqb a b) ≡ true) ↔ (a ≢ b)
differs a b = Decides-not (eqb a b) (equal a b)

pub fails : (b : Bool) → (not b ≡ true) ↔ (b ≡ false)
fails b = (not-true b, not_from_false b)

nodes : (n : ℕ) → (wrong_nodes n ≡ true) ↔ ((n < 4) ⊎ (15 < n))
unfolding wrong_nodes
nodes n = either (ltb n 4) (ltb 15 n) (below n 4) (below 15 n)

rounds : (m : ℕ) → (wrong_rounds m ≡ true) ↔ ((m ≡ 0) ⊎ (3 < m))
unfolding wrong_rounds
rounds m = either (eqb m 0) (ltb 3 m) (equal m 0) (below 3 m)

large : (n faults : ℕ) → (stray_fault n faults ≡ true) ↔ (2 ^ n ≤ faults)
unfolding stray_fault
large n faults = Iff.trans (differs (faults / 2 ^ n) 0) (
  λ ne. ⊎_elim (λ h. absurd (ne (div-eq_of_lt h))) (λ h. h) (cases_lt faults (2 ^ n)),
  λ h e. absurd (omega (arith, (div-lt_iff_lt-mul {k = 2 ^ n} {x = faults} {y = 1} (pow_pos n)).0 (omega (arith, e)))),
)

stray : (n faults : ℕ) → (stray_fault n faults ≡ true) ↔ BitFrom n faults
stray n faults = Iff.trans (large n faults) ((bit-from n faults).1, (bit-from n faults).0)

-- two tables one after the other
join : {rs qs : List Reason} {ls ks : List Line} → Says rs ls → Says qs ks → Says (rs ++ qs) (ls ++ ks)
join end t = t
join (e ⨾ s) t = e ⨾ join s t

-- ---- exchange

abbrev pub settings_lines : Settings → List Line
settings_lines s =
    given 1 ((s.n < 4) ⊎ (15 < s.n))
    ∷ given 2 ((s.m ≡ 0) ⊎ (3 < s.m))
    ∷ given 3 (s.u < s.m)
    ∷ given 4 (s.n ≤ 2 * s.m + s.u)
    ∷ given 5 (s.n ≤ s.sender)
    ∷ given 6 (65000 < s.value)
    ∷ given 7 (BitFrom s.n s.faults)
    ∷ []

pub settings-say : (s : Settings) → Says (settings_reasons s) (settings_lines s)
unfolding settings_reasons low_bound too_few no_sender reserved_value reserved
settings-say s =
    nodes s.n
    ⨾ rounds s.m
    ⨾ below s.u s.m
    ⨾ up-to s.n (2 * s.m + s.u)
    ⨾ up-to s.n s.sender
    ⨾ below 65000 s.value
    ⨾ stray s.n s.faults
    ⨾ end

pub exchange-says : (s : Settings) (table row : ℕ)
    → Says (exchange_reasons s table row) (settings_lines s ++ (given 8 (table ≢ 2 * cells s.n s.m) ∷ given 9 (row ≢ 2 * s.n) ∷ []))
unfolding exchange_reasons wrong_table wrong_row
exchange-says s table row = join (settings-say s) (differs table (2 * cells s.n s.m) ⨾ differs row (2 * s.n) ⨾ end)

-- ---- routes and the round part, where no u is taken

abbrev pub layout_lines : ℕ → ℕ → List Line
layout_lines n m = given 1 ((n < 4) ⊎ (15 < n)) ∷ given 2 ((m ≡ 0) ⊎ (3 < m)) ∷ given 4 (n ≤ 3 * m) ∷ []

layout-says : (n m : ℕ) → Says (layout_reasons n m) (layout_lines n m)
unfolding layout_reasons too_few_alone
layout-says n m = nodes n ⨾ rounds m ⨾ up-to n (3 * m) ⨾ end

pub route-says : (n m sender : ℕ) (r : R.Route)
    → Says (route_reasons n m sender r) (layout_lines n m ++ (given 5 (n ≤ sender) ∷ given 13 (is_route n m sender (held r) ≡ false) ∷ []))
unfolding route_reasons no_sender no_route
route-says n m sender r = join (layout-says n m) (up-to n sender ⨾ fails (is_route n m sender (held r)) ⨾ end)

pub cell-says : (n m sender c : ℕ) → Says (cell_reasons n m sender c) (layout_lines n m ++ (given 5 (n ≤ sender) ∷ given 14 (cells n m ≤ c) ∷ []))
unfolding cell_reasons no_sender no_cell
cell-says n m sender c = join (layout-says n m) (up-to n sender ⨾ up-to (cells n m) c ⨾ end)

pub part_says : (n m table round : ℕ) → Says (part_reasons n m table round) (layout_lines n m ++ (given 8 (table ≢ 2 * cells n m) ∷ given 15 (m < round) ∷ []))
unfolding part_reasons wrong_table no_round
part_says n m table round = join (layout-says n m) (differs table (2 * cells n m) ⨾ below m round ⨾ end)

-- ---- the vote

pub vote-says : (q list : ℕ) → Says (vote_reasons q list) (given 11 (q ≡ 0) ∷ given 12 (list % 2 ≢ 0) ∷ [])
unfolding vote_reasons no_threshold odd_list
vote-says q list = equal q 0 ⨾ differs (list % 2) 0 ⨾ end
