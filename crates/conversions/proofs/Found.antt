-- From a cell to its route, as the code goes: the round, the d-th receiver, and one number more in a row.
use mathlib.Core.Path.{◌≡◌, refl, sym, ap, ◌∙◌}
use mathlib.Core.Bool.{Bool, true, false, cond}
use mathlib.Core.List.{List, [], ◌∷◌, append_assoc}
use Prim.Native.Nat.{ℕ, zero, suc, ◌+◌, ◌-◌, ◌/◌, ◌%◌, ◌≤◌, ◌<◌}
use native.Mathlib.Omega.{arith}
use native.Mathlib.Numerals.{add-one, sub-one}
use lib.ListN.{length, get_or, set, replicate}
use lib.Seq.{set_at}
use lib.Dec.{ltb}
use borrow.Author.Tests.{lt-ltb, le-ltb, ltb-false}
use Rattle.std.specs.Prelude.{Option, unwrap_or, filter}
use Rattle.std.specs.List.{range_with_len, slice_get}
use Rattle.std.specs.Option.{option_map}
use Rattle.std.proofs.lemmas.Option.{unwrap_or-slice_get}
use Rattle.std.proofs.lemmas.Iterator.Adapters.{option_map_id}
use Rattle.rules.specs.Lists.{keep, up_to}
use Rattle.rules.specs.Routes.{held, written, receiver, receivers}
use Rattle.rules.specs.Cells.{cells_before, round_of, unrank, route_at}
use Rattle.rules.specs.Answers.{row_of_route}
use Rattle.rules.specs.declared.Route as R
use Rattle.rules.proofs.Counting.{by-test}
use Rattle.routes.proofs.Given.{range-more}
use Rattle.rules.proofs.Inverse.{length-unrank, round-most}
use Rattle.rules.proofs.Rows.{length-written, held-row}

-- ---- the round of a cell

-- it is none of the rounds above k
pub record RoundTo (n m c k : ℕ) : Type 0 where
  pub same : round_of n m c ≡ round_of n k c

round-step : (n k c : ℕ) → 1 ≤ k → round_of n k c ≡ cond (ltb c (cells_before n k)) (round_of n (k - 1) c) k
unfolding round_of
round-step n zero c h = absurd (omega arith)
round-step n (suc k) c h = rw sub-one

module _ (n m c k b : ℕ) (so_far : RoundTo n m c k) (some : 1 ≤ k) (start : b ≡ cells_before n k) where
  -- the cell stands at this round's start or after it ..
  pub round-here : b ≤ c → k ≡ round_of n m c
  round-here le = sym (so_far.same ∙ round-step n k c some ∙ rw (← start, le-ltb c b le))

  -- .. or before it
  pub round-lower : c < b → RoundTo n m c (k - 1)
  round-lower lt = record { same = so_far.same ∙ round-step n k c some ∙ rw (← start, lt-ltb c b lt) }

pub round-first : (n m c k : ℕ) → RoundTo n m c k → k < 1 → 0 ≡ round_of n m c
unfolding round_of
round-first n m c k so_far h = let e : k ≡ 0 = omega arith in sym (so_far.same ∙ rw e)

-- ---- the d-th receiver

-- the list functions of the library and those of the rules
range-up_to : (n : ℕ) → range_with_len 0 n ≡ up_to n
unfolding up_to
range-up_to zero = refl
range-up_to (suc n) = let e : 0 + n ≡ n = omega arith in range-more 0 n ∙ rw (e, range-up_to n) refl

filter-keep : (P : ℕ → Bool) (xs : List ℕ) → filter P xs ≡ keep P xs
unfolding keep
filter-keep P [] = refl
filter-keep P (x ∷ xs) = rw (filter-keep P xs)

pub nth-is : (n sender : ℕ) (p : List ℕ) (d : ℕ) (o : Option ℕ) (x : ℕ) → x ≡ unwrap_or o 0
    → option_map (λ y. y) o ≡ slice_get (filter (receiver n sender p) (range_with_len 0 n)) d → x ≡ get_or (receivers n sender p) d 0
unfolding receivers
nth-is n sender p d o x its found =
    let all = filter-keep (receiver n sender p) (range_with_len 0 n) in
    its ∙ ap (λ o. unwrap_or o 0) (sym (option_map_id o) ∙ found) ∙ unwrap_or-slice_get (filter (receiver n sender p) (range_with_len 0 n)) d 0
    ∙ rw (all, range-up_to n)

-- ---- one number more in a row

-- it stands in the first place beyond the others
row-push : (p : List ℕ) (a : ℕ) → length p < 4 → ◌≡◌ {A = R.Route} (record { nodes = set (row_of_route p).nodes (length p) a; len = suc (length p) }) (row_of_route (a ∷ p))
unfolding row_of_route written
row-push p a h =
    let rest = 4 - suc (length p) in
    let e : 4 - length p ≡ suc rest = omega arith in
    let nodes : set (row_of_route p).nodes (length p) a ≡ (row_of_route (a ∷ p)).nodes =
    rw e (set_at (written p) 0 (replicate rest 0) a (length p) (length-written p) ∙ sym (append_assoc (written p) (a ∷ []) (replicate rest 0))) in
    λ i. record { nodes = nodes i; len = suc (length p) }

-- the shorter route fills no more than the four places
pub place_short : (n sender len c : ℕ) (r : R.Route) → len ≤ 4 → r ≡ row_of_route (unrank n sender (len - 1) c) → r.len ≤ 4
unfolding row_of_route
place_short n sender len c r most e = rw e (omega (arith, length-unrank n sender (len - 1) c))

pub place-more : (n sender len place a : ℕ) (r : R.Route) → (len ≡ 0 → ⊥) → len ≤ 4
    → r ≡ row_of_route (unrank n sender (len - 1) (place / (n - 1 - (len - 1))))
    → a ≡ get_or (receivers n sender (held r)) (place % (n - 1 - (len - 1))) 0
    → ◌≡◌ {A = R.Route} (record { nodes = set r.nodes (len - 1) a; len = len }) (row_of_route (unrank n sender len place))
unfolding unrank
place-more n sender zero place a r some most er ea = absurd (some refl)
place-more n sender (suc k) place a r some most er ea =
    let p = unrank n sender k (place / (n - 1 - k)) in
    let one : suc k - 1 ≡ k = omega arith in
    let long : length p ≡ k = length-unrank n sender k (place / (n - 1 - k)) in
    let er' : r ≡ row_of_route p = rw one at er in
    let ea' : a ≡ get_or (receivers n sender p) (place % (n - 1 - k)) 0 = rw (one, er', held-row) at ea in
    rw (one, er', ← ea') (rw long at (row-push p a (omega arith)))

-- ---- the route of a cell

-- a cell stands at its round's start or after it
start-below : (n m c : ℕ) → cells_before n (round_of n m c) ≤ c
unfolding round_of cells_before
start-below n zero c = omega arith
start-below n (suc m) c =
    by-test (ltb c (cells_before n (suc m)))
    (λ (t : ltb c (cells_before n (suc m)) ≡ true). rw t (start-below n m c))
    (λ (t : ltb c (cells_before n (suc m)) ≡ false). rw t (ltb-false c (cells_before n (suc m)) t))

module _ (n m c round : ℕ) (its : round ≡ round_of n m c) where
  pub round-below : round ≤ m
  round-below = rw its (round-most n m c)

  module _ (b : ℕ) (start : b ≡ cells_before n round) where
    pub place-in-round : b ≤ c
    place-in-round = rw (start, its) (start-below n m c)

    pub route-is : (sender : ℕ) (r : R.Route) → r ≡ row_of_route (unrank n sender (round + 1) (c - b)) → r ≡ row_of_route (route_at n m sender c)
    unfolding route_at
    route-is sender r e = e ∙ rw (start, its, add-one)
