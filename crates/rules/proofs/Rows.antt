-- A route as a row of places and as the list that is held, last number first: each is had from the other.
use mathlib.Core.Path.{◌≡◌, refl, ap, ◌∙◌}
use mathlib.Core.List.{List, [], ◌∷◌, ◌++◌, append_assoc}
use Prim.Native.Nat.{ℕ, zero, suc, ◌+◌, ◌-◌, ◌≤◌, ◌<◌}
use native.Mathlib.Numerals.{sub-one}
use native.Mathlib.Omega.{arith}
use lib.ListN.{length, length-append, take, get_or, replicate, length-replicate, get_or-replicate}
use lib.Seq.{take-suc, get_or_at, get_or-append-add}
use Rattle.rules.specs.Routes.{back, held, but_last, shorter, written}
use Rattle.rules.specs.Answers.{row_of_route}
use Rattle.rules.specs.declared.Route as R

-- the first k numbers of a row are k
pub length_back : (row : List ℕ) (k : ℕ) → length (back row k) ≡ k
unfolding back
length_back row zero = refl
length_back row (suc k) = ap suc (length_back row k)

-- writing a route down keeps its length
pub length-written : (p : List ℕ) → length (written p) ≡ length p
unfolding written
length-written [] = refl
length-written (a ∷ p) = rw length-append (omega (arith, length-written p))

-- written again, a given route is the row up to its length
pub written_back : (row : List ℕ) (k : ℕ) → k ≤ length row → written (back row k) ≡ take k row
unfolding back written
written_back row zero h = refl
written_back row (suc k) h = rw (take-suc row k 0 h, written_back row k (omega arith))

-- one number more is read in front of those read so far
back-none : (row : List ℕ) → back row 0 ≡ []
unfolding back
back-none row = refl

back-more : (row p : List ℕ) (k a : ℕ) → get_or row k 0 ≡ a → back row k ≡ p → back row (suc k) ≡ a ∷ p
unfolding back
back-more row p k a number others = rw (number, others)

-- held again, a written route is the route, whatever stands behind it in the row
back-written : (p rest : List ℕ) → back (written p ++ rest) (length p) ≡ p
unfolding written
back-written [] rest = back-none rest
back-written (a ∷ p) rest =
    let row : written (a ∷ p) ++ rest ≡ written p ++ (a ∷ rest) = append_assoc (written p) (a ∷ []) rest in
    let number : get_or (written p ++ (a ∷ rest)) (length p) 0 ≡ a = get_or_at (written p) a rest 0 (length p) (length-written p) in
    let long : back (written p ++ (a ∷ rest)) (suc (length p)) ≡ a ∷ p =
    back-more (written p ++ (a ∷ rest)) p (length p) a number (back-written p (a ∷ rest)) in
    ap (λ w. back w (suc (length p))) row ∙ long

-- a returned route is the route that was found
pub held-row : (p : List ℕ) → held (row_of_route p) ≡ p
unfolding row_of_route
held-row p = back-written p _

-- the row has four places,
pub row-places : (p : List ℕ) → length p ≤ 4 → length (row_of_route p).nodes ≡ 4
unfolding row_of_route
row-places p short = rw (length-append, length-written p, length-replicate) (omega arith)

-- and those beyond the route are 0
pub row-beyond : (p : List ℕ) (i : ℕ) → length p ≤ i → i < 4 → get_or (row_of_route p).nodes i 1 ≡ 0
unfolding row_of_route
row-beyond p i from below =
    let place : i ≡ length (written p) + (i - length p) = omega (arith, length-written p) in
    rw place (get_or-append-add (written p) (replicate (4 - length p) 0) (i - length p) 1 ∙ get_or-replicate (4 - length p) (i - length p) 0 1 (omega arith))

-- the row of one number fewer is the route without its last number
pub held-shorter : (r : R.Route) → held (shorter r) ≡ but_last (held r)
unfolding back
held-shorter r = shortened r.nodes r.len
  where
    shortened : (row : List ℕ) (k : ℕ) → back row (k - 1) ≡ but_last (back row k)
    shortened row zero = refl
    shortened row (suc k) = rw sub-one
