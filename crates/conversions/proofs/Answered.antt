-- What a host is answered: what a judged network leaves to the code, and where a part of a table lies, also where the call is refused.
use mathlib.Core.Path.{◌≡◌, refl, sym}
use mathlib.Core.Bool.{true, false}
use mathlib.Core.List.{List}
use lib.ListN.{length, take, drop}
use lib.Dec.{eqb}
use Rattle.rules.proofs.Counting.{by-test}
use Rattle.std.specs.Prelude.{Result, Ok, Err}
use Rattle.std.specs.declared.ops.Range.{Range}
use Rattle.std.specs.Result.{result_unwrap_or}
use Prim.Native.Nat.{ℕ, suc, ◌+◌, ◌*◌, ◌-◌, ◌≤◌}
use native.Mathlib.Omega.{arith}
use borrow.Author.Tests.{ne_eqb, eqb-true}
use mir.Syntax.{w32}
use mir.Val.{Fits}
use Rattle.rules.specs.Routes.{held, is_route}
use Rattle.rules.specs.Cells.{cells_before, cells, cell, route_at}
use Rattle.rules.specs.Refusals.{first, layout_reasons, route_refusal, part_refusal}
use Rattle.rules.specs.Numbers.{number_of, RefusedOr}
use Rattle.rules.specs.Answers.{row_of_route, part_found, part_of}
use Rattle.rules.specs.declared.Refusal.{Refusal}
use Rattle.rules.specs.declared.Route as R
use Rattle.rules.proofs.Numbering.{route-is, cell-lt, cells-ascend}
use Rattle.rules.proofs.Numbers.{number-some}
use Rattle.rules.proofs.Rows.{length_back}
use Rattle.rules.proofs.Accepted.{part-accepted}
use Rattle.rules.proofs.Growth.{cells-most}
use Rattle.routes.specs.Needs.{Depth, Numbered}
use Rattle.conversions.specs.Among.{network_reasons, Among}
use Rattle.conversions.specs.declared.network.Network as N
use Rattle.conversions.proofs.Judged

-- ---- route to cell

module _ (n m sender : ℕ) (w : N.Network) (judged : (first (network_reasons n m sender) ≡ 0) × Among n m sender w) (r : R.Route) where
  pub not-a-route : false ≡ is_route w.n m w.sender (held r) → 13 ≡ route_refusal n m sender r
  not-a-route e = let (pass, (its, rounds, node)) = judged in Judged.route-refused n m sender pass r (rw (its, node) at e)

  module _ (given : true ≡ is_route w.n m w.sender (held r)) where
    pub route-passes : route_refusal n m sender r ≡ 0
    route-passes = let (pass, (its, rounds, node)) = judged in Judged.route-taken n m sender pass r (rw (its, node) at given)

    pub route-numbered : Numbered w.n w.sender r
    route-numbered =
        let route = route-is w.n m w.sender (held r) (sym given) in
        let d = w.deep in
        let l = length_back r.nodes r.len in
        let rounds = judged.1.1 in
        record { few = d.few; sender = w.node; some = omega arith; most = omega arith; wide = omega arith; path = route.path }

    module _ (c : ℕ) (found : c ≡ cell w.n w.sender (held r)) where
      pub cell-found : c ≡ cell n sender (held r)
      cell-found = let (pass, (its, rounds, node)) = judged in rw (its, node) at found

      pub cell-fits-word : Fits w32 c
      unfolding cells
      cell-fits-word =
          let d = w.deep in
          record { fits = omega (arith, judged.1.1, cell-lt w.n w.sender w.node m (held r) (sym given), cells-most w.n (m + 1) (cells w.n m) refl d.few (omega (arith, judged.1.1))) }

-- ---- cell to route

module _ (n m sender : ℕ) (w : N.Network) (judged : (first (network_reasons n m sender) ≡ 0) × Among n m sender w) where
  pub all-cells : Depth n (m + 1)
  all-cells = let (pass, (its, rounds, node)) = judged in rw (its, rounds) at w.deep

  pub route-found : (c : ℕ) (r : R.Route) → r ≡ row_of_route (route_at w.n w.m w.sender c) → r ≡ row_of_route (route_at n m sender c)
  route-found c r e = let (pass, (its, rounds, node)) = judged in rw (its, rounds, node) at e

-- ---- one round's part of a table

-- what rounds 0 to m leave to use of a round among them
module _ (n m round : ℕ) (pass : first (layout_reasons n m) ≡ 0) (below : round ≤ m) where
  pub start-depth : Depth n round
  start-depth = let d = Judged.all-rounds n m pass in record { few = d.few; deep = omega arith; below = omega arith }

  pub end-depth : Depth n (round + 1)
  end-depth = let d = Judged.all-rounds n m pass in record { few = d.few; deep = omega arith; below = omega arith }

-- bytes for so many cells fit a word
module _ (n k b : ℕ) (depth : Depth n k) (its : b ≡ cells_before n k) where
  pub bytes-most : 2 * b ≤ 52808
  bytes-most = omega (arith, cells-most n k b its depth.few depth.deep)

-- the part starts before it ends, and ends within the table, also where it is empty
module _ (n m bytes round : ℕ) where
  part-bounds : ((part_found n m bytes round).start ≤ (part_found n m bytes round).end) × ((part_found n m bytes round).end ≤ bytes)
  unfolding part_found cells
  part-bounds =
      by-test (eqb (part_refusal n m bytes round) 0)
      (λ (e : eqb (part_refusal n m bytes round) 0 ≡ true).
      let a = (part-accepted n m bytes round).0 (eqb-true (part_refusal n m bytes round) 0 e) in
      let inside = cells-ascend n (suc round) (m + 1) (omega (arith, a.round-below)) in
      rw e (omega (arith, cells-ascend n round (suc round) (omega arith)), omega (arith, inside, a.table_is)))
      (λ (e : eqb (part_refusal n m bytes round) 0 ≡ false). rw e (omega arith, omega arith))

  -- what is answered of a place, and an empty one where nothing is
  module _ (x : Result (Range ℕ) Refusal)
      (placed : RefusedOr (part_refusal n m bytes round) (λ p. (p.start ≡ 2 * cells_before n round) × (p.end ≡ 2 * cells_before n (suc round))) x)
      (p : Range ℕ) (its : p ≡ result_unwrap_or x (record { start = 0; end = 0 })) where
    pub place-is : (p.start ≡ (part_found n m bytes round).start) × (p.end ≡ (part_found n m bytes round).end)
    unfolding part_found
    place-is = go x placed its
      where
        go : (x : Result (Range ℕ) Refusal) → RefusedOr (part_refusal n m bytes round) (λ p. (p.start ≡ 2 * cells_before n round) × (p.end ≡ 2 * cells_before n (suc round))) x
            → p ≡ result_unwrap_or x (record { start = 0; end = 0 }) → (p.start ≡ (part_found n m bytes round).start) × (p.end ≡ (part_found n m bytes round).end)
        go (Ok a) h e = rw (e, h.0, h.1.0, h.1.1) (refl, refl)
        go (Err r) h e = rw (e, ← h, ne_eqb (number_of r) 0 (number-some r)) (refl, refl)

    pub part-ordered : p.start ≤ p.end
    part-ordered = omega (arith, place-is, part-bounds.0)

    pub part-inside : p.end ≤ bytes
    part-inside = omega (arith, place-is, part-bounds.1)

-- and it is that part
pub part-is : (n m round : ℕ) (t : List ℕ) (a b : ℕ) → a ≡ (part_found n m (length t) round).start → b ≡ (part_found n m (length t) round).end → take (b - a) (drop a t) ≡ part_of n m t round
unfolding part_of
part-is n m round t a b ea eb = rw (ea, eb)
