-- Any two results that a contract allows are equal: of each function that a caller or another file of this crate names.
use mathlib.Core.Path.{◌≡◌, sym, ◌∙◌}
use Prim.Native.Nat.{ℕ, suc, ◌+◌, ◌*◌, ◌<◌}
use Rattle.std.proofs.Math.Path.{to_path_p}
use Rattle.std.proofs.Math.Bridge.{le_prop}
use Rattle.routes.specs.Needs.{Depth}
use contract.Lifetimes.{Lfts}
use denote.Triple.Clauses.{AtExit}
use borrow.Fn.Kinds.{Dens, res_t, ended_of}
use Rattle.rules.specs.Routes.{held}
use Rattle.rules.specs.Cells.{cell, cells_before, route_at}
use Rattle.rules.specs.Refusals.{first, route_refusal, cell_refusal, part_refusal}
use Rattle.rules.specs.Answers.{row_of_route}
use Rattle.rules.proofs.Results.{OneResult, one-answer, number_in, one-number}
use Rattle.conversions.specs.Among.{network_reasons, Among}
use Rattle.conversions.specs.declared.network.Network as N
use Rattle.conversions.proofs.network.Network.judged.Reads as judged
use Rattle.conversions.proofs.network.Network.judged.Kinds as judged-kinds
use Rattle.conversions.proofs.network.Network.route_at.Reads as route-at
use Rattle.conversions.proofs.network.Network.route_at.Kinds as route-at-kinds
use Rattle.conversions.proofs.network.Network.round_of.Reads as round-of
use Rattle.conversions.proofs.network.Network.round_of.Kinds as round-of-kinds
use Rattle.conversions.proofs.network.Network.route_at_place.Reads as route-at-place
use Rattle.conversions.proofs.network.Network.route_at_place.Kinds as route-at-place-kinds
use Rattle.conversions.proofs.asked.cell_of_route.Reads as cell-of-route
use Rattle.conversions.proofs.asked.cell_of_route.Kinds as cell-of-route-kinds
use Rattle.conversions.proofs.asked.route_of_cell.Reads as route-of-cell
use Rattle.conversions.proofs.asked.route_of_cell.Kinds as route-of-cell-kinds
use Rattle.conversions.proofs.asked.round_place.Reads as round-place
use Rattle.conversions.proofs.asked.round_place.Kinds as round-place-kinds
use Rattle.conversions.proofs.asked.round_part.Reads as round-part
use Rattle.conversions.proofs.asked.round_part.Kinds as round-part-kinds

-- field by field, and what is known of them is known in one way
depth-once : (n k : ℕ) (a b : Depth n k) → a ≡ b
depth-once n k a b = λ i. record { few = le_prop a.few b.few i; deep = le_prop a.deep b.deep i; below = le_prop a.below b.below i }

same-network : (n m sender : ℕ) (x y : N.Network) → Among n m sender x → Among n m sender y → x ≡ y
same-network n m sender x y p q =
    let nodes = p.0 ∙ sym q.0 in
    let rounds = p.1 ∙ sym q.1 in
    let node = p.2 ∙ sym q.2 in
    λ i. record {
      n = nodes i;
      m = rounds i;
      sender = node i;
      deep = to_path_p (λ j. Depth (nodes j) (rounds j + 1)) (depth-once y.n (y.m + 1) (coe 0 1 (j. Depth (nodes j) (rounds j + 1)) x.deep) y.deep) i;
      node = to_path_p (λ j. node j < nodes j) (le_prop (coe 0 1 (j. node j < nodes j) x.node) y.node) i;
    }

pub one-judged : OneResult 0 judged-kinds.ps judged-kinds.r judged.Post
one-judged κs a x y s t p q = one-answer (first (network_reasons a.0 a.1.0 a.1.1.0)) (Among a.0 a.1.0 a.1.1.0) (same-network a.0 a.1.0 a.1.1.0) x y p q

pub one-route-at : OneResult 0 route-at-kinds.ps route-at-kinds.r route-at.Post
one-route-at κs a x y s t p q = p ∙ sym q

pub one-round-of : OneResult 0 round-of-kinds.ps round-of-kinds.r round-of.Post
one-round-of κs a x y s t p q = p ∙ sym q

pub one-route-at-place : OneResult 0 route-at-place-kinds.ps route-at-place-kinds.r route-at-place.Post
one-route-at-place κs a x y s t p q = p ∙ sym q

pub one-cell-of-route : OneResult 0 cell-of-route-kinds.ps cell-of-route-kinds.r cell-of-route.Post
one-cell-of-route κs a x y s t p q = one-answer (route_refusal a.0 a.1.0 a.1.1.0 a.1.1.1.0) (λ c. c ≡ cell a.0 a.1.1.0 (held a.1.1.1.0)) (λ i j f g. f ∙ sym g) x y p q

pub one-route-of-cell : OneResult 0 route-of-cell-kinds.ps route-of-cell-kinds.r route-of-cell.Post
one-route-of-cell κs a x y s t p q =
    one-answer (cell_refusal a.0 a.1.0 a.1.1.0 a.1.1.1.0) (λ r. r ≡ row_of_route (route_at a.0 a.1.0 a.1.1.0 a.1.1.1.0)) (λ i j f g. f ∙ sym g) x y p q

pub one-round-place : OneResult 0 round-place-kinds.ps round-place-kinds.r round-place.Post
one-round-place κs a x y s t p q =
    one-answer (part_refusal a.0 a.1.0 a.1.1.0 a.1.1.1.0)
    (λ p. (p.start ≡ 2 * cells_before a.0 a.1.1.1.0) × (p.end ≡ 2 * cells_before a.0 (suc a.1.1.1.0)))
    (λ i j f g k. record { start = (f.0 ∙ sym g.0) k; end = (f.1 ∙ sym g.1) k }) x y p q

-- ---- the number that is answered: 0 beside a value

-- for a route
pub one-route-refusal : (κs : Lfts 0) (a : Dens κs cell-of-route-kinds.ps) (x y : (res_t cell-of-route-kinds.r κs).Denot) (s t : AtExit (ended_of 0 cell-of-route-kinds.ps cell-of-route-kinds.r) κs)
    → cell-of-route.Post κs a x s → cell-of-route.Post κs a y t → number_in x ≡ number_in y
one-route-refusal κs a x y s t p q = one-number _ _ x p ∙ sym (one-number _ _ y q)

-- for a cell
pub one-cell-refusal : (κs : Lfts 0) (a : Dens κs route-of-cell-kinds.ps) (x y : (res_t route-of-cell-kinds.r κs).Denot) (s t : AtExit (ended_of 0 route-of-cell-kinds.ps route-of-cell-kinds.r) κs)
    → route-of-cell.Post κs a x s → route-of-cell.Post κs a y t → number_in x ≡ number_in y
one-cell-refusal κs a x y s t p q = one-number _ _ x p ∙ sym (one-number _ _ y q)

-- and for a round
pub one-round-refusal : (κs : Lfts 0) (a : Dens κs round-place-kinds.ps) (x y : (res_t round-place-kinds.r κs).Denot) (s t : AtExit (ended_of 0 round-place-kinds.ps round-place-kinds.r) κs)
    → round-place.Post κs a x s → round-place.Post κs a y t → number_in x ≡ number_in y
one-round-refusal κs a x y s t p q = one-number _ _ x p ∙ sym (one-number _ _ y q)

-- ---- the part that is lent on

-- The part of a table is the same bytes at the same place. A reference has one thing more, the name under which proofs follow its
-- content; it is nothing that a program can see, and no contract speaks of it.
pub one-round-part : (κs : Lfts 1) (a : Dens κs round-part-kinds.ps) (x y : (res_t round-part-kinds.r κs).Denot) (s t : AtExit (ended_of 1 round-part-kinds.ps round-part-kinds.r) κs)
    → round-part.Post κs a x s → round-part.Post κs a y t → (x.now ≡ y.now) × (x.ref_ptr ≡ y.ref_ptr)
one-round-part κs a x y s t p q = (p.0 ∙ sym q.0, p.1 ∙ sym q.1)
