-- Any two results that an exported contract allows are equal, and so is the later content of the lent row.
use mathlib.Core.Path.{◌≡◌, sym, ◌∙◌}
use contract.Lifetimes.{Lfts}
use denote.Triple.Clauses.{AtExit}
use borrow.Fn.Kinds.{Dens, res_t, ended_of}
use Rattle.rules.proofs.Results.{OneResult}
use Rattle.host_c.proofs.tsegumbar_exchange.Reads as exchange
use Rattle.host_c.proofs.tsegumbar_exchange.Kinds as exchange-kinds
use Rattle.host_c.proofs.tsegumbar_vote.Reads as vote
use Rattle.host_c.proofs.tsegumbar_vote.Kinds as vote-kinds
use Rattle.host_c.proofs.tsegumbar_cell_of_route.Reads as cell-of-route
use Rattle.host_c.proofs.tsegumbar_cell_of_route.Kinds as cell-of-route-kinds
use Rattle.host_c.proofs.tsegumbar_route_of_cell.Reads as route-of-cell
use Rattle.host_c.proofs.tsegumbar_route_of_cell.Kinds as route-of-cell-kinds
use Rattle.host_c.proofs.tsegumbar_round_part.Reads as round-part
use Rattle.host_c.proofs.tsegumbar_round_part.Kinds as round-part-kinds

pub one-summary : OneResult 2 exchange-kinds.ps exchange-kinds.r exchange.Post
one-summary κs a x y s t p q = p.0 ∙ sym q.0

pub one-row : (κs : Lfts 2) (a : Dens κs exchange-kinds.ps) (x y : (res_t exchange-kinds.r κs).Denot) (s t : AtExit (ended_of 2 exchange-kinds.ps exchange-kinds.r) κs)
    → exchange.Post κs a x s → exchange.Post κs a y t → s.1.1.1.1.1.1.1.0.now ≡ t.1.1.1.1.1.1.1.0.now
one-row κs a x y s t p q = p.1 ∙ sym q.1

pub one-vote : OneResult 1 vote-kinds.ps vote-kinds.r vote.Post
one-vote κs a x y s t p q = p ∙ sym q

pub one-cell-of-route : OneResult 0 cell-of-route-kinds.ps cell-of-route-kinds.r cell-of-route.Post
one-cell-of-route κs a x y s t p q = p ∙ sym q

pub one-route-of-cell : OneResult 0 route-of-cell-kinds.ps route-of-cell-kinds.r route-of-cell.Post
one-route-of-cell κs a x y s t p q = p ∙ sym q

pub one-round-part : OneResult 1 round-part-kinds.ps round-part-kinds.r round-part.Post
one-round-part κs a x y s t p q = p ∙ sym q
