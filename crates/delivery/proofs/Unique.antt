-- Any two results that a public contract allows are equal.
use Prim.Native.Nat.{ℕ}
use mathlib.Core.Path.{◌≡◌, sym, ap, ◌∙◌}
use contract.Lifetimes.{Lfts}
use denote.Triple.Clauses.{AtExit}
use borrow.Fn.Kinds.{Dens, res_t, ended_of}
use Rattle.rules.proofs.Results.{OneResult}
use Rattle.delivery.specs.declared.nodes.Nodes.{Nodes}
use Rattle.delivery.specs.declared.nodes.Path.{Path}
use Rattle.delivery.proofs.nodes.Nodes.contains.Reads as contains
use Rattle.delivery.proofs.nodes.Nodes.contains.Kinds as contains-kinds
use Rattle.delivery.proofs.nodes.Nodes.with.Reads as with
use Rattle.delivery.proofs.nodes.Nodes.with.Kinds as with-kinds
use Rattle.delivery.proofs.nodes.Nodes.meets.Reads as meets
use Rattle.delivery.proofs.nodes.Nodes.meets.Kinds as meets-kinds
use Rattle.delivery.proofs.nodes.Path.to.Reads as to
use Rattle.delivery.proofs.nodes.Path.to.Kinds as to-kinds
use Rattle.delivery.proofs.nodes.Path.extended.Reads as extended
use Rattle.delivery.proofs.nodes.Path.extended.Kinds as extended-kinds
use Rattle.delivery.proofs.told.Messages.faulty.Reads as faulty
use Rattle.delivery.proofs.told.Messages.faulty.Kinds as faulty-kinds
use Rattle.delivery.proofs.told.Messages.delivered.Reads as delivered
use Rattle.delivery.proofs.told.Messages.delivered.Kinds as delivered-kinds
use Rattle.delivery.proofs.told.Messages.arrives.Reads as arrives
use Rattle.delivery.proofs.told.Messages.arrives.Kinds as arrives-kinds
use Rattle.delivery.proofs.told.Messages.relayed.Reads as relayed
use Rattle.delivery.proofs.told.Messages.relayed.Kinds as relayed-kinds

pub one-in-mask : OneResult 0 contains-kinds.ps contains-kinds.r contains.Post
one-in-mask κs a x y s t p q = p ∙ sym q

pub one-marked : OneResult 0 with-kinds.ps with-kinds.r with.Post
one-marked κs a x y s t p q = ap set_of (p ∙ sym q)
  where
    set_of : ℕ → Nodes
    set_of n = record { 0 = n }

pub one-meets : OneResult 0 meets-kinds.ps meets-kinds.r meets.Post
one-meets κs a x y s t p q = p ∙ sym q

-- of a path the route and the word of its set: it has nothing else but a proof about the two
abbrev pub Alike : Path → Path → Type 0
Alike x y = (x.route ≡ y.route) × (x.used.0 ≡ y.used.0)

pub one-to : (κs : Lfts 0) (a : Dens κs to-kinds.ps) (x y : (res_t to-kinds.r κs).Denot) (s t : AtExit (ended_of 0 to-kinds.ps to-kinds.r) κs)
    → to.Post κs a x s → to.Post κs a y t → Alike x y
one-to κs a x y s t p q = (p.0 ∙ sym q.0, p.1 ∙ sym q.1)

pub one-extended : (κs : Lfts 0) (a : Dens κs extended-kinds.ps) (x y : (res_t extended-kinds.r κs).Denot) (s t : AtExit (ended_of 0 extended-kinds.ps extended-kinds.r) κs)
    → extended.Post κs a x s → extended.Post κs a y t → Alike x y
one-extended κs a x y s t p q = (p.0 ∙ sym q.0, p.1 ∙ sym q.1)

pub one-faulty : OneResult 2 faulty-kinds.ps faulty-kinds.r faulty.Post
one-faulty κs a x y s t p q = p ∙ sym q

pub one-delivered : OneResult 2 delivered-kinds.ps delivered-kinds.r delivered.Post
one-delivered κs a x y s t p q = p ∙ sym q

pub one-arrives : OneResult 2 arrives-kinds.ps arrives-kinds.r arrives.Post
one-arrives κs a x y s t p q = p ∙ sym q

pub one-relayed : OneResult 2 relayed-kinds.ps relayed-kinds.r relayed.Post
one-relayed κs a x y s t p q = p ∙ sym q
