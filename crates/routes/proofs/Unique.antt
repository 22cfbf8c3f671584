-- Any two results that a contract allows are equal: of each public function.
use mathlib.Core.Path.{sym, ◌∙◌}
use Rattle.rules.proofs.Results.{OneResult}
use Rattle.routes.proofs.row.extended.Reads as extended
use Rattle.routes.proofs.row.extended.Kinds as extended-kinds
use Rattle.routes.proofs.row.shortened.Reads as shortened
use Rattle.routes.proofs.row.shortened.Kinds as shortened-kinds
use Rattle.routes.proofs.row.teller_of.Reads as teller-of
use Rattle.routes.proofs.row.teller_of.Kinds as teller-of-kinds
use Rattle.routes.proofs.row.receives.Reads as receives
use Rattle.routes.proofs.row.receives.Kinds as receives-kinds
use Rattle.routes.proofs.row.is_route.Reads as is-route
use Rattle.routes.proofs.row.is_route.Kinds as is-route-kinds
use Rattle.routes.proofs.numbering.cells_before.Reads as cells-before
use Rattle.routes.proofs.numbering.cells_before.Kinds as cells-before-kinds
use Rattle.routes.proofs.numbering.cell_at.Reads as cell-at
use Rattle.routes.proofs.numbering.cell_at.Kinds as cell-at-kinds

pub one-extended : OneResult 0 extended-kinds.ps extended-kinds.r extended.Post
one-extended κs a x y s t p q = p ∙ sym q

pub one-shortened : OneResult 0 shortened-kinds.ps shortened-kinds.r shortened.Post
one-shortened κs a x y s t p q = p ∙ sym q

pub one-teller-of : OneResult 0 teller-of-kinds.ps teller-of-kinds.r teller-of.Post
one-teller-of κs a x y s t p q = p ∙ sym q

pub one-receives : OneResult 0 receives-kinds.ps receives-kinds.r receives.Post
one-receives κs a x y s t p q = p ∙ sym q

pub one-is-route : OneResult 0 is-route-kinds.ps is-route-kinds.r is-route.Post
one-is-route κs a x y s t p q = p ∙ sym q

pub one-cells-before : OneResult 0 cells-before-kinds.ps cells-before-kinds.r cells-before.Post
one-cells-before κs a x y s t p q = p ∙ sym q

pub one-cell-at : OneResult 0 cell-at-kinds.ps cell-at-kinds.r cell-at.Post
one-cell-at κs a x y s t p q = p ∙ sym q
