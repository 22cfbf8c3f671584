use Rattle.std.proofs.Common.{◌≡◌}
use Rattle.rules.specs.Routes.{back}
use Rattle.rules.specs.Cells.{digit}
use Rattle.routes.proofs.numbering.digit_of.Given as goal

abbrev pub invariant-loop-used : goal.invariant-loop-used
invariant-loop-used l = l.digits ≡ digit l.fn.sender (back l.fn.r.nodes l.used-index) l.a
