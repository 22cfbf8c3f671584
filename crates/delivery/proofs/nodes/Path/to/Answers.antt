-- `delivery::nodes::Path::to`: one number, and the set of it.
use Rattle.delivery.proofs.Marks
use Rattle.delivery.proofs.nodes.Path.to.Goals as goal

pub invariant_of-result : goal.invariant_of-result
invariant_of-result c = record { marks = Marks.marks-one _ _ _ c.with.ensures }
