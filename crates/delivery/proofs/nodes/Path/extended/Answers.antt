-- `delivery::nodes::Path::extended`: one number more, and the set with it.
use Rattle.delivery.proofs.Marks
use Rattle.delivery.proofs.nodes.Path.extended.Goals as goal

pub invariant_of-result : goal.invariant_of-result
invariant_of-result c = record { marks = Marks.marks-longer _ _ _ _ _ c.args.self.marks c.extended.ensures c.with.ensures }
