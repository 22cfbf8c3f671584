-- `routes::row::receives`: one of n, not the sender, and none of the first numbers of the row.
use Rattle.std.proofs.Common.{rules, tests, arith, ◌≡◌, length, take, not}
use lib.Dec.{eqb}
use Rattle.std.proofs.lemmas.Iterator.{YieldsList-from_slice}
use Rattle.std.proofs.lemmas.Iterator.Search.{all_from_yields_List}
use Rattle.routes.proofs.Given.{too-high, is-sender, may-receive}
use Rattle.routes.proofs.row.receives.Goals.{then-x-n, else-x-n}
use Rattle.routes.proofs.row.receives.Goals as goal

pub returns-then-x-sender : goal.returns-then-x-sender
returns-then-x-sender c =
    let four : length c.args.r.nodes ≡ 4 = search rules in
    may-receive _ _ _ _ _ _ c.if-x-sender.true.0 c.if-x-sender.true.1 (omega arith)
    (all_from_yields_List (λ y. not (eqb y c.args.x)) _ _ _ c.all.ensures.ran (YieldsList-from_slice (take c.args.k c.args.r.nodes) c.iter.ensures.rest) (λ y b q h. search (rules, tests)))

pub returns-else-x-sender : goal.returns-else-x-sender
returns-else-x-sender c = elim c.if-x-n.branch [ then-x-n w ↦ is-sender _ _ _ _ _ _ (search rules) w.t-9-is | else-x-n w ↦ too-high _ _ _ _ _ _ w.if-x-n.false w.t-9-is ]
