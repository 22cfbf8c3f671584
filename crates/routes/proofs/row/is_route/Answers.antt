-- `routes::row::is_route`: its length, and then number by number.
use Rattle.std.proofs.Common.{rules, arith}
use Rattle.std.proofs.lemmas.Iterator.{YieldsList-from_range}
use Rattle.std.proofs.lemmas.Iterator.Search.{all_from_yields_List}
use Rattle.routes.proofs.Given.{route-none, route-long, path-whole, mays}
use Rattle.routes.proofs.row.is_route.Goals.{then-r-eq0-via-then-r-eq0, then-r-eq0-via-else-r-eq0+then-r-m}
use Rattle.routes.proofs.row.is_route.Goals as goal

pub returns-then-r-eq0 : goal.returns-then-r-eq0
returns-then-r-eq0 c = elim c.then-r-eq0.branch [ then-r-eq0-via-then-r-eq0 w ↦ search route-none | then-r-eq0-via-else-r-eq0+then-r-m w ↦ search route-long ]

pub returns : goal.returns
returns c =
    path-whole _ _ _ _ _ (search rules) (search rules)
    (all_from_yields_List (mays c.args.n c.args.sender c.args.r.nodes) _ _ _ c.all.ensures.ran (YieldsList-from_range 0 c.args.r.len c.args.r.len (cc) (omega arith)) (λ x b q k. search rules))
