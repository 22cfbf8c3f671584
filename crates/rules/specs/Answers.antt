-- What the vote alone, the two conversions and one round's part return, refusals included.
use Rattle.std.specs.Prelude.{ℕ, suc, ◌*◌, ◌-◌, List, [], ◌++◌, false, cond, length, take, drop, replicate, eqb}
use Rattle.rules.specs.Words.{words_of}
use Rattle.rules.specs.Routes.{held, written}
use Rattle.rules.specs.Cells.{cells_before, cell, route_at}
use Rattle.rules.specs.Vote.{vote}
use Rattle.rules.specs.Refusals.{vote_refusal, route_refusal, cell_refusal, part_refusal}
use Rattle.rules.specs.declared.Route as R
use Rattle.rules.specs.declared.Ballot.{Ballot}
use Rattle.rules.specs.declared.CellFound.{CellFound}
use Rattle.rules.specs.declared.RouteFound.{RouteFound}
use Rattle.rules.specs.declared.RoundPart.{RoundPart}

-- the vote alone, over a list of bytes
unfoldable pub ballot_of : ℕ → List ℕ → Ballot
ballot_of q list =
    let k = vote_refusal q (length list) in
    let v = vote q (words_of list) in
    cond (eqb k 0) (record { refusal = 0; word = v.word; tie = v.tie }) (record { refusal = k; word = 0; tie = false })

-- route to cell
unfoldable pub cell_found : ℕ → ℕ → ℕ → R.Route → CellFound
cell_found n m sender r =
    let k = route_refusal n m sender r in
    cond (eqb k 0) (record { refusal = 0; cell = cell n sender (held r) }) (record { refusal = k; cell = 0 })

-- a route as a row of four places, 0 beyond its length
unfoldable pub row_of_route : List ℕ → R.Route
row_of_route p = record { nodes = written p ++ replicate (4 - length p) 0; len = length p }

-- cell to route
unfoldable pub route_found : ℕ → ℕ → ℕ → ℕ → RouteFound
route_found n m sender c =
    let k = cell_refusal n m sender c in
    cond (eqb k 0)
    (record { refusal = 0; route = row_of_route (route_at n m sender c) })
    (record { refusal = k; route = row_of_route [] })

-- where a round's cells start and end in a table of so many bytes, both 0 where the call is refused
unfoldable pub part_found : ℕ → ℕ → ℕ → ℕ → RoundPart
part_found n m table round =
    let k = part_refusal n m table round in
    cond (eqb k 0)
    (record { refusal = 0; start = 2 * cells_before n round; end = 2 * cells_before n (suc round) })
    (record { refusal = k; start = 0; end = 0 })

-- that part of a table
unfoldable pub part_of : ℕ → ℕ → List ℕ → ℕ → List ℕ
part_of n m table round =
    let p = part_found n m (length table) round in
    take (p.end - p.start) (drop p.start table)
