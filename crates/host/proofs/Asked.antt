-- What the answers of the other functions promise, of any call that keeps their contracts: which number is returned and when, and
-- what stands beside it.
use mathlib.Core.Path.{◌≡◌, refl, sym, ap, ◌∙◌}
use mathlib.Core.Logic.{◌↔◌, ◌≢◌}
use mathlib.Core.Bool.{true, false}
use mathlib.Core.List.{List, [], ◌∷◌}
use Prim.Native.Nat.{ℕ, suc, ◌*◌, ◌≤◌, ◌<◌}
use native.Mathlib.Omega.{arith}
use lib.ListN.{length}
use Rattle.rules.specs.Words.{words_of}
use Rattle.rules.specs.Vote.{vote}
use Rattle.rules.specs.Routes.{held}
use Rattle.rules.specs.Cells.{cells_before, cell, route_at}
use Rattle.rules.specs.Refusals.{vote_reasons, route_reasons, cell_reasons, part_reasons, vote_refusal, route_refusal, cell_refusal, part_refusal}
use Rattle.rules.specs.Answers.{cell_found, row_of_route, route_found}
use Rattle.rules.specs.declared.Route as R
use Rattle.rules.specs.declared.Ballot.{Ballot}
use Rattle.rules.specs.declared.CellFound.{CellFound}
use Rattle.rules.specs.declared.RouteFound.{RouteFound}
use Rattle.rules.specs.declared.RoundPart.{RoundPart}
use Rattle.rules.proofs.Voting.{Alone, Tied, Turnout, outcome, vote-is, vote-value, vote-tie}
use Rattle.rules.proofs.Inverse.{CellOf, round_filled}
use Rattle.rules.proofs.Refused.{Lowest}
use Rattle.rules.proofs.Accepted.{VoteAccepted, RouteAccepted, CellAccepted, PartAccepted}
use Rattle.rules.proofs.Refused
use Rattle.rules.proofs.Accepted
use Rattle.rules.proofs.Returned
use Rattle.rules.proofs.Conversions
use Rattle.host.proofs.Calls.{Call, number_is, exactly}
use Rattle.host.proofs.tsegumbar_vote.Reads as cast-vote
use Rattle.host.proofs.tsegumbar_vote.Kinds as cast-vote-kinds
use Rattle.host.proofs.tsegumbar_cell_of_route.Reads as cell-of-route
use Rattle.host.proofs.tsegumbar_cell_of_route.Kinds as cell-of-route-kinds
use Rattle.host.proofs.tsegumbar_route_of_cell.Reads as route-of-cell
use Rattle.host.proofs.tsegumbar_route_of_cell.Kinds as route-of-cell-kinds
use Rattle.host.proofs.tsegumbar_round_part.Reads as round-part
use Rattle.host.proofs.tsegumbar_round_part.Kinds as round-part-kinds

-- ---- the vote

abbrev pub Vote : Type 0
Vote = Call 1 cast-vote-kinds.ps cast-vote-kinds.r cast-vote.Post

module _ (c : Vote) where
  abbrev pub quota : ℕ
  quota = c.args.0

  abbrev pub list : List ℕ
  list = c.args.1.0.now

  abbrev pub ballot : Ballot
  ballot = c.result

  -- the number that the definitions give
  abbrev pub vote-due : ℕ
  vote-due = vote_refusal quota (length list)

  pub vote-number : ballot.refusal ≡ vote-due
  vote-number = number_is (λ (x : Ballot). x.refusal) vote-due c.contract (Returned.ballot-cast quota list) (Returned.ballot-refused quota list) refl refl

  -- it is k, which is not 0, exactly when k's condition holds and nothing lower does: 11, threshold 0; 12, an odd number of bytes
  pub vote-turned-away : (k : ℕ) → k ≢ 0 → (ballot.refusal ≡ k) ↔ Lowest k (vote_reasons quota (length list))
  vote-turned-away k some = exactly vote-number (Refused.vote-refused k quota (length list) some)

  pub vote-accepted : (ballot.refusal ≡ 0) ↔ VoteAccepted quota (length list)
  vote-accepted = exactly vote-number (Accepted.vote-accepted quota (length list))

  pub vote-refused : ballot.refusal ≢ 0 → ◌≡◌ {A = Ballot} ballot (record { refusal = vote-due; word = 0; tie = false })
  vote-refused some = c.contract ∙ Returned.ballot-refused quota list (λ e. some (vote-number ∙ e))

  module _ (zero : ballot.refusal ≡ 0) where
    counted : ◌≡◌ {A = Ballot} ballot (record { refusal = 0; word = (vote quota (words_of list)).word; tie = (vote quota (words_of list)).tie })
    counted = c.contract ∙ Returned.ballot-cast quota list (sym vote-number ∙ zero)

    -- none, one or two values reach the threshold, and that decides the answer
    pub vote-answers : (t : Turnout quota (words_of list)) → ◌≡◌ {A = Ballot} ballot (record { refusal = 0; word = (outcome t).word; tie = (outcome t).tie })
    vote-answers t =
        let e = vote-is quota (words_of list) (vote-accepted.0 zero).positive t in
        counted ∙ (λ i. record { refusal = 0; word = (e i).word; tie = (e i).tie })

    -- a value other than the default is given exactly when it alone reaches the threshold
    pub vote-gives : (v : ℕ) → v ≢ 0 → (ballot ≡ record { refusal = 0; word = v; tie = false }) ↔ Alone quota (words_of list) v
    vote-gives v some =
        let exact = vote-value quota (words_of list) v (vote-accepted.0 zero).positive some in (
          λ e. exact.0 (λ i. record { word = ((sym counted ∙ e) i).word; tie = ((sym counted ∙ e) i).tie }),
          λ a. counted ∙ (λ i. record { refusal = 0; word = (exact.1 a i).word; tie = (exact.1 a i).tie }),
        )

    -- a tie is met exactly when two different values reach it
    pub vote-ties : (ballot.tie ≡ true) ↔ Tied quota (words_of list)
    vote-ties = exactly (ap (λ (x : Ballot). x.tie) counted) (vote-tie quota (words_of list) (vote-accepted.0 zero).positive)

-- ---- route to cell

abbrev pub CellOfRoute : Type 0
CellOfRoute = Call 0 cell-of-route-kinds.ps cell-of-route-kinds.r cell-of-route.Post

module _ (c : CellOfRoute) where
  abbrev pub route_nodes : ℕ
  route_nodes = c.args.0

  abbrev pub route_rounds : ℕ
  route_rounds = c.args.1.0

  abbrev pub route_sender : ℕ
  route_sender = c.args.1.1.0

  -- the four places and the length, as they were given
  abbrev pub route_given : R.Route
  route_given =
      let a = c.args.1.1.1 in
      record { nodes = a.0 ∷ a.1.0 ∷ a.1.1.0 ∷ a.1.1.1.0 ∷ []; len = a.1.1.1.1.0 }

  abbrev pub cell_answer : CellFound
  cell_answer = c.result

  abbrev pub route-due : ℕ
  route-due = route_refusal route_nodes route_rounds route_sender route_given

  pub route-number : cell_answer.refusal ≡ route-due
  route-number =
      number_is (λ (x : CellFound). x.refusal) route-due c.contract
      (Returned.cell-found route_nodes route_rounds route_sender route_given)
      (Returned.cell-not-found route_nodes route_rounds route_sender route_given) refl refl

  -- 1, 2, 4, 5 or 13, the lowest whose condition holds
  pub route-turned-away : (k : ℕ) → k ≢ 0 → (cell_answer.refusal ≡ k) ↔ Lowest k (route_reasons route_nodes route_rounds route_sender route_given)
  route-turned-away k some = exactly route-number (Refused.route-refused k route_nodes route_rounds route_sender route_given some)

  pub route-accepted : (cell_answer.refusal ≡ 0) ↔ RouteAccepted route_nodes route_rounds route_sender route_given
  route-accepted = exactly route-number (Accepted.route-accepted route_nodes route_rounds route_sender route_given)

  pub route-refused : cell_answer.refusal ≢ 0 → ◌≡◌ {A = CellFound} cell_answer (record { refusal = route-due; cell = 0 })
  route-refused some = c.contract ∙ Returned.cell-not-found route_nodes route_rounds route_sender route_given (λ e. some (route-number ∙ e))

  pub route-has-cell : cell_answer.refusal ≡ 0 → ◌≡◌ {A = CellFound} cell_answer (record { refusal = 0; cell = cell route_nodes route_sender (held route_given) })
  route-has-cell zero = c.contract ∙ Returned.cell-found route_nodes route_rounds route_sender route_given (sym route-number ∙ zero)

-- ---- cell to route

abbrev pub RouteOfCell : Type 0
RouteOfCell = Call 0 route-of-cell-kinds.ps route-of-cell-kinds.r route-of-cell.Post

module _ (c : RouteOfCell) where
  abbrev pub cell_nodes : ℕ
  cell_nodes = c.args.0

  abbrev pub cell_rounds : ℕ
  cell_rounds = c.args.1.0

  abbrev pub cell_sender : ℕ
  cell_sender = c.args.1.1.0

  abbrev pub cell_given : ℕ
  cell_given = c.args.1.1.1.0

  abbrev pub route_answer : RouteFound
  route_answer = c.result

  abbrev pub cell-due : ℕ
  cell-due = cell_refusal cell_nodes cell_rounds cell_sender cell_given

  pub cell-number : route_answer.refusal ≡ cell-due
  cell-number =
      number_is (λ (x : RouteFound). x.refusal) cell-due c.contract
      (Returned.route-found cell_nodes cell_rounds cell_sender cell_given)
      (Returned.route-not-found cell_nodes cell_rounds cell_sender cell_given) refl refl

  -- 1, 2, 4, 5 or 14, the lowest whose condition holds
  pub cell-turned-away : (k : ℕ) → k ≢ 0 → (route_answer.refusal ≡ k) ↔ Lowest k (cell_reasons cell_nodes cell_rounds cell_sender cell_given)
  cell-turned-away k some = exactly cell-number (Refused.cell-refused k cell_nodes cell_rounds cell_sender cell_given some)

  pub cell-accepted : (route_answer.refusal ≡ 0) ↔ CellAccepted cell_nodes cell_rounds cell_sender cell_given
  cell-accepted = exactly cell-number (Accepted.cell-accepted cell_nodes cell_rounds cell_sender cell_given)

  pub cell-refused : route_answer.refusal ≢ 0
      → ◌≡◌ {A = RouteFound} route_answer (record { refusal = cell-due; route = record { nodes = 0 ∷ 0 ∷ 0 ∷ 0 ∷ []; len = 0 } })
  cell-refused some = c.contract ∙ Returned.route-not-found cell_nodes cell_rounds cell_sender cell_given (λ e. some (cell-number ∙ e))

  -- a row of four places, 0 beyond the route
  pub cell-has-route : route_answer.refusal ≡ 0
      → ◌≡◌ {A = RouteFound} route_answer (record { refusal = 0; route = row_of_route (route_at cell_nodes cell_rounds cell_sender cell_given) })
  cell-has-route zero = c.contract ∙ Returned.route-found cell_nodes cell_rounds cell_sender cell_given (sym cell-number ∙ zero)

-- ---- each undoes the other

-- two calls about the same nodes, rounds and sender
pub record SameAbout (c : CellOfRoute) (d : RouteOfCell) : Type 0 where
  pub same_nodes : cell_nodes d ≡ route_nodes c
  pub same-rounds : cell_rounds d ≡ route_rounds c
  pub same-sender : cell_sender d ≡ route_sender c

module _ (c : CellOfRoute) (d : RouteOfCell) (same : SameAbout c d) where
  -- asked for the cell that a route was found to have, the other gives that route, with 0 beyond its length
  pub route-and-back : (cell_answer c).refusal ≡ 0 → cell_given d ≡ (cell_answer c).cell
      → ◌≡◌ {A = RouteFound} (route_answer d) (record { refusal = 0; route = row_of_route (held (route_given c)) })
  route-and-back zero its =
      let found = its ∙ ap (λ (x : CellFound). x.cell) c.contract in
      d.contract
      ∙ (λ i. route_found (same.same_nodes i) (same.same-rounds i) (same.same-sender i) (found i))
      ∙ (Conversions.route-and-back (route_nodes c) (route_rounds c) (route_sender c) (route_given c) (sym (route-number c) ∙ zero))

  -- asked for the route that a cell was found to have, the other gives that cell
  pub cell-and-back : (route_answer d).refusal ≡ 0 → route_given c ≡ (route_answer d).route
      → ◌≡◌ {A = CellFound} (cell_answer c) (record { refusal = 0; cell = cell_given d })
  cell-and-back zero its =
      let found = its ∙ ap (λ (x : RouteFound). x.route) d.contract in
      c.contract
      ∙ (λ i. cell_found (sym same.same_nodes i) (sym same.same-rounds i) (sym same.same-sender i) (found i))
      ∙ (Conversions.cell-and-back (cell_nodes d) (cell_rounds d) (cell_sender d) (cell_given d) (sym (cell-number d) ∙ zero))

-- ---- one round's part of a table

abbrev pub Part : Type 0
Part = Call 1 round-part-kinds.ps round-part-kinds.r round-part.Post

module _ (c : Part) where
  abbrev pub part_nodes : ℕ
  part_nodes = c.args.0

  abbrev pub part_rounds : ℕ
  part_rounds = c.args.1.0

  -- the bytes of the table
  abbrev pub part_table : ℕ
  part_table = length c.args.1.1.0.now

  abbrev pub part_round : ℕ
  part_round = c.args.1.1.1.0

  abbrev pub part_answer : RoundPart
  part_answer = c.result

  abbrev pub part-due : ℕ
  part-due = part_refusal part_nodes part_rounds part_table part_round

  pub part-number : part_answer.refusal ≡ part-due
  part-number =
      number_is (λ (x : RoundPart). x.refusal) part-due c.contract
      (Returned.part-found part_nodes part_rounds part_round part_table)
      (Returned.part-not-found part_nodes part_rounds part_round part_table) refl refl

  -- 1, 2, 4, 8 or 15, the lowest whose condition holds
  pub part-turned-away : (k : ℕ) → k ≢ 0 → (part_answer.refusal ≡ k) ↔ Lowest k (part_reasons part_nodes part_rounds part_table part_round)
  part-turned-away k some = exactly part-number (Refused.part-refused k part_nodes part_rounds part_table part_round some)

  pub part-accepted : (part_answer.refusal ≡ 0) ↔ PartAccepted part_nodes part_rounds part_table part_round
  part-accepted = exactly part-number (Accepted.part-accepted part_nodes part_rounds part_table part_round)

  pub part-refused : part_answer.refusal ≢ 0 → ◌≡◌ {A = RoundPart} part_answer (record { refusal = part-due; start = 0; end = 0 })
  part-refused some = c.contract ∙ Returned.part-not-found part_nodes part_rounds part_round part_table (λ e. some (part-number ∙ e))

  module _ (zero : part_answer.refusal ≡ 0) where
    pub part-place : ◌≡◌ {A = RoundPart} part_answer (record { refusal = 0; start = 2 * cells_before part_nodes part_round; end = 2 * cells_before part_nodes (suc part_round) })
    part-place = c.contract ∙ Returned.part-found part_nodes part_rounds part_round part_table (sym part-number ∙ zero)

    -- the words between start and end are those of the round's cells, which are the cells of the routes one number longer than the
    -- round's own number, whoever is the sender
    pub part-cells : (sender x : ℕ) → sender < part_nodes → ((part_answer.start ≤ 2 * x) × (2 * x < part_answer.end)) ↔ CellOf part_nodes sender part_round x
    part-cells sender x node =
        let filled = round_filled part_nodes sender node part_round x in
        let from : part_answer.start ≡ 2 * cells_before part_nodes part_round = ap (λ (p : RoundPart). p.start) part-place in
        let to : part_answer.end ≡ 2 * cells_before part_nodes (suc part_round) = ap (λ (p : RoundPart). p.end) part-place in (
          λ h. filled.0 (record { from = omega (arith, h, from); below = omega (arith, h, to) }),
          λ r. let inside = filled.1 r in (omega (arith, from, inside.from), omega (arith, to, inside.below)),
        )
