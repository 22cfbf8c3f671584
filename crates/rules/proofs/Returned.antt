-- What each call returns: accepted, its values with the number 0; refused, the number with every other field 0, an empty part
-- where a part is due. And one round's part holds that round's cells.
use mathlib.Core.Path.{◌≡◌, refl, ap₂, ◌∙◌}
use mathlib.Core.Logic.{◌≢◌, ◌↔◌}
use mathlib.Core.Bool.{false}
use mathlib.Core.List.{List, [], ◌∷◌, map}
use Prim.Native.Nat.{ℕ, suc, ◌+◌, ◌*◌, ◌-◌, ◌≤◌, ◌<◌}
use native.Mathlib.Omega.{arith}
use lib.ListN.{length, get_or, take, drop, length-drop}
use lib.Seq.{length-take-le, get_or-take, get_or-drop}
use borrow.Author.Tests.{ne_eqb}
use Rattle.rules.specs.Lists.{count, up_to, total}
use Rattle.rules.specs.Words.{word_at, words_of, faulty}
use Rattle.rules.specs.Routes.{held, written}
use Rattle.rules.specs.Cells.{round_size, cells_before, cells, cell, route_at}
use Rattle.rules.specs.Vote.{vote}
use Rattle.rules.specs.Decision.{decision}
use Rattle.rules.specs.Refusals.{exchange_refusal, vote_refusal, route_refusal, cell_refusal, part_refusal}
use Rattle.rules.specs.Exchange.{fault_count, played, refused, summary_of}
use Rattle.rules.specs.Answers.{ballot_of, cell_found, row_of_route, route_found, part_found, part_of}
use Rattle.rules.specs.declared.Settings.{Settings}
use Rattle.rules.specs.declared.Summary.{Summary}
use Rattle.rules.specs.declared.Route as R
use Rattle.rules.specs.declared.Ballot.{Ballot}
use Rattle.rules.specs.declared.CellFound.{CellFound}
use Rattle.rules.specs.declared.RouteFound.{RouteFound}
use Rattle.rules.specs.declared.RoundPart.{RoundPart}
use Rattle.rules.proofs.Accepted.{settings-of, part-accepted}
use Rattle.rules.proofs.FaultWord.{faults-are}
use Rattle.rules.proofs.Summaries.{class-one, class-two, class-three}
use Rattle.rules.proofs.Ties.{sound_receivers, ties-counted}
use Rattle.rules.proofs.Numbering.{cells-step, cells-ascend}

-- ---- the exchange

-- the summary of an accepted call, field by field
pub record Summed (s : Settings) (table : List ℕ) (x : Summary) : Type 0 where
  pub accepted : x.refusal ≡ 0
  -- f
  pub faulty-nodes : x.faults ≡ count (faulty s.faults) (up_to s.n)
  pub class-1 : (x.fault_class ≡ 1) ↔ (x.faults ≤ s.m)
  pub class-2 : (x.fault_class ≡ 2) ↔ ((s.m < x.faults) × (x.faults ≤ s.u))
  pub class-3 : (x.fault_class ≡ 3) ↔ (s.u < x.faults)
  -- the votes behind the decisions of fault-free receivers that met a tie
  pub tied-votes : x.ties ≡ total (map (λ i. (decision s table i).ties) (sound_receivers s))
  -- M
  pub all-cells : x.messages ≡ cells s.n s.m

module _ (s : Settings) (table : List ℕ) (row : ℕ) where
  pub summary-refused : exchange_refusal s (length table) row ≢ 0
      → ◌≡◌ {A = Summary} (summary_of s table row) (record { refusal = exchange_refusal s (length table) row; faults = 0; fault_class = 0; ties = 0; messages = 0 })
  unfolding summary_of refused
  summary-refused ne = rw (ne_eqb (exchange_refusal s (length table) row) 0 ne)

  summary-played : exchange_refusal s (length table) row ≡ 0 → summary_of s table row ≡ played s table
  unfolding summary_of
  summary-played e = rw e

  pub summary-is : exchange_refusal s (length table) row ≡ 0 → Summed s table (summary_of s table row)
  unfolding played
  summary-is e =
      let ok = settings-of s (length table) row e in
      rw (summary-played e) (record {
        accepted = refl;
        faulty-nodes = faults-are s ok;
        class-1 = class-one (fault_count s) s.m s.u;
        class-2 = class-two (fault_count s) s.m s.u;
        class-3 = class-three (fault_count s) s.m s.u ok.bound;
        tied-votes = ties-counted s table;
        all-cells = refl;
      })

-- ---- the vote

module _ (q : ℕ) (list : List ℕ) where
  -- VOTE of the list's words
  pub ballot-cast : vote_refusal q (length list) ≡ 0
      → ◌≡◌ {A = Ballot} (ballot_of q list) (record { refusal = 0; word = (vote q (words_of list)).word; tie = (vote q (words_of list)).tie })
  unfolding ballot_of
  ballot-cast e = rw e

  pub ballot-refused : vote_refusal q (length list) ≢ 0
      → ◌≡◌ {A = Ballot} (ballot_of q list) (record { refusal = vote_refusal q (length list); word = 0; tie = false })
  unfolding ballot_of
  ballot-refused ne = rw (ne_eqb (vote_refusal q (length list)) 0 ne)

-- ---- the two conversions

module _ (n m sender : ℕ) where
  pub cell-found : (r : R.Route) → route_refusal n m sender r ≡ 0
      → ◌≡◌ {A = CellFound} (cell_found n m sender r) (record { refusal = 0; cell = cell n sender (held r) })
  unfolding cell_found
  cell-found r e = rw e

  pub cell-not-found : (r : R.Route) → route_refusal n m sender r ≢ 0
      → ◌≡◌ {A = CellFound} (cell_found n m sender r) (record { refusal = route_refusal n m sender r; cell = 0 })
  unfolding cell_found
  cell-not-found r ne = rw (ne_eqb (route_refusal n m sender r) 0 ne)

  pub route-found : (c : ℕ) → cell_refusal n m sender c ≡ 0
      → ◌≡◌ {A = RouteFound} (route_found n m sender c) (record { refusal = 0; route = row_of_route (route_at n m sender c) })
  unfolding route_found
  route-found c e = rw e

  -- four places of 0, and the length 0
  pub route-not-found : (c : ℕ) → cell_refusal n m sender c ≢ 0
      → ◌≡◌ {A = RouteFound} (route_found n m sender c) (record { refusal = cell_refusal n m sender c; route = record { nodes = 0 ∷ 0 ∷ 0 ∷ 0 ∷ []; len = 0 } })
  unfolding route_found row_of_route written
  route-not-found c ne = rw (ne_eqb (cell_refusal n m sender c) 0 ne)

-- ---- one round's part

module _ (n m round : ℕ) where
  -- it starts where the cells before the round end, and ends where those of the next round start
  pub part-found : (table : ℕ) → part_refusal n m table round ≡ 0
      → ◌≡◌ {A = RoundPart} (part_found n m table round) (record { refusal = 0; start = 2 * cells_before n round; end = 2 * cells_before n (suc round) })
  unfolding part_found
  part-found table e = rw e

  pub part-not-found : (table : ℕ) → part_refusal n m table round ≢ 0
      → ◌≡◌ {A = RoundPart} (part_found n m table round) (record { refusal = part_refusal n m table round; start = 0; end = 0 })
  unfolding part_found
  part-not-found table ne = rw (ne_eqb (part_refusal n m table round) 0 ne)

  module _ (table : List ℕ) where
    -- nothing is handed back where the call is refused
    pub part-empty : part_refusal n m (length table) round ≢ 0 → part_of n m table round ≡ []
    unfolding part_of
    part-empty ne = rw (part-not-found (length table) ne)

    part-is : part_refusal n m (length table) round ≡ 0 → part_of n m table round ≡ take (2 * round_size n round) (drop (2 * cells_before n round) table)
    unfolding part_of
    part-is e =
        let long : 2 * cells_before n (suc round) - 2 * cells_before n round ≡ 2 * round_size n round = omega (arith, cells-step n round) in
        rw (part-found (length table) e, long)

    -- one word for each of the round's cells,
    pub part_length : part_refusal n m (length table) round ≡ 0 → length (part_of n m table round) ≡ 2 * round_size n round
    unfolding cells
    part_length e =
        let ok = (part-accepted n m (length table) round).0 e in
        rw (part-is e) (length-take-le (2 * round_size n round) (drop (2 * cells_before n round) table)
        (rw length-drop (omega (arith, ok.table_is, cells-step n round, cells-ascend n (suc round) (m + 1) (omega (arith, ok.round-below))))))

    -- and that cell's word
    pub part-word : part_refusal n m (length table) round ≡ 0 → (c : ℕ) → c < round_size n round
        → word_at (part_of n m table round) c ≡ word_at table (cells_before n round + c)
    unfolding word_at
    part-word e c h = rw (part-is e) (ap₂ (λ a b. a * 256 + b) (byte (2 * c) (2 * (cells_before n round + c)) (omega arith) (omega arith))
        (byte (2 * c + 1) (2 * (cells_before n round + c) + 1) (omega arith) (omega arith)))
      where
        byte : (i j : ℕ) → i < 2 * round_size n round → 2 * cells_before n round + i ≡ j
            → get_or (take (2 * round_size n round) (drop (2 * cells_before n round) table)) i 0 ≡ get_or table j 0
        byte i j below at =
            get_or-take (2 * round_size n round) (drop (2 * cells_before n round) table) i 0 below ∙ get_or-drop (2 * cells_before n round) table i 0 ∙ rw at
