-- What is turned away: one condition for each number, one list of numbers for each entry point, and the first that applies.
use Rattle.std.specs.Prelude.{ℕ, ◌+◌, ◌*◌, ◌/◌, ◌%◌, ◌^◌, List, [], ◌∷◌, ◌++◌, Bool, not, ◌||◌, cond, eqb, ltb, leb}
use Rattle.rules.specs.Words.{reserved}
use Rattle.rules.specs.Routes.{is_route, held}
use Rattle.rules.specs.Cells.{cells}
use Rattle.rules.specs.declared.Settings.{Settings}
use Rattle.rules.specs.declared.Route as R

-- a refusal number, and whether its condition holds
pub record Reason : Type 0 where
  pub number : ℕ
  pub applies : Bool

abbrev pub because : ℕ → Bool → Reason
because k b = record { number = k; applies = b }

-- the number of the first reason that applies; 0 where none does
unfoldable pub first : List Reason → ℕ
first [] = 0
first (r ∷ rs) = cond r.applies r.number (first rs)

-- 1: N < 4 or N > 15
unfoldable pub wrong_nodes : ℕ → Bool
wrong_nodes n = ltb n 4 || ltb 15 n

-- 2: m = 0 or m > 3
unfoldable pub wrong_rounds : ℕ → Bool
wrong_rounds m = eqb m 0 || ltb 3 m

-- 3: u < m
unfoldable pub low_bound : ℕ → ℕ → Bool
low_bound m u = ltb u m

-- 4: N ≤ 2m+u
unfoldable pub too_few : ℕ → ℕ → ℕ → Bool
too_few n m u = leb n (2 * m + u)

-- 4 where no u is taken: N ≤ 3m
unfoldable pub too_few_alone : ℕ → ℕ → Bool
too_few_alone n m = leb n (3 * m)

-- 5: sender ≥ N
unfoldable pub no_sender : ℕ → ℕ → Bool
no_sender n sender = leb n sender

-- 6: the sender's value is reserved
unfoldable pub reserved_value : ℕ → Bool
reserved_value value = reserved value

-- 7: a fault bit at N or above
unfoldable pub stray_fault : ℕ → ℕ → Bool
stray_fault n faults = not (eqb (faults / 2 ^ n) 0)

-- 8: the table is not 2M bytes
unfoldable pub wrong_table : ℕ → ℕ → ℕ → Bool
wrong_table n m bytes = not (eqb bytes (2 * cells n m))

-- 9: the decision row is not 2N bytes
unfoldable pub wrong_row : ℕ → ℕ → Bool
wrong_row n bytes = not (eqb bytes (2 * n))

-- 11: vote threshold 0
unfoldable pub no_threshold : ℕ → Bool
no_threshold q = eqb q 0

-- 12: vote list of odd byte length
unfoldable pub odd_list : ℕ → Bool
odd_list bytes = not (eqb (bytes % 2) 0)

-- 13: not a route
unfoldable pub no_route : ℕ → ℕ → ℕ → R.Route → Bool
no_route n m sender r = not (is_route n m sender (held r))

-- 14: cell ≥ M
unfoldable pub no_cell : ℕ → ℕ → ℕ → Bool
no_cell n m c = leb (cells n m) c

-- 15: round > m
unfoldable pub no_round : ℕ → ℕ → Bool
no_round m k = ltb m k

-- the settings of an exchange, 1 to 7
unfoldable pub settings_reasons : Settings → List Reason
settings_reasons s =
    because 1 (wrong_nodes s.n)
    ∷ because 2 (wrong_rounds s.m)
    ∷ because 3 (low_bound s.m s.u)
    ∷ because 4 (too_few s.n s.m s.u)
    ∷ because 5 (no_sender s.n s.sender)
    ∷ because 6 (reserved_value s.value)
    ∷ because 7 (stray_fault s.n s.faults)
    ∷ []

-- exchange, with a table and a row of so many bytes
unfoldable pub exchange_reasons : Settings → ℕ → ℕ → List Reason
exchange_reasons s table row =
    settings_reasons s ++ (because 8 (wrong_table s.n s.m table) ∷ because 9 (wrong_row s.n row) ∷ [])

-- nodes and rounds where no u is taken
unfoldable pub layout_reasons : ℕ → ℕ → List Reason
layout_reasons n m = because 1 (wrong_nodes n) ∷ because 2 (wrong_rounds m) ∷ because 4 (too_few_alone n m) ∷ []

-- route to cell
unfoldable pub route_reasons : ℕ → ℕ → ℕ → R.Route → List Reason
route_reasons n m sender r = layout_reasons n m ++ (because 5 (no_sender n sender) ∷ because 13 (no_route n m sender r) ∷ [])

-- cell to route
unfoldable pub cell_reasons : ℕ → ℕ → ℕ → ℕ → List Reason
cell_reasons n m sender c = layout_reasons n m ++ (because 5 (no_sender n sender) ∷ because 14 (no_cell n m c) ∷ [])

-- one round's part of a table of so many bytes
unfoldable pub part_reasons : ℕ → ℕ → ℕ → ℕ → List Reason
part_reasons n m table k = layout_reasons n m ++ (because 8 (wrong_table n m table) ∷ because 15 (no_round m k) ∷ [])

-- the vote over a list of so many bytes
unfoldable pub vote_reasons : ℕ → ℕ → List Reason
vote_reasons q list = because 11 (no_threshold q) ∷ because 12 (odd_list list) ∷ []

abbrev pub settings_refusal : Settings → ℕ
settings_refusal s = first (settings_reasons s)

abbrev pub exchange_refusal : Settings → ℕ → ℕ → ℕ
exchange_refusal s table row = first (exchange_reasons s table row)

abbrev pub route_refusal : ℕ → ℕ → ℕ → R.Route → ℕ
route_refusal n m sender r = first (route_reasons n m sender r)

abbrev pub cell_refusal : ℕ → ℕ → ℕ → ℕ → ℕ
cell_refusal n m sender c = first (cell_reasons n m sender c)

abbrev pub part_refusal : ℕ → ℕ → ℕ → ℕ → ℕ
part_refusal n m table k = first (part_reasons n m table k)

abbrev pub vote_refusal : ℕ → ℕ → ℕ
vote_refusal q list = first (vote_reasons q list)
