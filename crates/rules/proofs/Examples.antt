-- Demand 3 on examples, computed: calls that the rules accept are there on both sides of m, with a faulty and with a fault-free
-- sender; and neither the bound on the faults nor the number of nodes can be lowered by one.
use mathlib.Core.Path.{◌≡◌, refl}
use mathlib.Core.Bool.{Bool, true, ◌&&◌}
use mathlib.Core.List.{List, [], ◌∷◌, map}
use Prim.Native.Nat.{ℕ, ◌*◌}
use lib.ListN.{length}
use lib.Dec.{eqb}
use lib.Count.{ones, ones_in}
use Rattle.rules.specs.Lists.{count, keep, all, up_to}
use Rattle.rules.specs.Words.{settings, word_at, reserved, plain, bytes_of, not_reported, faulty}
use Rattle.rules.specs.Routes.{free, receiver, receivers}
use Rattle.rules.specs.Cells.{routes_of, cells_before, cells, digit, rank, cell}
use Rattle.rules.specs.Delivered.{delivered}
use Rattle.rules.specs.Vote.{reaches, settle, vote}
use Rattle.rules.specs.Decision.{via, word_of, judge, decide, nodes_at, threshold, byz, decision}
use Rattle.rules.specs.Refusals.{first, wrong_nodes, wrong_rounds, low_bound, too_few, no_sender, reserved_value, stray_fault, wrong_table, wrong_row, settings_reasons, exchange_reasons, exchange_refusal}
use Rattle.rules.specs.Exchange.{fault_count, class_of, slot, slots}
use Rattle.rules.specs.declared.Settings.{Settings}
use Rattle.rules.proofs.Cases.{same, every}

-- a call, with a word for each cell, and what comes of it: refusal, f, class, and the words in the slots of its nodes
pub record Example : Type 0 where
  pub given : Settings
  pub told : List ℕ
  pub refusal : ℕ
  pub faults : ℕ
  pub class : ℕ
  pub words : List ℕ

unfoldable pub comes : Example → Bool
comes x =
    eqb (exchange_refusal x.given (length (bytes_of x.told)) (2 * x.given.n)) x.refusal
    && (eqb (fault_count x.given) x.faults
    && (eqb (class_of (fault_count x.given) x.given.m x.given.u) x.class
    && same (map word_of (slots x.given (bytes_of x.told))) x.words))

-- settings, told; refusal, f, class, words
abbrev call : Settings → List ℕ → ℕ → ℕ → ℕ → List ℕ → Example
call given told refusal faults class words = record { given = given; told = told; refusal = refusal; faults = faults; class = class; words = words }

-- two faulty nodes of four: the sender 0 tells node 1 that its value is 5, and node 2 that it is 6; node 3 backs both
abbrev pub two_faced : List ℕ
two_faced = 5 ∷ 6 ∷ 0 ∷ 0 ∷ 0 ∷ 0 ∷ 0 ∷ 5 ∷ 6 ∷ []

-- what stands in a faulty node's slot
abbrev none : ℕ
none = not_reported

unfoldable pub examples : List Example
examples =
    -- f ≤ m, the sender fault-free: node 3 tells 9 for the sender's 7, and yet 1 and 2 decide 7
    call (settings 4 1 1 0 7 0b1000) (0 ∷ 0 ∷ 0 ∷ 0 ∷ 0 ∷ 0 ∷ 0 ∷ 9 ∷ 9 ∷ []) 0 1 1 (7 ∷ 7 ∷ 7 ∷ none ∷ [])
    -- f ≤ m, the sender faulty: it tells 5, 5 and 8, and all three decide 5
    ∷ call (settings 4 1 1 0 7 0b0001) (5 ∷ 5 ∷ 8 ∷ 0 ∷ 0 ∷ 0 ∷ 0 ∷ 0 ∷ 0 ∷ []) 0 1 1 (none ∷ 5 ∷ 5 ∷ 5 ∷ [])
    -- m < f ≤ u, the sender fault-free: nodes 3 and 4 keep 1 from the sender's 7, but not 2
    ∷ call (settings 5 1 2 0 7 0b11000) (0 ∷ 0 ∷ 0 ∷ 0 ∷ 0 ∷ 0 ∷ 0 ∷ 0 ∷ 0 ∷ 0 ∷ 9 ∷ 0 ∷ 0 ∷ 9 ∷ 7 ∷ 0 ∷ []) 0 2 2 (7 ∷ 0 ∷ 7 ∷ none ∷ none ∷ [])
    -- m < f ≤ u, the sender faulty: 1 and 3 decide 5, and 2 the default
    ∷ call (settings 5 1 2 0 7 0b10001) (5 ∷ 5 ∷ 6 ∷ 0 ∷ 0 ∷ 0 ∷ 0 ∷ 0 ∷ 0 ∷ 0 ∷ 0 ∷ 0 ∷ 0 ∷ 5 ∷ 0 ∷ 5 ∷ []) 0 2 2 (none ∷ 5 ∷ 0 ∷ 5 ∷ none ∷ [])
    -- f = u+1, and accepted: 1 and 2 decide different values, neither the default
    ∷ call (settings 4 1 1 0 7 0b1001) two_faced 0 2 3 (none ∷ 5 ∷ 6 ∷ none ∷ [])
    -- N = 2m+u, which the rules refuse: the same, with no more than u faults
    ∷ call (settings 4 1 2 0 7 0b1001) two_faced 4 2 2 (none ∷ 5 ∷ 6 ∷ none ∷ [])
    ∷ []

pub computed : every comes examples ≡ true
unfolding every examples comes same ones ones_in count keep all up_to word_at reserved plain bytes_of faulty free receiver receivers routes_of cells_before cells digit rank cell delivered reaches settle vote via judge decide nodes_at threshold byz decision first wrong_nodes wrong_rounds low_bound too_few no_sender reserved_value stray_fault wrong_table wrong_row settings_reasons exchange_reasons class_of slot slots
computed = refl
