-- One exchange: the decision row and the summary, and what a refused call leaves.
use Rattle.std.specs.Prelude.{ℕ, List, map, cond, length, eqb, leb}
use Rattle.std.specs.Int.Count.{ones}
use Rattle.rules.specs.Lists.{up_to, total}
use Rattle.rules.specs.Words.{bytes_of, not_reported, faulty}
use Rattle.rules.specs.Cells.{cells}
use Rattle.rules.specs.Decision.{decision, word_of, ties_of}
use Rattle.rules.specs.Refusals.{exchange_refusal}
use Rattle.rules.specs.declared.Settings.{Settings}
use Rattle.rules.specs.declared.Decided.{Decided}
use Rattle.rules.specs.declared.Summary.{Summary}

-- f, the number of set bits in the fault word
abbrev pub fault_count : Settings → ℕ
fault_count s = ones s.faults

-- 1 if f ≤ m, 2 if m < f ≤ u, 3 if f > u
unfoldable pub class_of : ℕ → ℕ → ℕ → ℕ
class_of f m u = cond (leb f m) 1 (cond (leb f u) 2 3)

-- node i's slot: "not reported" for a faulty node, its value for a fault-free sender, its decision for a fault-free receiver
unfoldable pub slot : Settings → List ℕ → ℕ → Decided
slot s table i =
    cond (faulty s.faults i) (record { word = not_reported; ties = 0 })
    (cond (eqb i s.sender) (record { word = s.value; ties = 0 }) (decision s table i))

unfoldable pub slots : Settings → List ℕ → List Decided
slots s table = map (slot s table) (up_to s.n)

-- the decision row: N words
unfoldable pub row_of : Settings → List ℕ → List ℕ
row_of s table = bytes_of (map word_of (slots s table))

-- the votes, over all levels and all fault-free receivers, that met a tie
unfoldable pub tie_count : Settings → List ℕ → ℕ
tie_count s table = total (map ties_of (slots s table))

-- the summary of an accepted call
unfoldable pub played : Settings → List ℕ → Summary
played s table = record {
  refusal = 0;
  faults = fault_count s;
  fault_class = class_of (fault_count s) s.m s.u;
  ties = tie_count s table;
  messages = cells s.n s.m;
}

-- and of a refused one: the number, with every other field 0
unfoldable pub refused : ℕ → Summary
refused k = record { refusal = k; faults = 0; fault_class = 0; ties = 0; messages = 0 }

-- what an exchange returns, for a decision row of so many bytes
unfoldable pub summary_of : Settings → List ℕ → ℕ → Summary
summary_of s table row =
    let k = exchange_refusal s (length table) row in
    cond (eqb k 0) (played s table) (refused k)

-- the decision row afterwards: a refused call keeps its bytes
unfoldable pub row_after : Settings → List ℕ → List ℕ → List ℕ
row_after s table row = cond (eqb (exchange_refusal s (length table) (length row)) 0) (row_of s table) row
