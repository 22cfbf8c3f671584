-- The word delivered on a route. A faulty teller tells what the cell holds, a reserved word read as 0; a fault-free sender tells
-- its value; a fault-free relay passes on the word that it was itself told, which is the word delivered on the route without
-- its last number. On the empty route stands the sender's own value, so one clause serves the sender and every relay.
use Rattle.std.specs.Prelude.{ℕ, List, [], ◌∷◌, cond}
use Rattle.rules.specs.Words.{word_at, plain, faulty}
use Rattle.rules.specs.Routes.{teller}
use Rattle.rules.specs.Cells.{cell}
use Rattle.rules.specs.declared.Settings.{Settings}

unfoldable pub delivered : Settings → List ℕ → List ℕ → ℕ
delivered s table [] = s.value
delivered s table (i ∷ p) =
    cond (faulty s.faults (teller s.sender p)) (plain (word_at table (cell s.n s.sender (i ∷ p)))) (delivered s table p)
