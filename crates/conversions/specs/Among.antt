-- Nodes, rounds and a sender: what is turned away before a route or a cell is looked at, and what is left of them.
use Rattle.std.specs.Prelude.{ℕ, ◌≡◌, List, [], ◌∷◌, ◌++◌}
use Rattle.rules.specs.Refusals.{Reason, because, no_sender, layout_reasons}
use Rattle.conversions.specs.declared.network.Network as N

unfoldable pub network_reasons : ℕ → ℕ → ℕ → List Reason
network_reasons n m sender = layout_reasons n m ++ (because 5 (no_sender n sender) ∷ [])

abbrev pub Among : ℕ → ℕ → ℕ → N.Network → Type 0
Among n m sender w = (w.n ≡ n) × (w.m ≡ m) × (w.sender ≡ sender)
