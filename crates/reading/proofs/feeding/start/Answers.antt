-- `reading::feeding::start`: every number of a default reader is 0, also those of the line begun.
use Rattle.std.proofs.Common.{ℕ, ◌≡◌, ◌<◌, List, [], ◌∷◌, suc, length, get_or, replicate, arith, refl, ap}
use Rattle.scenario.specs.File.{fresh}
use Rattle.reading.proofs.feeding.start.Goals as goal

zeros : (xs : List ℕ) → ((i : ℕ) → i < length xs → get_or xs i 0 ≡ 0) → xs ≡ replicate (length xs) 0
zeros [] h = refl
zeros (x ∷ xs) h = rw (h 0 (omega arith)) (ap (◌∷◌ 0) (zeros xs (λ i l. h (suc i) (omega arith))))

pub returns : goal.returns
unfolding fresh
returns c =
    let (stage, ((n, (m, (u, (sender, (value, faults))))), (given, (lines, (refusal, (row, count)))))) = c.default.ensures in
    let held : c.default.result.held ≡ replicate 19 0 = rw row.long at (zeros c.default.result.held (λ i l. row.at i 0 (omega (arith, row.long)))) in
    λ i. record {
      stage = stage i;
      settings = record { n = n i; m = m i; u = u i; sender = sender i; value = value i; faults = faults i };
      given = given i;
      lines = lines i;
      refusal = refusal i;
      held = held i;
      count = count i;
    }
