-- `frames::digits::all_digits`: the chain asks each byte.
use Rattle.std.proofs.Common.{rules, ◌≡◌, true}
use Rattle.std.specs.Prelude.{◌↔◌, EachIndex, IsTrue, slice_index}
use Rattle.scenario.specs.Hex.{is_digit}
use Rattle.frames.proofs.Every.{all_each}
use Rattle.frames.proofs.digits.all_digits.Goals as goal

pub returns : goal.returns
returns c =
    let line = c.args.line.now in
    let each : IsTrue c.all.result ↔ EachIndex line (λ k. is_digit (slice_index line k) ≡ true) = search rules in
    all_each is_digit line c.all.result each
