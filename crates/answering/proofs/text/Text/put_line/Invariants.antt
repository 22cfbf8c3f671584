-- The digits of the bytes so far stand behind what was written before.
use Rattle.std.proofs.Common.{◌≡◌, ◌++◌, take}
use Rattle.scenario.specs.Hex.{digits_of}
use Rattle.answering.proofs.text.Text.put_line.Given as goal

abbrev pub invariant-loop-byte : goal.invariant-loop-byte
invariant-loop-byte l = l.self ≡ l.initial.self ++ digits_of (take l.byte-index l.frame)
