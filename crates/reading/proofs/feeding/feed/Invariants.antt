-- So far the desk is what the bytes read so far make of it.
use Rattle.std.proofs.Common.{take}
use Rattle.scenario.specs.Feeding.{fed}
use Rattle.reading.specs.Steps.{at, Moved}
use Rattle.reading.proofs.feeding.feed.Given as goal

abbrev pub invariant-loop-byte : goal.invariant-loop-byte
invariant-loop-byte l = Moved l.initial.desk l.desk (fed (at l.initial.desk) (take l.byte-index l.piece))
