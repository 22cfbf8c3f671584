-- The row is that of the frame of the digits read so far, two for each byte, and the others are still to come.
use Rattle.std.proofs.Common.{ℕ, ◌≡◌, ◌*◌, ◌≤◌, List, length, take, drop}
use Rattle.scenario.specs.Hex.{frame_of}
use Rattle.frames.specs.Rows.{frame_row}
use Rattle.frames.proofs.FrameRows.{Framed}
use Rattle.frames.proofs.digits.frame_of.Given as goal

-- after i turns
pub record Turn (line frame rest : List ℕ) (size i : ℕ) : Type 0 where
  pub framed : Framed line
  pub pairs : size ≡ 2
  pub within : 2 * i ≤ length line
  pub left : rest ≡ drop (2 * i) line
  pub row : frame ≡ frame_row (frame_of (take (2 * i) line))

abbrev pub invariant-loop-i : goal.invariant-loop-i
invariant-loop-i l = Turn l.line l.frame l.i-iterator.iter.rest.now l.i-iterator.iter.size l.i-iterator.count
