-- How the code holds a frame.
use Rattle.std.specs.Prelude.{ℕ, ◌-◌, List, ◌++◌, length, replicate}

-- a frame of at most nine bytes as a row of nine, with zeros behind it
unfoldable pub frame_row : List ℕ → List ℕ
frame_row frame = frame ++ replicate (9 - length frame) 0
