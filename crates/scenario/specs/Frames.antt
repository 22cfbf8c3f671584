-- What the frames of the three kinds hold. A byte that a frame lacks is read as 0; a frame of the wrong length is refused.
use Rattle.std.specs.Prelude.{ℕ, ◌+◌, ◌*◌, List, [], ◌∷◌, cond, get_or, eqb}
use Rattle.rules.specs.declared.Settings.{Settings}
use Rattle.rules.specs.declared.Route.{Route}
use Rattle.scenario.specs.declared.Line.{Line}
use Rattle.scenario.specs.declared.Line.TheVariants.{Opening, Telling, Closing}

abbrev pub byte_in : List ℕ → ℕ → ℕ
byte_in frame i = get_or frame i 0

-- the word whose high byte is byte i
abbrev pub word_in : List ℕ → ℕ → ℕ
word_in frame i = byte_in frame i * 256 + byte_in frame (i + 1)

-- the kind, which is the first byte
abbrev pub kind_of : List ℕ → ℕ
kind_of frame = byte_in frame 0

-- `01`: N, m, u, sender (a byte each), value, fault word
unfoldable pub settings_in : List ℕ → Settings
settings_in frame = record {
  n = byte_in frame 1;
  m = byte_in frame 2;
  u = byte_in frame 3;
  sender = byte_in frame 4;
  value = word_in frame 5;
  faults = word_in frame 7;
}

-- `02`: L, then L node numbers, then a word. The row takes the four places after L; those beyond L are ignored
unfoldable pub route_in : List ℕ → Route
route_in frame = record {
  nodes = byte_in frame 2 ∷ byte_in frame 3 ∷ byte_in frame 4 ∷ byte_in frame 5 ∷ [];
  len = byte_in frame 1;
}

unfoldable pub word_told : List ℕ → ℕ
word_told frame = word_in frame (2 + byte_in frame 1)

-- `03`: a word, the number of `02` lines
unfoldable pub count_in : List ℕ → ℕ
count_in frame = word_in frame 1

-- What a frame says. A frame of another kind is read as an `03` line; such a kind is refused.
unfoldable pub line_in : List ℕ → Line
line_in frame =
    cond (eqb (kind_of frame) 1) (Opening (settings_in frame)) (cond (eqb (kind_of frame) 2) (Telling (route_in frame) (word_told frame)) (Closing (count_in frame)))
