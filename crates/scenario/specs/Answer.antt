-- The program's answer, in the frames of its lines and as the bytes that it writes.
use Rattle.std.specs.Prelude.{ℕ, List, [], ◌∷◌, ◌++◌, map, cond, replicate, eqb}
use Rattle.rules.specs.Lists.{up_to}
use Rattle.rules.specs.Words.{bytes_of, faulty}
use Rattle.rules.specs.Exchange.{slot, played}
use Rattle.rules.specs.declared.Settings.{Settings}
use Rattle.rules.specs.declared.Summary.{Summary}
use Rattle.scenario.specs.Hex.{digits_of}
use Rattle.scenario.specs.Lines.{line_end, rest_of}
use Rattle.scenario.specs.File.{file_judged, end_refusal, refused_line, table_given}
use Rattle.scenario.specs.declared.Reader.{Reader}

-- a word as two bytes
abbrev pub word_bytes : ℕ → List ℕ
word_bytes w = bytes_of (w ∷ [])

-- 00 fault-free sender, 01 fault-free receiver, 02 faulty
unfoldable pub role_of : Settings → ℕ → ℕ
role_of s i = cond (faulty s.faults i) 2 (cond (eqb i s.sender) 0 1)

-- `11`, the node, its role, the slot's word
unfoldable pub node_frame : Settings → List ℕ → ℕ → List ℕ
node_frame s table i = 0x11 ∷ i ∷ role_of s i ∷ word_bytes (slot s table i).word

-- `12`, f, class, tie word, messages word
unfoldable pub summary_frame : Summary → List ℕ
summary_frame y = 0x12 ∷ y.faults ∷ y.fault_class ∷ word_bytes y.ties ++ word_bytes y.messages

-- `1F`, the refusal number as a byte, the line as a word
unfoldable pub refusal_frame : ℕ → ℕ → List ℕ
refusal_frame k line = 0x1f ∷ k ∷ word_bytes line

-- a line for each node in ascending order, then the summary's
unfoldable pub played_frames : Settings → List ℕ → List (List ℕ)
played_frames s table = map (node_frame s table) (up_to s.n) ++ (summary_frame (played s table) ∷ [])

-- what a reader has to say at the end of the input, after an unfinished line
unfoldable pub answer_frames : Reader → List ℕ → List ℕ → List (List ℕ)
answer_frames r table rest =
    let k = end_refusal r table rest in
    cond (eqb k 0) (played_frames r.settings (table_given r.settings table)) (refusal_frame k (refused_line r) ∷ [])

-- a frame as a line of digits, ended by LF
unfoldable pub line_of : List ℕ → List ℕ
line_of frame = digits_of frame ++ (line_end ∷ [])

unfoldable pub text_of : List (List ℕ) → List ℕ
text_of [] = []
text_of (frame ∷ frames) = line_of frame ++ text_of frames

unfoldable pub answer_of : Reader → List ℕ → List ℕ → List ℕ
answer_of r table rest = text_of (answer_frames r table rest)

-- the answer to a file, over a lent table and lent marks
unfoldable pub answer_to : List ℕ → List ℕ → List ℕ → List ℕ
answer_to table marks x =
    let d = file_judged table marks x in
    answer_of d.reader d.table (rest_of x)

-- the program lends enough for N=15, m=3: 26,404 words, and as many bits
unfoldable pub output_of : List ℕ → List ℕ
output_of x = answer_to (replicate 52808 0) (replicate 3301 0) x
