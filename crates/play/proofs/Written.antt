-- What the program writes: whatever pieces came from standard input, its buffer holds the whole answer, and that is the answer to the
-- file which the pieces make together.
use mathlib.Core.Path.{◌≡◌, ◌∙◌}
use mathlib.Core.Bool.{true, false}
use mathlib.Core.List.{List, ◌++◌, append-nil, flatten}
use Prim.Native.Nat.{ℕ, ◌≤◌}
use native.Mathlib.Omega.{arith}
use lib.ListN.{length, take, replicate, length-replicate}
use lib.Seq.{take-append_seam}
use lib.Dec.{eqb}
use borrow.Author.Tests.{le-leb, eqb-true}
use Rattle.std.specs.Prelude.{Option, None, Some}
use Rattle.std.specs.Io.KnownBytes.{IsAtEnd, Appends}
use Rattle.rules.proofs.Counting.{by-test}
use Rattle.rules.proofs.Accepted.{settings-accepted}
use Rattle.scenario.specs.Reasons.{Desk}
use Rattle.scenario.specs.File.{begun, end_refusal, refused_line, table_given}
use Rattle.scenario.specs.Answer.{answer_frames, answer_of, output_of}
use Rattle.scenario.specs.Feeding.{line_held, finished}
use Rattle.scenario.specs.declared.Reader.{Reader}
use Rattle.scenario.proofs.FromStart.{settings-known}
use Rattle.scenario.proofs.AcceptedFiles.{complete-end}
use Rattle.scenario.proofs.Pieces.{any-pieces}
use Rattle.answering.specs.Finish.{holds, out_after, length_after}
use Rattle.answering.proofs.AnswerText.{refusal-long}
use Rattle.answering.proofs.Playing.{played-long}
use Rattle.play.specs.Pieces.{Fed, FedFrom}
use Rattle.play.specs.Output.{Answers}

-- an answer has 180 bytes at the most: eleven for each of 15 nodes and fifteen for the summary, or nine for a refusal
pub answer-fits : (r : Reader) (table : List ℕ) → length (finished r table) ≤ 180
unfolding answer_of answer_frames
answer-fits r table =
    let k = end_refusal r table (line_held r) in
    by-test (eqb k 0)
    (λ (e : eqb k 0 ≡ true).
    let end = complete-end r table (line_held r) (eqb-true k 0 e) in
    let ok = (settings-accepted r.settings).0 (settings-known r (omega (arith, end.1))) in
    rw e (omega (arith, played-long r.settings (table_given r.settings table), ok.fifteen)))
    (λ (e : eqb k 0 ≡ false). rw e (omega (arith, refusal-long k (refused_line r))))

-- the first bytes of a buffer that holds a text are the text
first-bytes : (out text : List ℕ) → length text ≤ length out → take (length_after out text) (out_after out text) ≡ text
unfolding length_after out_after holds
first-bytes out text room = rw (le-leb (length text) (length out) room) (take-append_seam text _)

-- what `play` lends to `finish`
abbrev pub buffer : List ℕ
buffer = replicate 180 0

-- What `play` hands on to be written, after whatever `read_all` fed, is the answer to all that came.
pub program-writes : (d : Desk) (f : Fed (begun (replicate 52808 0) (replicate 3301 0)) d)
    → take (length_after buffer (finished d.reader d.table)) (out_after buffer (finished d.reader d.table)) ≡ output_of (flatten f.pieces)
unfolding output_of
program-writes d f =
    first-bytes buffer (finished d.reader d.table) (omega (arith, answer-fits d.reader d.table, length-replicate {A = ℕ} 180 0))
    ∙ (rw f.fed (any-pieces (replicate 52808 0) (replicate 3301 0) f.pieces))

-- So where the input was read to its end, the first bytes of the buffer are the answer to the file that it was.
pub answered : (left rest before now : Option (List ℕ)) (d : Desk) (n : ℕ) (out : List ℕ)
    → FedFrom left rest (begun (replicate 52808 0) (replicate 3301 0)) d → IsAtEnd rest
    → n ≡ length_after buffer (finished d.reader d.table) → out ≡ out_after buffer (finished d.reader d.table)
    → Appends before now (take n out) → Answers left rest before now
answered left rest before now d n out from ended long is written =
    record { file = flatten from.all.pieces; taken = from.taken; ended = ended; written = rw (long, is, program-writes d from.all) at written }

-- Of an input that has the bytes of x and an output that holds some: the output then holds these and the answer to x.
pub known : (x held : List ℕ) (rest now : Option (List ℕ)) → Answers (Some x) rest (Some held) now → now ≡ Some (held ++ output_of x)
known x held None now a = elim a.taken [ ]
known x held (Some ys) None a = elim a.written [ ]
known x held (Some ys) (Some now) a = rw (a.written, a.taken, a.ended, append-nil)
