-- What is answered, whole: an accepted file has a line for each node and then the summary's, a refused one has one line. As a text each
-- frame is a line of its own, which reads back as that frame.
use mathlib.Core.Path.{◌≡◌, refl, sym, ap, ap₂, ◌∙◌}
use mathlib.Core.Logic.{◌≢◌}
use mathlib.Core.Bool.{true, false}
use mathlib.Core.List.{List, [], ◌∷◌, ◌++◌, map, append-nil, append_assoc}
use Prim.Native.Nat.{ℕ, ◌+◌, ◌*◌, ◌/◌, ◌%◌, ◌≤◌, ◌<◌}
use native.Mathlib.Omega.{arith}
use lib.ListN.{length, get_or, length-append, length-map, get_or-append}
use lib.Seq.{get_or_at, get_or-take, length-take-le}
use lib.Dec.{eqb}
use borrow.Author.Tests.{eqb-false, ne_eqb, not-true}
use Rattle.std.proofs.lemmas.List.{get_or-map}
use Rattle.std.proofs.lemmas.Bool.Decides.{nat_tests}
use Rattle.rules.specs.Lists.{all, up_to}
use Rattle.rules.specs.Cells.{cells}
use Rattle.rules.specs.Exchange.{played}
use Rattle.rules.specs.Refusals.{first}
use Rattle.rules.specs.declared.Settings.{Settings}
use Rattle.rules.proofs.Counting.{and_both, length-up_to, nth-up_to}
use Rattle.scenario.specs.Hex.{digit_of, frame_of, digits_of}
use Rattle.scenario.specs.Lines.{lines_of, rest_of}
use Rattle.scenario.specs.Reasons.{stopped}
use Rattle.scenario.specs.File.{file_judged, end_reasons, end_refusal, refused_line, table_given, file_refusal, file_settings, file_table}
use Rattle.scenario.specs.Answer.{node_frame, summary_frame, refusal_frame, played_frames, answer_frames, line_of, text_of, answer_of, answer_to}
use Rattle.scenario.specs.declared.Reader.{Reader}
use Rattle.scenario.proofs.Hexadecimal.{read_back}
use Rattle.scenario.proofs.Cutting.{joined, not_end, endless, lines-again, rest-again}
use Rattle.scenario.proofs.Fields.{refusal-fields}

-- ---- the frames of an accepted file

module _ (s : Settings) (table : List ℕ) where
  nodes : List (List ℕ)
  nodes = map (node_frame s table) (up_to s.n)

  nodes-count : length nodes ≡ s.n
  unfolding nodes
  nodes-count = length-map (up_to s.n) (node_frame s table) ∙ length-up_to s.n

  -- N+1 of them: in place i that of node i, in the last place the summary's
  pub played-count : length (played_frames s table) ≡ s.n + 1
  unfolding played_frames nodes
  played-count = length-append nodes (summary_frame (played s table) ∷ []) ∙ ap (λ k. k + 1) nodes-count

  pub played-node : (i : ℕ) → i < s.n → get_or (played_frames s table) i [] ≡ node_frame s table i
  unfolding played_frames nodes
  played-node i h =
      get_or-append nodes (summary_frame (played s table) ∷ []) [] i (omega (arith, nodes-count))
      ∙ get_or-map (node_frame s table) (up_to s.n) i 0 [] (omega (arith, length-up_to s.n))
      ∙ ap (node_frame s table) (nth-up_to s.n i h)

  pub played-summary : get_or (played_frames s table) s.n [] ≡ summary_frame (played s table)
  unfolding played_frames nodes
  played-summary = get_or_at nodes (summary_frame (played s table)) [] [] s.n nodes-count

  -- the exchange is handed the first 2M bytes of what was lent
  pub given-length : 2 * cells s.n s.m ≤ length table → length (table_given s table) ≡ 2 * cells s.n s.m
  unfolding table_given
  given-length enough = length-take-le (2 * cells s.n s.m) table enough

  pub given-byte : (i : ℕ) → i < 2 * cells s.n s.m → get_or (table_given s table) i 0 ≡ get_or table i 0
  unfolding table_given
  given-byte i h = get_or-take (2 * cells s.n s.m) table i 0 h

-- ---- the frames of an answer

module _ (r : Reader) (table rest : List ℕ) where
  pub answer-played : end_refusal r table rest ≡ 0 → answer_frames r table rest ≡ played_frames r.settings (table_given r.settings table)
  unfolding answer_frames
  answer-played none = rw none

  pub answer-refused : end_refusal r table rest ≢ 0 → answer_frames r table rest ≡ refusal_frame (end_refusal r table rest) (refused_line r) ∷ []
  unfolding answer_frames
  answer-refused ne = rw (ne_eqb (end_refusal r table rest) 0 ne)

  -- where a line was refused: its number and its line
  stop-number : stopped r ≡ true → end_refusal r table rest ≡ r.refusal
  unfolding end_reasons first
  stop-number stop = rw stop

  stop-frames : stopped r ≡ true → answer_frames r table rest ≡ refusal_frame r.refusal r.lines ∷ []
  unfolding refused_line
  stop-frames stop =
      answer-refused (λ none. eqb-false r.refusal 0 (not-true (eqb r.refusal 0) stop) (sym (stop-number stop) ∙ none))
      ∙ ap₂ (λ k i. refusal_frame k i ∷ []) (stop-number stop) (rw stop)

  pub answer-stopped : stopped r ≡ true → answer_of r table rest ≡ line_of (0x1f ∷ r.refusal ∷ r.lines / 256 ∷ r.lines % 256 ∷ [])
  unfolding answer_of text_of
  answer-stopped stop = rw (stop-frames stop, refusal-fields r.refusal r.lines) (append-nil (line_of (0x1f ∷ r.refusal ∷ r.lines / 256 ∷ r.lines % 256 ∷ [])))

  -- where none was and yet the file is refused, the line is 0
  pub answer-unfinished : stopped r ≡ false → end_refusal r table rest ≢ 0 → answer_of r table rest ≡ line_of (0x1f ∷ end_refusal r table rest ∷ 0 ∷ 0 ∷ [])
  unfolding answer_of text_of refused_line
  answer-unfinished going ne =
      let k = end_refusal r table rest in
      rw (answer-refused ne, refusal-fields k (refused_line r), going) (append-nil (line_of (0x1f ∷ k ∷ 0 ∷ 0 ∷ [])))

-- ---- the answer to a whole file

module _ (table marks x : List ℕ) where
  -- a file that is accepted: the lines of the exchange that its settings and its table make
  pub file-played : file_refusal table marks x ≡ 0 → answer_to table marks x ≡ text_of (played_frames (file_settings table marks x) (file_table table marks x))
  unfolding answer_to answer_of
  file-played none = ap text_of (answer-played (file_judged table marks x).reader (file_judged table marks x).table (rest_of x) none)

  -- one with no refused line that is refused all the same, which is one that was cut short: its number, and line 0
  pub file-cut : stopped (file_judged table marks x).reader ≡ false → file_refusal table marks x ≢ 0
      → answer_to table marks x ≡ line_of (0x1f ∷ file_refusal table marks x ∷ 0 ∷ 0 ∷ [])
  unfolding answer_to
  file-cut = answer-unfinished (file_judged table marks x).reader (file_judged table marks x).table (rest_of x)

-- ---- the text of an answer

-- no digit is an LF
digit-no-end : (v : ℕ) → not_end (digit_of v) ≡ true
unfolding digit_of
digit-no-end v = grind (arith, nat_tests)

digits-no-end : (frame : List ℕ) → all not_end (digits_of frame) ≡ true
unfolding digits_of all
digits-no-end [] = refl
digits-no-end (b ∷ frame) = and_both (digit-no-end (b / 16)) (and_both (digit-no-end (b % 16)) (digits-no-end frame))

-- a text is its frames' digits, each line with its LF, and nothing behind them
text-joined : (frames : List (List ℕ)) → text_of frames ≡ joined (map digits_of frames) []
unfolding text_of line_of joined
text-joined [] = refl
text-joined (frame ∷ frames) = append_assoc (digits_of frame) (10 ∷ []) (text_of frames) ∙ ap (λ t. digits_of frame ++ (10 ∷ t)) (text-joined frames)

text-clean : (frames : List (List ℕ)) → endless (map digits_of frames) [] ≡ true
unfolding endless all
text-clean [] = refl
text-clean (frame ∷ frames) = and_both (digits-no-end frame) (text-clean frames)

pub text-lines : (frames : List (List ℕ)) → lines_of (text_of frames) ≡ map digits_of frames
text-lines frames = rw (text-joined frames) (lines-again (map digits_of frames) [] (text-clean frames))

pub text-ends : (frames : List (List ℕ)) → rest_of (text_of frames) ≡ []
text-ends frames = rw (text-joined frames) (rest-again (map digits_of frames) [] (text-clean frames))

-- read again they are the frames
pub text-read : (frames : List (List ℕ)) → map frame_of (lines_of (text_of frames)) ≡ frames
text-read frames = rw (text-lines frames) (again frames)
  where
    again : (frames : List (List ℕ)) → map frame_of (map digits_of frames) ≡ frames
    again [] = refl
    again (frame ∷ frames) = ap₂ ◌∷◌ (read_back frame) (again frames)
