-- Worked files: whole inputs and their whole outputs, among them the paper's sample with what the program lends. Table and marks are
-- filled with other bytes before, which an accepted `01` line clears.
use mathlib.Core.Path.{◌≡◌, refl}
use mathlib.Core.Bool.{Bool, true}
use mathlib.Core.List.{List, [], ◌∷◌}
use Prim.Native.Nat.{ℕ}
use Prim.Native.Char.{code}
use Prim.Native.String as S
use lib.ListN.{replicate}
use lib.Count.{ones}
use Rattle.rules.specs.Lists.{count, keep, all, up_to, total}
use Rattle.rules.specs.Words.{word_at, reserved, plain, bytes_of, put_word, faulty}
use Rattle.rules.specs.Routes.{back, free, receiver, receivers, is_path, is_route}
use Rattle.rules.specs.Cells.{routes_of, cells_before, cells, digit, rank, cell}
use Rattle.rules.proofs.Cases.{same, every}
use Rattle.rules.specs.Delivered.{delivered}
use Rattle.rules.specs.Vote.{reaches, settle, vote}
use Rattle.rules.specs.Decision.{via, judge, decide, nodes_at, threshold, byz, decision}
use Rattle.rules.specs.Exchange.{class_of, slot, slots, tie_count, played}
use Rattle.rules.specs.Refusals.{first, wrong_nodes, wrong_rounds, low_bound, too_few, no_sender, reserved_value, stray_fault, no_route, settings_reasons}
use Rattle.scenario.specs.Hex.{is_digit, digit_value, digit_of, frame_of, digits_of}
use Rattle.scenario.specs.Lines.{lines_from, rest_from}
use Rattle.scenario.specs.Frames.{settings_in, route_in, word_told, count_in}
use Rattle.scenario.specs.Marks.{marked, mark}
use Rattle.scenario.specs.Reasons.{stage_of, no_frame, in_place, out_of_place, size_of, wrong_size, cell_in, routeless, given_before, wrong_count, short_table, short_marks, lent_reasons, open_reasons, tell_reasons, close_reasons, kind_reasons, line_reasons}
use Rattle.scenario.specs.Judging.{one_more, after, opened, told, closed, refused_with, accepted, settled, judged}
use Rattle.scenario.specs.File.{fresh, file_judged, cut_short, end_reasons, refused_line, table_given}
use Rattle.scenario.specs.Answer.{role_of, node_frame, summary_frame, refusal_frame, played_frames, answer_frames, line_of, text_of, answer_of, answer_to, output_of}

-- the bytes of a text
unfoldable pub bytes_in : S.String → List ℕ
bytes_in S.[] = []
bytes_in (S.◌∷◌ c t) = code c ∷ bytes_in t

-- a file, the bytes of table and marks that are lent, and the answer
pub record Case : Type 0 where
  pub input : S.String
  pub table : ℕ
  pub marks : ℕ
  pub output : S.String

abbrev pub sample_input : S.String
sample_input = "010501020000070018\n020203010009\n020204010009\n020204020007\n030003\n"

abbrev pub sample_output : S.String
sample_output = "1100000007\n1101010000\n1102010007\n110302FFFF\n110402FFFF\n12020200000010\n"

-- with what the program lends
abbrev pub case : S.String → S.String → Case
case input output = record { input = input; table = 52808; marks = 3301; output = output }

-- N=5, m=1 has 16 cells: 32 bytes and 2 bytes are enough
abbrev pub lent : ℕ → ℕ → S.String → S.String → Case
lent table marks input output = record { input = input; table = table; marks = marks; output = output }

unfoldable pub cases : List Case
cases =
    lent 32 2 sample_input sample_output
    -- f and the class differ, and the sender is faulty: more faults than u
    ∷ lent 18 2 "010401010000000009\n0201010005\n0201020006\n020203010005\n020203020006\n030004\n" "110002FFFF\n1101010005\n1102010006\n110302FFFF\n12020300000009\n"
    ∷ case "" "1F1A0000\n"  -- no line
    ∷ case "\n" "1F140001\n"  -- 20: no digits
    ∷ case "010\n" "1F140001\n"  -- an odd number
    ∷ case "01050102000007001800\n" "1F140001\n"  -- more than 18
    ∷ case "01050102000007001800" "1F1A0000\n"  -- the same, unfinished
    ∷ case "0105010200000700fF\n" "1F140001\n"  -- lower case
    ∷ case "020203010009\n" "1F150001\n"  -- 21: an `02` line first
    ∷ case "04\n" "1F150001\n"  -- an unknown kind
    ∷ case "01\n" "1F160001\n"  -- 22
    ∷ case "011000020000070018\n" "1F010001\n"  -- N=16 with m=0 gives 1
    ∷ case "010702010000070018\n" "1F030001\n"  -- N=7, m=2, u=1 gives 3
    ∷ case "010702030000070018\n" "1F040001\n"  -- N=7, m=2, u=3 gives 4
    ∷ case "01050102000007FFFF\n" "1F070001\n"  -- a fault bit at N or above
    ∷ lent 32 2 "010501020000070018\n02\n" "1F160002\n"
    ∷ lent 32 2 "010501020000070018\n02000009\n" "1F170002\n"  -- 23: L=0
    ∷ lent 32 2 "010501020000070018\n020501020304050009\n" "1F170002\n"  -- L=5
    ∷ lent 32 2 "010501020000070018\n0201000009\n" "1F170002\n"  -- the sender
    ∷ lent 32 2 "010501020000070018\n020203010009\n02020301FFFF\n" "1F180003\n"  -- 24
    ∷ lent 32 2 "010501020000070018\n030001\n" "1F190002\n"  -- 25
    ∷ lent 32 2 "010501020000070018\n030000\n030000\n" "1F150003\n"  -- a line after `03`
    ∷ lent 32 2 "010501020000070018\n030000\n\n" "1F140003\n"  -- 20 comes before 21
    ∷ lent 32 2 "010501020000070018\n030000\n\n0" "1F140003\n"  -- a refused line wins over an unfinished one
    ∷ lent 32 2 "010501020000070018\n030000\n0" "1F1A0000\n"  -- 26: an unfinished line
    ∷ lent 32 2 "010501020000070018\n030000" "1F1A0000\n"  -- no complete `03` line
    ∷ lent 31 2 sample_input "1F080001\n"  -- a short table
    ∷ lent 31 1 sample_input "1F080001\n"  -- 8 before 10
    ∷ lent 32 1 sample_input "1F0A0001\n"  -- short marks
    ∷ lent 31 1 "010702010000070018\n" "1F030001\n"  -- a line's other refusals come first
    ∷ []

unfoldable pub holds : Case → Bool
holds c = same (answer_to (replicate c.table 0xff) (replicate c.marks 0xff) (bytes_in c.input)) (bytes_in c.output)

pub worked : every holds cases ≡ true
unfolding cases holds every same bytes_in ones count keep all up_to total word_at reserved plain bytes_of put_word faulty back free receiver receivers is_path is_route routes_of cells_before cells digit rank cell delivered reaches settle vote via judge decide nodes_at threshold byz decision class_of slot slots tie_count played first wrong_nodes wrong_rounds low_bound too_few no_sender reserved_value stray_fault no_route settings_reasons is_digit digit_value digit_of frame_of digits_of lines_from rest_from settings_in route_in word_told count_in marked mark stage_of no_frame in_place out_of_place size_of wrong_size cell_in routeless given_before wrong_count short_table short_marks lent_reasons open_reasons tell_reasons close_reasons kind_reasons line_reasons one_more after opened told closed refused_with accepted settled judged fresh file_judged cut_short end_reasons refused_line table_given role_of node_frame summary_frame refusal_frame played_frames answer_frames line_of text_of answer_of answer_to
worked = refl

-- the paper's own sample, said of the program's answer
pub sample : output_of (bytes_in sample_input) ≡ bytes_in sample_output
unfolding bytes_in ones count keep all up_to total word_at reserved plain bytes_of put_word faulty back free receiver receivers is_path is_route routes_of cells_before cells digit rank cell delivered reaches settle vote via judge decide nodes_at threshold byz decision class_of slot slots tie_count played first wrong_nodes wrong_rounds low_bound too_few no_sender reserved_value stray_fault no_route settings_reasons is_digit digit_value digit_of frame_of digits_of lines_from rest_from settings_in route_in word_told count_in marked mark stage_of no_frame in_place out_of_place size_of wrong_size cell_in routeless given_before wrong_count short_table short_marks lent_reasons open_reasons tell_reasons close_reasons kind_reasons line_reasons one_more after opened told closed refused_with accepted settled judged fresh file_judged cut_short end_reasons refused_line table_given role_of node_frame summary_frame refusal_frame played_frames answer_frames line_of text_of answer_of answer_to output_of
sample = refl
