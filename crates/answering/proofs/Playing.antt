-- The exchange that is played at the end of a file, and its lines.
use mathlib.Core.Path.{◌≡◌, refl, sym, ap, ap₂, ◌∙◌}
use mathlib.Core.Bool.{true, false}
use mathlib.Core.List.{List, [], ◌∷◌, ◌++◌, map, append-nil}
use Prim.Native.Nat.{ℕ, zero, suc, ◌+◌, ◌*◌, ◌/◌, ◌%◌, ◌≤◌, ◌<◌}
use native.Mathlib.Omega.{arith}
use lib.ListN.{length, take, get_or, replicate, length-append}
use lib.Seq.{length-take-le}
use lib.Count.{ones, ones-le}
use lib.Dec.{leb}
use borrow.Author.Tests.{eq-eqb}
use Rattle.std.specs.Prelude.{Result, Ok, Err, IsOk}
use Rattle.rules.specs.Lists.{up_to}
use Rattle.rules.specs.Words.{word_at, bytes_of}
use Rattle.rules.specs.Cells.{cells}
use Rattle.rules.specs.Decision.{word_of}
use Rattle.rules.specs.Exchange.{class_of, slot, slots, row_of, played, row_after}
use Rattle.rules.specs.Numbers.{RefusedOr}
use Rattle.rules.specs.Refusals.{exchange_refusal}
use Rattle.rules.specs.declared.Refusal.{Refusal}
use Rattle.rules.specs.declared.Settings.{Settings}
use Rattle.rules.specs.declared.Summary.{Summary}
use Rattle.rules.proofs.Counting.{by-test, map-append}
use Rattle.rules.proofs.Numbers.{number-some}
use Rattle.rules.proofs.Accepted.{SettingsAccepted, settings-accepted, exchange-accepted, layout_of}
use Rattle.rules.proofs.Growth.{messages-most}
use Rattle.rules.proofs.Summaries.{ties-fit}
use Rattle.rules.proofs.DecisionRow.{row_word}
use Rattle.scenario.specs.File.{table_given}
use Rattle.scenario.specs.Answer.{node_frame, summary_frame, played_frames, line_of, text_of}
use Rattle.answering.specs.Finish.{out_after, length_after, row_frame, row_text, SummaryFits, Playable}
use Rattle.answering.proofs.AnswerText.{too_long, line-long, row-long, text-append}

-- ---- the parts that are lent to the exchange

-- a row of zeros for 15 nodes
abbrev pub blank : List ℕ
blank = replicate 30 0

module _ (s : Settings) (table : List ℕ) (ok : Playable s table) where
  pub facts : SettingsAccepted s
  facts = (settings-accepted s).0 ok.settings

  -- 15 nodes have 30 bytes
  pub row_few : 2 * s.n ≤ 30
  row_few = omega (arith, facts.fifteen)

  -- the part of the row that is lent has two bytes for each node
  pub row_part : 2 * s.n ≡ length (take (2 * s.n) blank)
  row_part = sym (length-take-le (2 * s.n) blank row_few)

  module _ (k : ℕ) (is : k ≡ cells s.n s.m) where
    -- the part of the table has two for each cell
    table_part : 2 * k ≡ length (take (2 * k) table)
    table_part = sym (length-take-le (2 * k) table (omega (arith, ok.long)))

    allowed : exchange_refusal s (length (take (2 * k) table)) (length (take (2 * s.n) blank)) ≡ 0
    allowed = (exchange-accepted s _ _).1 (record { settings = facts; table_is = sym table_part ∙ rw is; row_is = sym row_part })

    -- with such parts the exchange is played
    pub is_played : (x : Result Summary Refusal)
        → RefusedOr (exchange_refusal s (length (take (2 * k) table)) (length (take (2 * s.n) blank))) (λ y. y ≡ played s (take (2 * k) table)) x → IsOk x
    is_played (Ok y) p = refl
    is_played (Err e) p = absurd (number-some e (p ∙ allowed))

    -- and its summary and its row are those of the table that the file gives
    pub summary_played : (x : Result Summary Refusal)
        → RefusedOr (exchange_refusal s (length (take (2 * k) table)) (length (take (2 * s.n) blank))) (λ y. y ≡ played s (take (2 * k) table)) x
        → (y : Summary) → x ≡ Ok y → y ≡ played s (table_given s table)
    unfolding table_given
    summary_played x p y e = let q = rw (e, is) at p in q.1

    pub row_played : (row : List ℕ) → row ≡ row_after s (take (2 * k) table) (take (2 * s.n) blank) → row ≡ row_of s (table_given s table)
    unfolding row_after table_given
    row_played row e = rw (e, eq-eqb _ 0 allowed, is)

-- ---- a node's line from the decision row

-- the bytes of words are their quotients and rests by 256
low_byte : (ws : List ℕ) (i : ℕ) → get_or (bytes_of ws) (2 * i + 1) 0 < 256
unfolding bytes_of
low_byte [] i = omega arith
low_byte (w ∷ ws) zero = omega arith
low_byte (w ∷ ws) (suc i) = let e : 2 * suc i + 1 ≡ suc (suc (2 * i + 1)) = omega arith in rw e (low_byte ws i)

module _ (s : Settings) (table : List ℕ) where
  node-frame : (i : ℕ) → i < s.n → row_frame s (row_of s table) i ≡ node_frame s table i
  unfolding row_frame node_frame bytes_of word_at row_of
  node-frame i h =
      let word : get_or (row_of s table) (2 * i) 0 * 256 + get_or (row_of s table) (2 * i + 1) 0 ≡ (slot s table i).word = row_word s table i h in
      let low : get_or (row_of s table) (2 * i + 1) 0 < 256 = low_byte (map word_of (slots s table)) i in
      let first : get_or (row_of s table) (2 * i) 0 ≡ (slot s table i).word / 256 = omega arith in
      let second : get_or (row_of s table) (2 * i + 1) 0 ≡ (slot s table i).word % 256 = omega arith in
      rw (first, second)

  frames-below : (n : ℕ) → n ≤ s.n → map (row_frame s (row_of s table)) (up_to n) ≡ map (node_frame s table) (up_to n)
  unfolding up_to
  frames-below zero h = refl
  frames-below (suc n) h =
      map-append (row_frame s (row_of s table)) (up_to n) (n ∷ [])
      ∙ ap₂ ◌++◌ (frames-below n (omega arith)) (ap (λ f. f ∷ []) (node-frame n (omega arith)))
      ∙ sym (map-append (node_frame s table) (up_to n) (n ∷ []))

  -- the answer is the nodes' lines and the summary's
  played-text : text_of (played_frames s table) ≡ row_text s (row_of s table) s.n ++ line_of (summary_frame (played s table))
  unfolding played_frames row_text text_of
  played-text = rw (text-append, frames-below s.n (omega arith), append-nil)

  -- eleven bytes for each node, and fifteen
  pub played-long : length (text_of (played_frames s table)) ≡ 11 * s.n + 15
  unfolding summary_frame bytes_of
  played-long = rw (played-text, length-append, row-long, line-long)

  -- a buffer shorter than that stays as it was
  pub answer_short : (out : List ℕ) → length out < 11 * s.n + 15
      → (0 ≡ length_after out (text_of (played_frames s table))) × (out ≡ out_after out (text_of (played_frames s table)))
  answer_short out = too_long out _ (11 * s.n + 15) played-long

-- ---- the answer, as it grows

module _ (s : Settings) (table : List ℕ) (ok : Playable s table) where
  class-small : (f m u : ℕ) → class_of f m u < 256
  unfolding class_of
  class-small f m u =
      by-test (leb f m) (λ (e : leb f m ≡ true). rw e (omega arith))
      (λ (e : leb f m ≡ false). rw e (by-test (leb f u) (λ (e' : leb f u ≡ true). rw e' (omega arith)) (λ (e' : leb f u ≡ false). rw e' (omega arith))))

  -- every number of the summary fits its place
  pub summary_fits : (y : Summary) → y ≡ played s (table_given s table) → SummaryFits y
  unfolding played
  summary_fits y is =
      let accepted = facts s table ok in
      rw is (record {
        faults = omega (arith, ones-le s.n s.faults accepted.faults-below, accepted.fifteen);
        fault-class = class-small (ones s.faults) s.m s.u;
        ties = omega (arith, ties-fit s (table_given s table) accepted);
        messages = omega (arith, messages-most s.n s.m (layout_of s accepted));
      })

module _ (s : Settings) (row was now : List ℕ) (none : was ≡ []) (is : now ≡ was ++ row_text s row s.n) where
  -- so long are the nodes' lines
  pub nodes_long : length now ≡ 11 * s.n
  nodes_long = rw (is, none, row-long)

  -- and with the summary's behind them the text is the answer
  pub text_whole : (table : List ℕ) → row ≡ row_of s table → (y : Summary) → y ≡ played s table
      → (all : List ℕ) → all ≡ now ++ line_of (summary_frame y) → all ≡ text_of (played_frames s table)
  text_whole table row_is y y_is all e = rw (e, is, none, row_is, y_is, played-text)
