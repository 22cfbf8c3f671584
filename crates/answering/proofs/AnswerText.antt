-- The answer's text, as the code writes it: line after line from the start of the buffer.
use mathlib.Core.Path.{◌≡◌, refl, ap, ◌∙◌}
use mathlib.Core.Bool.{true, false}
use mathlib.Core.List.{List, [], ◌∷◌, ◌++◌, append_assoc, append-nil}
use Prim.Native.Nat.{ℕ, zero, suc, ◌+◌, ◌*◌, ◌/◌, ◌%◌, ◌≤◌, ◌<◌}
use native.Mathlib.Numerals.{add-one}
use native.Mathlib.Omega.{arith}
use borrow.Author.Tests.{eq-eqb, ne_eqb, leb-true, le-leb, lt-leb}
use lib.Dec.{leb}
use lib.ListN.{length, take, drop, get_or, length-append}
use lib.Seq.{length-take-le}
use Rattle.rules.specs.Lists.{up_to}
use Rattle.rules.specs.Words.{bytes_of, faulty}
use Rattle.rules.specs.declared.Settings.{Settings}
use Rattle.rules.specs.declared.Summary.{Summary}
use Rattle.rules.proofs.Counting.{by-test, map-append}
use Rattle.scenario.specs.Answer.{word_bytes, role_of, refusal_frame, summary_frame, line_of, text_of}
use Rattle.answering.specs.Finish.{holds, out_after, length_after, row_frame, row_text, SummaryFits}
use Rattle.scenario.proofs.Hexadecimal.{length_digits}

-- ---- a text in a buffer

module _ (out text : List ℕ) (n : ℕ) (long : length text ≡ n) where
  -- a text that the buffer cannot hold is not there, and the buffer stays as it was
  pub too_long : length out < n → (0 ≡ length_after out text) × (out ≡ out_after out text)
  unfolding length_after out_after holds
  too_long h = let e = lt-leb (length text) (length out) (omega (arith, long)) in (rw e, rw e)

module _ (out text bytes : List ℕ) (n : ℕ) (is : take n bytes ≡ text) (whole : n ≤ length bytes) where
  long : length text ≡ n
  long = rw (← is) (length-take-le n bytes whole)

  -- the same of one that is the first n of some bytes
  pub no_room : length out < n → (0 ≡ length_after out text) × (out ≡ out_after out text)
  no_room = too_long out text n long

  -- one that it holds stands in the first bytes
  pub copied : n ≤ length out → (start : List ℕ) → start ≡ take n bytes → (n ≡ length_after out text) × (start ++ drop n out ≡ out_after out text)
  unfolding length_after out_after holds
  copied h start e = let e' = le-leb (length text) (length out) (omega (arith, long)) in (rw (e', long), rw (e', long, e, is))

module _ (out text : List ℕ) where
  -- what is returned lies within the buffer
  pub length-within : length_after out text ≤ length out
  unfolding length_after holds
  length-within =
      by-test (leb (length text) (length out))
      (λ (e : leb (length text) (length out) ≡ true). rw e (leb-true (length text) (length out) e))
      (λ (e : leb (length text) (length out) ≡ false). rw e (omega arith))

-- ---- how long lines are

-- two digits a byte, and LF
pub line-long : (frame : List ℕ) → length (line_of frame) ≡ 2 * length frame + 1
unfolding line_of
line-long frame = rw (length-append, length_digits)

-- the text of more frames is their texts one after another
pub text-append : (xs ys : List (List ℕ)) → text_of (xs ++ ys) ≡ text_of xs ++ text_of ys
unfolding text_of
text-append [] ys = refl
text-append (x ∷ xs) ys = rw (text-append xs ys, append_assoc)

-- ---- a refusal's line

-- the text of a refusal is its one line
refusal-text : (k line : ℕ) → text_of (refusal_frame k line ∷ []) ≡ line_of (refusal_frame k line)
unfolding text_of
refusal-text k line = append-nil (line_of (refusal_frame k line))

-- nine bytes
pub refusal-long : (k line : ℕ) → length (text_of (refusal_frame k line ∷ [])) ≡ 9
unfolding refusal_frame bytes_of
refusal-long k line = ap length (refusal-text k line) ∙ line-long (refusal_frame k line)

-- and a buffer shorter than that stays as it was
module _ (k line : ℕ) (out : List ℕ) (short : length out < 9) where
  pub refusal_none : 0 ≡ length_after out (text_of (refusal_frame k line ∷ []))
  refusal_none = (too_long out _ 9 (refusal-long k line) short).0

  pub refusal_kept : out ≡ out_after out (text_of (refusal_frame k line ∷ []))
  refusal_kept = (too_long out _ 9 (refusal-long k line) short).1

-- a word as the two bytes that the code makes of it
bytes_made : (w : ℕ) → w < 65536 → (pair : List ℕ) → pair ≡ (w / 256 % 256 ∷ w % 256 ∷ []) → get_or pair 0 0 ∷ get_or pair 1 0 ∷ [] ≡ word_bytes w
unfolding bytes_of
bytes_made w h pair e = let high : w / 256 % 256 ≡ w / 256 = omega arith in rw (e, high)

-- the line, with its word as two bytes
pub refusal_line : (k line : ℕ) → line < 65536 → (pair : List ℕ) → pair ≡ (line / 256 % 256 ∷ line % 256 ∷ [])
    → (was now : List ℕ) → was ≡ [] → now ≡ was ++ line_of (0x1f ∷ k ∷ get_or pair 0 0 ∷ get_or pair 1 0 ∷ []) → now ≡ text_of (refusal_frame k line ∷ [])
unfolding refusal_frame
refusal_line k line h pair e was now none is = rw (is, none, refusal-text, bytes_made line h pair e)

-- ---- the nodes' lines

module _ (s : Settings) (i : ℕ) where
  -- a faulty node's role
  pub role_faulty : faulty s.faults i ≡ true → 2 ≡ role_of s i
  unfolding role_of
  role_faulty e = rw e

  -- a fault-free sender's
  pub role_sender : faulty s.faults i ≡ false → i ≡ s.sender → 0 ≡ role_of s i
  unfolding role_of
  role_sender ne e = rw (ne, eq-eqb i s.sender e)

  -- a fault-free receiver's
  pub role_receiver : faulty s.faults i ≡ false → (i ≡ s.sender → ⊥) → 1 ≡ role_of s i
  unfolding role_of
  role_receiver ne e = rw (ne, ne_eqb i s.sender e)

module _ (s : Settings) (row : List ℕ) where
  -- a node's line, with its role written out
  pub node_line : (i role n : ℕ) → role ≡ role_of s i → n ≡ role → (was now : List ℕ)
      → now ≡ was ++ line_of (0x11 ∷ i ∷ n ∷ get_or row (2 * i) 0 ∷ get_or row (2 * i + 1) 0 ∷ []) → now ≡ was ++ line_of (row_frame s row i)
  unfolding row_frame
  node_line i role n is same was now e = rw (e, same, is)

  -- one more node is one more line
  row_more : (i : ℕ) → row_text s row (suc i) ≡ row_text s row i ++ line_of (row_frame s row i)
  unfolding row_text up_to text_of
  row_more i = rw (map-append, text-append, append-nil)

  -- eleven bytes each
  pub row-long : (i : ℕ) → length (row_text s row i) ≡ 11 * i
  unfolding row_text up_to text_of row_frame
  row-long zero = refl
  row-long (suc i) =
      rw (row_more i, length-append, line-long) (omega (arith, row-long i))

  -- a turn of the loop: one more node, one more line
  pub nodes_more : (was now : List ℕ) (i : ℕ) → now ≡ was ++ row_text s row i
      → (now' : List ℕ) → now' ≡ now ++ line_of (row_frame s row i) → now' ≡ was ++ row_text s row (i + 1)
  nodes_more was now i is now' more = rw (more, is, add-one, row_more, append_assoc)

-- ---- the summary's line

-- with its words as two bytes each
pub summary_line : (y : Summary) → SummaryFits y → (ties messages : List ℕ) → ties ≡ (y.ties / 256 % 256 ∷ y.ties % 256 ∷ [])
    → messages ≡ (y.messages / 256 % 256 ∷ y.messages % 256 ∷ []) → (was now : List ℕ)
    → now ≡ was ++ line_of (0x12 ∷ y.faults ∷ y.fault_class ∷ get_or ties 0 0 ∷ get_or ties 1 0 ∷ get_or messages 0 0 ∷ get_or messages 1 0 ∷ [])
    → now ≡ was ++ line_of (summary_frame y)
unfolding summary_frame
summary_line y fits ties messages t m was now e =
    rw (e, ← bytes_made y.ties fits.ties ties t, ← bytes_made y.messages fits.messages messages m)
