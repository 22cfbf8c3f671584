-- A file may come in any pieces: fed one after another, and then ended, they give the answer of the whole file.
-- Between its lines the reader holds nothing; while a line is begun it holds the line's first bytes, and that is all that ever
-- counts, since a line longer than what is held is refused for its length.
use mathlib.Core.Path.{◌≡◌, refl, sym, ap, ◌∙◌}
use mathlib.Core.Logic.{⊎_elim}
use mathlib.Core.Bool.{true, false, cond, or-true}
use mathlib.Core.List.{List, [], ◌∷◌, ◌++◌, append-nil, foldl, foldl-append, flatten}
use Prim.Native.Nat.{ℕ, ◌≤◌, ◌<◌}
use native.Mathlib.Numerals.{add-one}
use native.Mathlib.Omega.{arith}
use lib.ListN.{length, take, replicate, length-take, length-set}
use lib.Seq.{take_all, take-suc-set, take-append-le, append_snoc}
use lib.Dec.{eqb, ltb}
use borrow.Author.Tests.{lt-ltb, ltb-true, ltb-false, ne_eqb}
use Rattle.std.proofs.lemmas.Bool.{cases_lt}
use Rattle.std.proofs.lemmas.Bool.Decides.{nat_tests}
use Rattle.rules.specs.Refusals.{first}
use Rattle.rules.proofs.Counting.{by-test}
use Rattle.scenario.specs.Lines.{line_end, lines_from, rest_from}
use Rattle.scenario.specs.Reasons.{Desk, stopped, stage_of, no_frame, tell_reasons, close_reasons, open_reasons, lent_reasons, kind_reasons, line_reasons, line_refusal}
use Rattle.scenario.specs.Judging.{after, opened, told, closed, refused_with, accepted, settled, judged, judged_all}
use Rattle.scenario.specs.File.{fresh, begun, file_judged, cut_short, end_reasons, refused_line}
use Rattle.scenario.specs.Answer.{answer_frames, answer_of, answer_to}
use Rattle.scenario.specs.Feeding.{line_held, keeping, with_reader, taken, fed, fed_all, finished}
use Rattle.scenario.specs.declared.Reader.{Reader}
use Rattle.scenario.proofs.Outcomes.{stays, refuses, opens, tells, closes, outcome}

-- ---- a line is judged by its first 19 bytes

-- 20 is given for a line of more than 18 bytes, whatever they are
pub overlong : (d : Desk) (line : List ℕ) → 18 < length line → line_refusal d line ≡ 20
unfolding line_reasons no_frame first
overlong d line h = rw (lt-ltb 18 (length line) h, or-true)

pub by-first-bytes : (d : Desk) (line : List ℕ) → judged d (take 19 line) ≡ judged d line
unfolding settled judged
by-first-bytes d line =
    ⊎_elim
    (λ (long : 18 < length line). rw (overlong d line long, overlong d (take 19 line) (omega (arith, length-take 19 line))))
    (λ few. rw (take_all 19 line (omega (arith, few))))
    (cases_lt 18 (length line))

-- ---- what is held plays no part in judging

-- a reader with nothing held
abbrev pub cleared : Reader → Reader
cleared r = record {
  stage = r.stage;
  settings = r.settings;
  given = r.given;
  lines = r.lines;
  refusal = r.refusal;
  held = replicate 19 0;
  count = 0;
}

-- bytes of a line kept one after another
abbrev pub keeping_all : Reader → List ℕ → Reader
keeping_all r line = foldl keeping r line

cleared-keeping : (r : Reader) (b : ℕ) → cleared (keeping r b) ≡ cleared r
unfolding keeping
cleared-keeping r b = grind arith

cleared-keeping-all : (r : Reader) (line : List ℕ) → cleared (keeping_all r line) ≡ cleared r
cleared-keeping-all r [] = refl
cleared-keeping-all r (b ∷ line) = cleared-keeping-all (keeping r b) line ∙ cleared-keeping r b

judged-cleared : (d : Desk) (line : List ℕ) → stopped d.reader ≡ false → judged d line ≡ judged (with_reader d (cleared d.reader)) line
unfolding settled judged accepted opened told closed refused_with after line_reasons kind_reasons open_reasons tell_reasons close_reasons lent_reasons stage_of
judged-cleared d line h = rw h

-- ---- what is held of a line are its first 19 bytes

-- room for 19 bytes, and no more than that held
record Room (r : Reader) : Type 0 where
  long : length r.held ≡ 19
  most : r.count ≤ 19

keeping-room : (r : Reader) (b : ℕ) → Room r → Room (keeping r b)
unfolding keeping
keeping-room r b k = record { long = grind (arith, length-set r.held r.count b); most = grind (arith, nat_tests) }

-- one byte more is held, or 19 are
keeping-holds : (r : Reader) (b : ℕ) (line : List ℕ) → Room r → take 19 (line_held (keeping r b) ++ line) ≡ take 19 (line_held r ++ (b ∷ line))
unfolding keeping
keeping-holds r b line k =
    let held = r.held in
    by-test (ltb r.count 19)
    (λ (e : ltb r.count 19 ≡ true).
    let room : r.count < length r.held = omega (arith, ltb-true r.count 19 e, k.long) in
    rw (e, add-one, take-suc-set r.held r.count b room, append_snoc (take r.count r.held) b line))
    (λ (e : ltb r.count 19 ≡ false).
    let full : 19 ≤ length (line_held r) = omega (arith, length-take r.count r.held, k.long, ltb-false r.count 19 e) in
    rw (e, take-append-le 19 (line_held r) line full, take-append-le 19 (line_held r) (b ∷ line) full))

holds-first : (r : Reader) (line : List ℕ) → Room r → line_held (keeping_all r line) ≡ take 19 (line_held r ++ line)
holds-first r [] k =
    rw (append-nil, take_all 19 (line_held r) (omega (arith, length-take r.count r.held, k.long)))
holds-first r (b ∷ line) k = holds-first (keeping r b) line (keeping-room r b k) ∙ keeping-holds r b line k

-- ---- from a reader between lines

-- a desk where a line is begun; after a refused line nothing is held any more
unfoldable pub holding : Desk → List ℕ → Desk
holding d line = cond (stopped d.reader) d (with_reader d (keeping_all d.reader line))

-- a reader that has met only complete lines
abbrev pub Between : Desk → Type 0
Between d = d.reader ≡ cleared d.reader

-- after a refused line neither bytes nor lines change anything
taken-stopped : (d : Desk) (b : ℕ) → stopped d.reader ≡ true → taken d b ≡ d
unfolding taken
taken-stopped d b h = rw h

pub fed-stopped : (d : Desk) (x : List ℕ) → stopped d.reader ≡ true → fed d x ≡ d
fed-stopped d [] h = refl
fed-stopped d (b ∷ x) h = rw (taken-stopped d b h) (fed-stopped d x h)

judged-stopped : (d : Desk) (line : List ℕ) → stopped d.reader ≡ true → judged d line ≡ d
unfolding settled judged
judged-stopped d line h = rw h

pub all-stopped : (d : Desk) (lines : List (List ℕ)) → stopped d.reader ≡ true → judged_all d lines ≡ d
all-stopped d [] h = refl
all-stopped d (line ∷ lines) h = rw (judged-stopped d line h) (all-stopped d lines h)

holding-stopped : (d : Desk) (line : List ℕ) → stopped d.reader ≡ true → holding d line ≡ d
unfolding holding
holding-stopped d line h = rw h

holding-none : (d : Desk) → holding d [] ≡ d
unfolding holding
holding-none d = grind arith

-- a judged line leaves the reader between lines
judged-between : (d : Desk) (line : List ℕ) → Between d → Between (judged d line)
unfolding opened told closed refused_with after
judged-between d line between = elim (outcome d line) [
  | stays e to ↦ rw to between
  | refuses e k to ↦ rw to
  | opens e o to ↦ rw to
  | tells e t to ↦ rw to
  | closes e c to ↦ rw to
]

nothing-held : (d : Desk) → Between d → line_held d.reader ≡ []
nothing-held d between = ap line_held between

module _ (d : Desk) (between : Between d) (going : stopped d.reader ≡ false) where
  still-going : (line : List ℕ) → stopped (keeping_all d.reader line) ≡ false
  still-going line = ap stopped (cleared-keeping-all d.reader line) ∙ going

  room : Room d.reader
  room = rw between (record { long = refl; most = omega arith })

  first-held : (line : List ℕ) → line_held (keeping_all d.reader line) ≡ take 19 line
  first-held line = holds-first d.reader line room ∙ rw (nothing-held d between)

  -- LF has the line judged that was begun
  taken-end : (line : List ℕ) (b : ℕ) → eqb b line_end ≡ true → taken (holding d line) b ≡ judged d line
  unfolding taken holding
  taken-end line b e =
      rw (going, still-going line, e, first-held line)
      (judged-cleared (with_reader d (keeping_all d.reader line)) (take 19 line) (still-going line)
      ∙ ap (λ r. judged (with_reader d r) (take 19 line)) (cleared-keeping-all d.reader line)
      ∙ sym (judged-cleared d (take 19 line) going)
      ∙ by-first-bytes d line)

  -- any other byte is one more of it
  taken_more : (line : List ℕ) (b : ℕ) → eqb b line_end ≡ false → taken (holding d line) b ≡ holding d (line ++ (b ∷ []))
  unfolding taken holding
  taken_more line b e = rw (going, still-going line, e, foldl-append keeping d.reader line (b ∷ []))

-- bytes fed where a line is begun: the lines that they complete are judged, and the rest is held
pub fed-is : (d : Desk) (line x : List ℕ) → Between d → fed (holding d line) x ≡ holding (judged_all d (lines_from line x)) (rest_from line x)
unfolding lines_from rest_from
fed-is d line [] between = refl
fed-is d line (b ∷ x) between =
    by-test (stopped d.reader)
    (λ (e : stopped d.reader ≡ true).
    rw (holding-stopped d line e, all-stopped d (lines_from line (b ∷ x)) e, holding-stopped d (rest_from line (b ∷ x)) e) (fed-stopped d (b ∷ x) e))
    (λ (e : stopped d.reader ≡ false).
    by-test (eqb b line_end)
    (λ (a : eqb b line_end ≡ true).
    rw (a, taken-end d between e line b a, ← holding-none (judged d line)) (fed-is (judged d line) [] x (judged-between d line between)))
    (λ (a : eqb b line_end ≡ false). rw (a, taken_more d between e line b a) (fed-is d (line ++ (b ∷ [])) x between)))

-- ---- the end of the input

-- whether a rest is empty shows in what is held of it
held-empty : (rest : List ℕ) → eqb (length (take 19 rest)) 0 ≡ eqb (length rest) 0
held-empty [] = refl
held-empty (b ∷ rest) = rw (ne_eqb (length (b ∷ take 18 rest)) 0 (omega arith), ne_eqb (length (b ∷ rest)) 0 (omega arith))

answer-cleared : (r : Reader) (table rest : List ℕ) → answer_of r table (take 19 rest) ≡ answer_of (cleared r) table rest
unfolding answer_of answer_frames end_reasons cut_short refused_line stage_of
answer-cleared r table rest = rw held-empty

answer-stopped : (r : Reader) (table rest : List ℕ) → stopped r ≡ true → answer_of r table [] ≡ answer_of r table rest
unfolding answer_of answer_frames end_reasons first
answer-stopped r table rest h = rw h

finished-is : (d : Desk) (rest : List ℕ) → Between d → finished (holding d rest).reader (holding d rest).table ≡ answer_of d.reader d.table rest
unfolding holding
finished-is d rest between =
    by-test (stopped d.reader)
    (λ (e : stopped d.reader ≡ true). rw (e, nothing-held d between) (answer-stopped d.reader d.table rest e))
    (λ (e : stopped d.reader ≡ false).
    rw (e, first-held d between e rest)
    (answer-cleared (keeping_all d.reader rest) d.table rest
    ∙ ap (λ r. answer_of r d.table rest) (cleared-keeping-all d.reader rest ∙ sym between)))

judged-all-between : (d : Desk) (lines : List (List ℕ)) → Between d → Between (judged_all d lines)
judged-all-between d [] between = between
judged-all-between d (line ∷ lines) between = judged-all-between (judged d line) lines (judged-between d line between)

fed-all-is : (d : Desk) (pieces : List (List ℕ)) → fed_all d pieces ≡ fed d (flatten pieces)
unfolding flatten
fed-all-is d [] = refl
fed-all-is d (piece ∷ pieces) = fed-all-is (fed d piece) pieces ∙ sym (foldl-append taken d piece (flatten pieces))

-- Any pieces, one after another, and then the end of the input: the answer of the file that they make together.
pub any-pieces : (table marks : List ℕ) (pieces : List (List ℕ))
    → finished (fed_all (begun table marks) pieces).reader (fed_all (begun table marks) pieces).table ≡ answer_to table marks (flatten pieces)
unfolding answer_to file_judged fresh
any-pieces table marks pieces =
    let x = flatten pieces in
    let d = begun table marks in
    ap (λ e. finished e.reader e.table) (fed-all-is d pieces ∙ ap (λ e. fed e x) (sym (holding-none d)) ∙ fed-is d [] x refl)
    ∙ finished-is (judged_all d (lines_from [] x)) (rest_from [] x) (judged-all-between d (lines_from [] x) refl)
