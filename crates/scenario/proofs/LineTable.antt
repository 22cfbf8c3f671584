-- The table of what is turned away in files, in plain words: for a line and for the end of the input the numbers in their order, and
-- when each is given.
use mathlib.Core.Path.{◌≡◌, sym}
use mathlib.Core.Logic.Iff
use mathlib.Core.Logic.{◌⊎◌, inl, inr, ⊎_elim, ◌≢◌, ◌↔◌}
use mathlib.Core.Bool.{Bool, true, false, not, ◌&&◌, ◌||◌, cond, and-false, true≢false}
use mathlib.Core.List.{List, [], ◌∷◌, ◌++◌, map}
use Prim.Native.Nat.{ℕ, suc, ◌+◌, ◌*◌, ◌%◌, ◌≤◌, ◌<◌}
use native.Mathlib.Omega.{arith}
use lib.ListN.{length, get_or}
use lib.Dec.{eqb, ltb, leb}
use borrow.Author.Tests.{ne_eqb, lt-ltb, le-ltb}
use Rattle.std.proofs.lemmas.Bool.{iff_false, false_from_ne_true, true_from_ne_false}
use Rattle.std.proofs.lemmas.Bool.Decides.{Decides-or as either, Decides-ltb as below, Decides-eqb as equal, Decides-and, Decides-not}
use Rattle.rules.specs.Lists.{all}
use Rattle.rules.specs.Routes.{is_route, held}
use Rattle.rules.specs.Cells.{cells}
use Rattle.rules.specs.Refusals.{Reason, because, first, no_route, settings_refusal}
use Rattle.rules.specs.declared.Settings.{Settings}
use Rattle.rules.proofs.Counting.{by-test, all-at}
use Rattle.rules.proofs.Refused.{NoneApplies, end as none_left, ◌⨾◌ as ◌not-this◌}
use Rattle.rules.proofs.RefusalTable.{Line, given, Says, end, ◌⨾◌, settings_lines, settings-say, up-to, differs, fails}
use Rattle.scenario.specs.Hex.{is_digit, frame_of}
use Rattle.scenario.specs.Frames.{byte_in, kind_of, settings_in, route_in, count_in}
use Rattle.scenario.specs.Marks.{marked, bits_of}
use Rattle.scenario.specs.Reasons.{Desk, stage_of, no_frame, in_place, out_of_place, size_of, wrong_size, cell_in, routeless, given_before, wrong_count, short_table, short_marks, lent_reasons, lent_for, open_reasons, tell_reasons, close_reasons, kind_reasons, line_reasons, line_refusal}
use Rattle.scenario.specs.File.{cut_short, end_reasons, end_refusal}
use Rattle.scenario.specs.declared.Reader.{Reader}
use Rattle.scenario.proofs.Outcomes.{Placed, opening, telling, closing, placed}
use Rattle.scenario.proofs.Refusals.{line-passed, file-passed}

-- ---- what a table says

-- line k is there and what it says is so, and nothing that a line above it says
unfoldable pub FirstSaid : ℕ → List Line → Type 0
FirstSaid k [] = ⊥
FirstSaid k (l ∷ ls) = ((l.number ≡ k) × l.when) ⊎ ((¬ l.when) × FirstSaid k ls)

-- nothing that a line says is so
unfoldable pub NoneSaid : List Line → Type 0
NoneSaid [] = Unit
NoneSaid (l ∷ ls) = (¬ l.when) × NoneSaid ls

-- How reasons and a table go together: a reason applies exactly when its line says, given that nothing above it is so. A line that
-- cannot be so there needs no reason.
infixr 5 ◌then◌
data Tabled : List Reason → List Line → Type 1 where
  done : Tabled [] []
  ◌then◌ : {k : ℕ} {b : Bool} {C : Type 0} {rs : List Reason} {ls : List Line} → (b ≡ true) ↔ C → (¬ C → Tabled rs ls) → Tabled (because k b ∷ rs) (given k C ∷ ls)
  never : {k : ℕ} {C : Type 0} {rs : List Reason} {ls : List Line} → ¬ C → Tabled rs ls → Tabled rs (given k C ∷ ls)

-- the number given is that of the first line that is so
tabled-first : (k : ℕ) {rs : List Reason} {ls : List Line} → k ≢ 0 → Tabled rs ls → (first rs ≡ k) ↔ FirstSaid k ls
unfolding first FirstSaid
tabled-first k ne t = (to t, from t)
  where
    to : {rs : List Reason} {ls : List Line} → Tabled rs ls → first rs ≡ k → FirstSaid k ls
    to done h = absurd (ne (sym h))
    to (◌then◌ {b = b} e rest) h =
        by-test b
        (λ (y : b ≡ true). inl (rw y at h, e.0 y))
        (λ (y : b ≡ false). inr (iff_false e y, to (rest (iff_false e y)) (rw y at h)))
    to (never out s) h = inr (out, to s h)

    from : {rs : List Reason} {ls : List Line} → Tabled rs ls → FirstSaid k ls → first rs ≡ k
    from done f = absurd f
    from (e then rest) (inl (n, c)) = rw (e.1 c) n
    from (◌then◌ {b = b} e rest) (inr (out, f)) =
        by-test b
        (λ (y : b ≡ true). absurd (out (e.0 y)))
        (λ (y : b ≡ false). rw y (from (rest out) f))
    from (never out s) (inl (n, c)) = absurd (out c)
    from (never out s) (inr (out', f)) = from s f

-- and there is none exactly when no line is so
tabled-none : {rs : List Reason} {ls : List Line} → Tabled rs ls → NoneApplies rs ↔ NoneSaid ls
unfolding NoneSaid
tabled-none t = (to t, from t)
  where
    to : {rs : List Reason} {ls : List Line} → Tabled rs ls → NoneApplies rs → NoneSaid ls
    to done h = tt
    to (e then rest) (y not-this h) = (iff_false e y, to (rest (iff_false e y)) h)
    to (never out s) h = (out, to s h)

    from : {rs : List Reason} {ls : List Line} → Tabled rs ls → NoneSaid ls → NoneApplies rs
    from done f = none_left
    from (◌then◌ {b = b} e rest) (out, f) =
        by-test b
        (λ (y : b ≡ true). absurd (out (e.0 y)))
        (λ (y : b ≡ false). y not-this from (rest out) f)
    from (never out s) (out', f) = from s f

-- the lines of a table that are meant for one kind of line alone
abbrev pub only_for : Type 0 → List Line → List Line
only_for A ls = map (λ l. given l.number (A × l.when)) ls

-- what holds of this kind of line alone
also : {b : Bool} {A C : Type 0} → A → (b ≡ true) ↔ C → (b ≡ true) ↔ (A × C)
also a e = (λ y. (a, e.0 y), λ h. e.1 h.1)

for-this : {A : Type 0} {rs qs : List Reason} {ls ks : List Line} → A → Says rs ls → Tabled qs ks → Tabled (rs ++ qs) (only_for A ls ++ ks)
for-this a end t = t
for-this a (e ⨾ s) t = also a e then (λ out. for-this a s t)

for-others : {A : Type 0} {qs : List Reason} {ks : List Line} → ¬ A → (ls : List Line) → Tabled qs ks → Tabled qs (only_for A ls ++ ks)
for-others out [] t = t
for-others {A = A} out (l ∷ ls) t = never (λ (h : A × l.when). out h.0) (for-others out ls t)

-- ---- 20: no frame

-- 0 to 9 are the bytes 48 to 57, A to F the bytes 65 to 70
abbrev pub DigitByte : ℕ → Type 0
DigitByte b = ((48 ≤ b) × (b ≤ 57)) ⊎ ((65 ≤ b) × (b ≤ 70))

-- some byte of a line is none of them
pub record OtherByte (line : List ℕ) : Type 0 where
  pub at : ℕ
  pub within : at < length line
  pub other : ¬ DigitByte (get_or line at 0)

pub data NoFrame (line : List ℕ) : Type 0 where
  empty : length line ≡ 0 → NoFrame line
  odd : length line % 2 ≢ 0 → NoFrame line
  long : 18 < length line → NoFrame line
  mixed : OtherByte line → NoFrame line

-- the test of a digit is the test of those bytes
digit : (b : ℕ) → (is_digit b ≡ true) ↔ DigitByte b
unfolding is_digit
digit b = either (leb 48 b && leb b 57) (leb 65 b && leb b 70) (Decides-and (leb 48 b) (leb b 57) (up-to 48 b) (up-to b 57)) (Decides-and (leb 65 b) (leb b 70) (up-to 65 b) (up-to b 70))

-- not all bytes are digits exactly where some byte is another
other_byte : (line : List ℕ) → all is_digit line ≡ false → OtherByte line
unfolding all
other_byte [] e = absurd (true≢false e)
other_byte (x ∷ line) e =
    by-test (is_digit x)
    (λ (y : is_digit x ≡ true).
    let rest = other_byte line (rw y at e) in
    record { at = suc rest.at; within = omega (arith, rest.within); other = rest.other })
    (λ (y : is_digit x ≡ false). record { at = 0; within = omega arith; other = iff_false (digit x) y })

not-all : (line : List ℕ) (i : ℕ) → i < length line → ¬ DigitByte (get_or line i 0) → all is_digit line ≡ false
not-all line i h out = false_from_ne_true (all is_digit line) (λ y. out ((digit (get_or line i 0)).0 (all-at is_digit line i h y)))

no-frame : (line : List ℕ) → (no_frame line ≡ true) ↔ NoFrame line
unfolding no_frame
no-frame line = Iff.trans tests (⊎_elim (⊎_elim (⊎_elim empty odd) long) mixed, back)
  where
    count : ℕ
    count = length line

    bytes : (not (all is_digit line) ≡ true) ↔ OtherByte line
    bytes = Iff.trans (fails (all is_digit line)) (other_byte line, λ o. not-all line o.at o.within o.other)

    tests : ((eqb count 0 || not (eqb (count % 2) 0) || ltb 18 count || not (all is_digit line)) ≡ true)
        ↔ ((((count ≡ 0) ⊎ (count % 2 ≢ 0)) ⊎ (18 < count)) ⊎ OtherByte line)
    tests =
        either (eqb count 0 || not (eqb (count % 2) 0) || ltb 18 count) (not (all is_digit line))
        (either (eqb count 0 || not (eqb (count % 2) 0)) (ltb 18 count)
        (either (eqb count 0) (not (eqb (count % 2) 0)) (equal count 0) (differs (count % 2) 0)) (below 18 count))
        bytes

    back : NoFrame line → (((count ≡ 0) ⊎ (count % 2 ≢ 0)) ⊎ (18 < count)) ⊎ OtherByte line
    back (empty e) = inl (inl (inl e))
    back (odd e) = inl (inl (inr e))
    back (long e) = inl (inr e)
    back (mixed o) = inr o

-- ---- 21 and 22: the place of a line, and its size

-- A reader is at the stage that it says. One that was forged, its settings such as would be refused or its stage none, has met no
-- `01` line.
pub stage-said : (r : Reader) → settings_refusal r.settings ≡ 0 → r.stage < 3 → stage_of r ≡ r.stage
unfolding stage_of
stage-said r ok low = rw (ok, lt-ltb r.stage 3 low)

pub stage-forged : (r : Reader) → (settings_refusal r.settings ≢ 0) ⊎ (3 ≤ r.stage) → stage_of r ≡ 0
unfolding stage_of
stage-forged r (inl no-settings) = rw (ne_eqb (settings_refusal r.settings) 0 no-settings)
stage-forged r (inr no-stage) = rw (le-ltb r.stage 3 no-stage, and-false)

in-place : (stage kind : ℕ) → (in_place stage kind ≡ true) ↔ Placed stage kind
unfolding in_place
in-place stage kind = (placed stage kind, back)
  where
    back : Placed stage kind → ((eqb stage 0 && eqb kind 1) || (eqb stage 1 && (eqb kind 2 || eqb kind 3))) ≡ true
    back (opening s k) = rw (s, k)
    back (telling s k) = rw (s, k)
    back (closing s k) = rw (s, k)

-- the byte count of each kind
pub data Sized (frame : List ℕ) : Type 0 where
  of-opening : kind_of frame ≡ 1 → length frame ≡ 9 → Sized frame
  of-telling : kind_of frame ≡ 2 → length frame ≡ 4 + byte_in frame 1 → Sized frame
  of-closing : kind_of frame ≡ 3 → length frame ≡ 3 → Sized frame

-- in its place a line has the size of its kind; what an unknown kind has is not asked
sized : {stage : ℕ} (frame : List ℕ) → Placed stage (kind_of frame) → (length frame ≡ size_of frame) ↔ Sized frame
unfolding size_of
sized frame p = (to p, from)
  where
    to : {stage : ℕ} → Placed stage (kind_of frame) → length frame ≡ size_of frame → Sized frame
    to (opening s k) e = of-opening k (rw k at e)
    to (telling s k) e = of-telling k (rw k at e)
    to (closing s k) e = of-closing k (rw k at e)

    from : Sized frame → length frame ≡ size_of frame
    from (of-opening k e) = rw k e
    from (of-telling k e) = rw k e
    from (of-closing k e) = rw k e

-- ---- a line

-- the settings that a line is judged by: an `01` line's own, and for any other line those of the `01` line before it
unfoldable pub settings_for : Desk → List ℕ → Settings
settings_for d frame = cond (eqb (kind_of frame) 1) (settings_in frame) d.reader.settings

-- 8 and 10, after all others
abbrev pub lent_lines : Settings → Desk → List Line
lent_lines s d = given 8 (length d.table < 2 * cells s.n s.m) ∷ given 10 (bits_of d.marks < cells s.n s.m) ∷ []

-- by kind: 1 to 7 of an `01` line, 23 and 24 of an `02` line, 25 of an `03` line, then 8 and 10 of each
abbrev pub kind_lines : Desk → List ℕ → List Line
kind_lines d frame =
    let s = d.reader.settings in
    only_for (kind_of frame ≡ 1) (settings_lines (settings_in frame))
    ++ (given 23 ((kind_of frame ≡ 2) × (is_route s.n s.m s.sender (held (route_in frame)) ≡ false))
    ∷ given 24 ((kind_of frame ≡ 2) × (marked d.marks (cell_in s frame) ≡ true))
    ∷ given 25 ((kind_of frame ≡ 3) × (count_in frame ≢ d.reader.given))
    ∷ lent_lines (settings_for d frame) d)

-- all numbers of a line, in their order
abbrev pub line_lines : Desk → List ℕ → List Line
line_lines d line =
    given 20 (NoFrame line)
    ∷ given 21 (¬ Placed (stage_of d.reader) (kind_of (frame_of line)))
    ∷ given 22 (¬ Sized (frame_of line))
    ∷ kind_lines d (frame_of line)

module _ (d : Desk) (frame : List ℕ) where
  -- what is lent is judged by one or the other
  lent : (s : Settings) → settings_for d frame ≡ s → Tabled (lent_for s d) (lent_lines (settings_for d frame) d)
  unfolding lent_reasons short_table short_marks
  lent s e =
      rw e
      (below (length d.table) (2 * cells s.n s.m)
      then (λ long. below (bits_of d.marks) (cells s.n s.m)
      then (λ many. done)))

  for-opening : kind_of frame ≡ 1 → settings_for d frame ≡ settings_in frame
  unfolding settings_for
  for-opening k = rw k

  for-later : kind_of frame ≢ 1 → settings_for d frame ≡ d.reader.settings
  unfolding settings_for
  for-later k = rw (ne_eqb (kind_of frame) 1 k)

  -- each kind has its own lines of the table, and none of the others'
  opens : kind_of frame ≡ 1 → Tabled (open_reasons d frame) (kind_lines d frame)
  unfolding open_reasons
  opens k =
      for-this k (settings-say (settings_in frame))
      (never (λ h. omega (arith, k, h.0))
      (never (λ h. omega (arith, k, h.0))
      (never (λ h. omega (arith, k, h.0)) (lent (settings_in frame) (for-opening k)))))

  tells : kind_of frame ≡ 2 → Tabled (tell_reasons d frame) (kind_lines d frame)
  unfolding tell_reasons routeless no_route given_before
  tells k =
      let s = d.reader.settings in
      let set = marked d.marks (cell_in s frame) in
      let one : kind_of frame ≢ 1 = λ e. omega (arith, k, e) in
      for-others one (settings_lines (settings_in frame))
      (also k (fails (is_route s.n s.m s.sender (held (route_in frame))))
      then (λ route. also k (λ (y : set ≡ true). y, λ (y : set ≡ true). y)
      then (λ free. never (λ h. omega (arith, k, h.0)) (lent s (for-later one)))))

  closes : kind_of frame ≡ 3 → Tabled (close_reasons d frame) (kind_lines d frame)
  unfolding close_reasons wrong_count
  closes k =
      let one : kind_of frame ≢ 1 = λ e. omega (arith, k, e) in
      for-others one (settings_lines (settings_in frame))
      (never (λ h. omega (arith, k, h.0))
      (never (λ h. omega (arith, k, h.0))
      (also k (differs (count_in frame) d.reader.given)
      then (λ same. lent d.reader.settings (for-later one)))))

  own : {stage : ℕ} → Placed stage (kind_of frame) → Tabled (kind_reasons d frame) (kind_lines d frame)
  unfolding kind_reasons
  own (opening p k) = let e : kind_reasons d frame ≡ open_reasons d frame = rw k in rw e (opens k)
  own (telling p k) = let e : kind_reasons d frame ≡ tell_reasons d frame = rw k in rw e (tells k)
  own (closing p k) = let e : kind_reasons d frame ≡ close_reasons d frame = rw k in rw e (closes k)

line-tabled : (d : Desk) (line : List ℕ) → Tabled (line_reasons d line) (line_lines d line)
unfolding line_reasons out_of_place wrong_size
line-tabled d line =
    let frame = frame_of line in
    let stage = stage_of d.reader in
    let place = in-place stage (kind_of frame) in
    no-frame line
    then (λ some. Decides-not (in_place stage (kind_of frame)) place
    then (λ inside.
    let p = place.0 (true_from_ne_false (in_place stage (kind_of frame)) (λ y. inside (iff_false place y))) in
    Decides-not (eqb (length frame) (size_of frame)) (Iff.trans (equal (length frame) (size_of frame)) (sized frame p))
    then (λ size. own d frame p)))

-- A line is refused with k exactly when what the table says of k is so and nothing that it says above, and accepted exactly when
-- nothing that it says is so.
pub line-number : (k : ℕ) (d : Desk) (line : List ℕ) → k ≢ 0 → (line_refusal d line ≡ k) ↔ FirstSaid k (line_lines d line)
line-number k d line ne = tabled-first k ne (line-tabled d line)

pub line_taken : (d : Desk) (line : List ℕ) → (line_refusal d line ≡ 0) ↔ NoneSaid (line_lines d line)
line_taken d line = Iff.trans (line-passed d line) (tabled-none (line-tabled d line))

-- ---- the end of the input

-- a line that was refused decides; then 26, and 8 for a reader that comes with another table
abbrev pub end_lines : Reader → List ℕ → List ℕ → List Line
end_lines r table rest =
    given r.refusal (r.refusal ≢ 0)
    ∷ given 26 ((stage_of r ≢ 2) ⊎ (length rest ≢ 0))
    ∷ given 8 (length table < 2 * cells r.settings.n r.settings.m)
    ∷ []

end-tabled : (r : Reader) (table rest : List ℕ) → Tabled (end_reasons r table rest) (end_lines r table rest)
unfolding end_reasons cut_short short_table
end-tabled r table rest =
    differs r.refusal 0
    then (λ going. either (not (eqb (stage_of r) 2)) (not (eqb (length rest) 0)) (differs (stage_of r) 2) (differs (length rest) 0)
    then (λ whole. below (length table) (2 * cells r.settings.n r.settings.m) then (λ enough. done)))

pub end-number : (k : ℕ) (r : Reader) (table rest : List ℕ) → k ≢ 0 → (end_refusal r table rest ≡ k) ↔ FirstSaid k (end_lines r table rest)
end-number k r table rest ne = tabled-first k ne (end-tabled r table rest)

pub end-taken : (r : Reader) (table rest : List ℕ) → (end_refusal r table rest ≡ 0) ↔ NoneSaid (end_lines r table rest)
end-taken r table rest = Iff.trans (file-passed r table rest) (tabled-none (end-tabled r table rest))
