-- The words that a file gives are the words that the exchange reads. The word of an accepted `02` line stands in the final table where
-- the exchange looks for its route, whatever lines came before and after it; a cell that no line gave reads 0.
use mathlib.Core.Path.{◌≡◌, refl, sym, ap, ◌∙◌}
use mathlib.Core.Logic.{◌≢◌}
use mathlib.Core.Bool.{true, cond, true≢false}
use mathlib.Core.List.{List, [], ◌∷◌}
use Prim.Native.Nat.{ℕ, ◌+◌, ◌*◌, ◌≤◌, ◌<◌}
use native.Mathlib.Omega.{arith}
use lib.ListN.{length, replicate}
use lib.Seq.{get_or-take}
use lib.Dec.{eqb}
use Rattle.rules.specs.Words.{word_at, plain, faulty}
use Rattle.rules.specs.Routes.{held, is_route, teller, but_last}
use Rattle.rules.specs.Cells.{cells, cell}
use Rattle.rules.specs.Delivered.{delivered}
use Rattle.rules.specs.declared.Settings.{Settings}
use Rattle.rules.proofs.WordRows.{put-here, put-elsewhere}
use Rattle.rules.proofs.Numbering.{cell-lt, route-is}
use Rattle.rules.proofs.Accepted.{settings-accepted}
use Rattle.scenario.specs.Hex.{frame_of}
use Rattle.scenario.specs.Lines.{lines_of}
use Rattle.scenario.specs.Frames.{kind_of, settings_in, route_in, word_told}
use Rattle.scenario.specs.Marks.{marked}
use Rattle.scenario.specs.Reasons.{Desk, cell_in}
use Rattle.scenario.specs.Judging.{after, opened, told, closed}
use Rattle.scenario.specs.File.{begun, file_judged, table_given, file_refusal, file_settings, file_table}
use Rattle.scenario.proofs.Marking.{mark-same, mark-other, zero_row}
use Rattle.scenario.proofs.Outcomes.{Tells}
use Rattle.scenario.proofs.FromStart.{settings-known}
use Rattle.scenario.proofs.AcceptedFiles.{Run, last, next, Accepted, accepted-file}

-- ---- from an `02` line to the end

-- every element has a property
unfoldable pub Each : {A : Type 0} → (A → Type 0) → List A → Type 0
Each P [] = Unit
Each P (x ∷ xs) = P x × Each P xs

-- the frames of the `02` lines
unfoldable pub tellings : List (List ℕ) → List (List ℕ)
tellings [] = []
tellings (line ∷ lines) = cond (eqb (kind_of (frame_of line)) 2) (frame_of line ∷ tellings lines) (tellings lines)

-- an `02` frame holds a route, and a table holds the frame's word where the exchange reads that route
pub record Stands (s : Settings) (table frame : List ℕ) : Type 0 where
  pub route : is_route s.n s.m s.sender (held (route_in frame)) ≡ true
  pub word : word_at table (cell s.n s.sender (held (route_in frame))) ≡ word_told frame

-- one telling or one closing line in front
tellings-tell : (line : List ℕ) (lines : List (List ℕ)) → kind_of (frame_of line) ≡ 2 → tellings (line ∷ lines) ≡ frame_of line ∷ tellings lines
unfolding tellings
tellings-tell line lines kind = rw kind

tellings-close : (line : List ℕ) → kind_of (frame_of line) ≡ 3 → tellings (line ∷ []) ≡ []
unfolding tellings
tellings-close line kind = rw kind

-- the cell of an accepted `02` line is a cell
pub cell_below : (d : Desk) (frame : List ℕ) → Tells d frame → cell_in d.reader.settings frame < cells d.reader.settings.n d.reader.settings.m
unfolding cell_in
cell_below d frame t =
    let s = d.reader.settings in
    let ok = (settings-accepted s).0 (settings-known d.reader (omega (arith, t.place))) in
    cell-lt s.n s.sender ok.sender-below s.m (held (route_in frame)) t.route

-- the settings stay
run-settings : {d e : Desk} {lines : List (List ℕ)} → Run d lines e → e.reader.settings ≡ d.reader.settings
unfolding told closed after
run-settings (last c) = refl
run-settings (next t r) = run-settings r

-- a cell that is marked keeps its word
marked-kept : {d e : Desk} {lines : List (List ℕ)} → Run d lines e → (c : ℕ) → marked d.marks c ≡ true → word_at e.table c ≡ word_at d.table c
unfolding told closed
marked-kept (last x) c h = refl
marked-kept {d} {e} {lines} (next {line = line} t r) c h =
    let frame = frame_of line in
    let own = cell_in d.reader.settings frame in
    let ne : c ≢ own = λ p. true≢false (sym h ∙ ap (marked d.marks) p ∙ t.fresh) in
    marked-kept r c (mark-other d.marks own c ne ∙ h) ∙ put-elsewhere d.table own (word_told frame) c ne

-- each `02` line has a route, and its word is in the final table
words-given : {d e : Desk} {lines : List (List ℕ)} → Run d lines e → Each (Stands d.reader.settings e.table) (tellings lines)
unfolding told closed after Each cell_in
words-given (last {line = line} c) = rw (tellings-close line c.kind) tt
words-given {d} (next {line = line} {lines = lines} t r) =
    let frame = frame_of line in
    let own = cell_in d.reader.settings frame in
    let below = cell_below d frame t in
    rw (tellings-tell line lines t.kind) (
      record {
        route = t.route;
        word =
            marked-kept r own (mark-same d.marks own (omega (arith, t.lent.marks)))
            ∙ put-here d.table own (word_told frame) (omega (arith, t.lent.table));
      },
      words-given r,
    )

-- a cell that none of them gave keeps its word
not-given : {d e : Desk} {lines : List (List ℕ)} → Run d lines e → (c : ℕ) → Each (λ frame. cell_in d.reader.settings frame ≢ c) (tellings lines) → word_at e.table c ≡ word_at d.table c
unfolding told closed after Each
not-given (last x) c h = refl
not-given {d} (next {line = line} {lines = lines} t r) c h =
    let frame = frame_of line in
    let parts = rw (tellings-tell line lines t.kind) at h in
    not-given r c parts.1 ∙ put-elsewhere d.table (cell_in d.reader.settings frame) (word_told frame) c (λ p. parts.0 (sym p))

-- a cleared table
word-zero : (k c : ℕ) → word_at (replicate k 0) c ≡ 0
unfolding word_at
word-zero k c = rw (zero_row k (2 * c), zero_row k (2 * c + 1))

-- ---- an accepted file

-- the first 2M bytes hold every cell
word_kept : (s : Settings) (table : List ℕ) (c : ℕ) → c < cells s.n s.m → word_at (table_given s table) c ≡ word_at table c
unfolding table_given word_at
word_kept s table c h =
    let bytes = 2 * cells s.n s.m in
    rw (get_or-take bytes table (2 * c) 0 (omega arith), get_or-take bytes table (2 * c + 1) 0 (omega arith))

each_map : {P Q : List ℕ → Type 0} → ((x : List ℕ) → P x → Q x) → (xs : List (List ℕ)) → Each P xs → Each Q xs
unfolding Each
each_map f [] h = tt
each_map f (x ∷ xs) h = (f x h.0, each_map f xs h.1)

stands-kept : (s : Settings) (table : List ℕ) → s.sender < s.n → (frame : List ℕ) → Stands s table frame → Stands s (table_given s table) frame
stands-kept s table ok frame h =
    let c = cell s.n s.sender (held (route_in frame)) in
    record { route = h.route; word = word_kept s table c (cell-lt s.n s.sender ok s.m (held (route_in frame)) h.route) ∙ h.word }

tellings-open : (line : List ℕ) (lines : List (List ℕ)) → kind_of (frame_of line) ≡ 1 → tellings (line ∷ lines) ≡ tellings lines
unfolding tellings
tellings-open line lines kind = rw kind

module _ (table marks x : List ℕ) (ok : file_refusal table marks x ≡ 0) where
  file : Accepted table marks (lines_of x)
  file = (accepted-file table marks x ok).0

  first-desk : Desk
  first-desk = opened (begun table marks) (frame_of file.opening)

  runs : Run first-desk file.later (file_judged table marks x)
  unfolding file_judged first-desk
  runs = file.runs

  told-later : tellings (lines_of x) ≡ tellings file.later
  told-later = rw file.cut (tellings-open file.opening file.later file.opens.kind)

  same-settings : file_settings table marks x ≡ first-desk.reader.settings
  same-settings = run-settings runs

  sender-below : (file_settings table marks x).sender < (file_settings table marks x).n
  unfolding first-desk opened after
  sender-below = rw same-settings ((settings-accepted (settings_in (frame_of file.opening))).0 file.opens.settings).sender-below

  -- every `02` line of the file has its route, and its word is what the exchange finds there
  pub words-read : Each (Stands (file_settings table marks x) (file_table table marks x)) (tellings (lines_of x))
  words-read =
      rw told-later
      (each_map (stands-kept (file_settings table marks x) (file_judged table marks x).table sender-below) (tellings file.later) (rw same-settings (words-given runs)))

  -- a cell that none of them gives reads 0
  pub others-zero : (c : ℕ) → c < cells (file_settings table marks x).n (file_settings table marks x).m
      → Each (λ frame. cell_in (file_settings table marks x) frame ≢ c) (tellings (lines_of x))
      → word_at (file_table table marks x) c ≡ 0
  unfolding first-desk opened
  others-zero c below none =
      word_kept (file_settings table marks x) (file_judged table marks x).table c below
      ∙ not-given runs c (rw (told-later, same-settings) at none)
      ∙ word-zero (length table) c

-- what the exchange is told on a route with a faulty teller is the word of the route's line, a reserved one read as 0
pub told-by-faulty : (s : Settings) (table frame : List ℕ) → Stands s table frame
    → faulty s.faults (teller s.sender (but_last (held (route_in frame)))) ≡ true
    → delivered s table (held (route_in frame)) ≡ plain (word_told frame)
unfolding delivered
told-by-faulty s table frame h f = go (held (route_in frame)) (route-is s.n s.m s.sender (held (route_in frame)) h.route).some h.word f
  where
    go : (r : List ℕ)
        → 1 ≤ length r
        → word_at table (cell s.n s.sender r) ≡ word_told frame
        → faulty s.faults (teller s.sender (but_last r)) ≡ true
        → delivered s table r ≡ plain (word_told frame)
    go [] some word g = absurd (omega arith)
    go (i ∷ p) some word g = rw (g, word)
