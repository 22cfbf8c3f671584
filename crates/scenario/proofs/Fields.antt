-- What stands where, byte by byte: in the frames that are read, `01`, `02` and `03`, and in those that are written, `11`, `12` and `1F`.
-- A word stands in two bytes, the high one first.
use mathlib.Core.Path.{◌≡◌, refl, ◌∙◌}
use mathlib.Core.Logic.{◌≢◌}
use mathlib.Core.Bool.{true, false}
use mathlib.Core.List.{List, [], ◌∷◌, ◌++◌}
use Prim.Native.Nat.{ℕ, zero, suc, ◌+◌, ◌*◌, ◌/◌, ◌%◌, ◌≤◌, ◌<◌}
use native.Mathlib.Omega.{arith}
use lib.ListN.{length, get_or, get_or-append}
use lib.Seq.{get_or-append-add, take-length}
use borrow.Author.Tests.{eq-eqb, ne_eqb}
use Rattle.rules.specs.Words.{settings, bytes_of, faulty}
use Rattle.rules.specs.Routes.{back, held, written}
use Rattle.rules.specs.Exchange.{slot}
use Rattle.rules.specs.declared.Settings.{Settings}
use Rattle.rules.specs.declared.Summary.{Summary}
use Rattle.rules.proofs.Rows.{written_back}
use Rattle.scenario.specs.Frames.{byte_in, kind_of, settings_in, route_in, word_told, count_in, line_in}
use Rattle.scenario.specs.Answer.{role_of, node_frame, summary_frame, refusal_frame}
use Rattle.scenario.specs.declared.Line.TheVariants.{Opening, Telling, Closing}

-- ---- what is read

-- every frame: its first byte is its kind
pub kind-first : (kind : ℕ) (rest : List ℕ) → kind_of (kind ∷ rest) ≡ kind
kind-first kind rest = refl

-- `01`: N, m, u, sender, then the value's two bytes, then the fault word's
pub opening-fields : (n m u sender vh vl fh fl : ℕ)
    → settings_in (1 ∷ n ∷ m ∷ u ∷ sender ∷ vh ∷ vl ∷ fh ∷ fl ∷ []) ≡ settings n m u sender (vh * 256 + vl) (fh * 256 + fl)
unfolding settings_in
opening-fields n m u sender vh vl fh fl = refl

-- the row of a route has the four bytes behind L, in their order
route-place : (frame : List ℕ) (i : ℕ) → i < 4 → get_or (route_in frame).nodes i 0 ≡ byte_in frame (suc (suc i))
unfolding route_in
route-place frame zero h = refl
route-place frame (suc zero) h = refl
route-place frame (suc (suc zero)) h = refl
route-place frame (suc (suc (suc zero))) h = refl
route-place frame (suc (suc (suc (suc i)))) h = absurd (omega arith)

-- rows that agree in their first places hold one route
same_back : (row other : List ℕ) (k : ℕ) → ((i : ℕ) → i < k → get_or row i 0 ≡ get_or other i 0) → back row k ≡ back other k
unfolding back
same_back row other zero h = refl
same_back row other (suc k) h = rw (h k (omega arith), same_back row other k (λ i b. h i (omega arith)))

-- an `02` frame: L, then L numbers, then bytes behind them
module _ (row rest : List ℕ) where
  abbrev pub telling : List ℕ
  telling = 2 ∷ length row ∷ row ++ rest

  -- its route, written down, is these numbers in this order
  pub telling-route : length row ≤ 4 → written (held (route_in telling)) ≡ row
  unfolding route_in
  telling-route few =
      let same = same_back (route_in telling).nodes row (length row)
      (λ i b. route-place telling i (omega arith) ∙ get_or-append row rest 0 i b) in
      rw same (written_back row (length row) (omega arith) ∙ take-length row)

-- and the two bytes behind them are the word
pub telling-word : (row rest : List ℕ) (high low : ℕ) → word_told (telling row (high ∷ low ∷ rest)) ≡ high * 256 + low
unfolding word_told
telling-word row rest high low =
    let first : 2 + length row ≡ suc (suc (length row + 0)) = omega arith in
    let second : 2 + length row + 1 ≡ suc (suc (length row + 1)) = omega arith in
    rw (second, first, get_or-append-add row (high ∷ low ∷ rest) 0 0, get_or-append-add row (high ∷ low ∷ rest) 1 0)

-- `03`: the count's two bytes
pub closing-count : (high low : ℕ) → count_in (3 ∷ high ∷ low ∷ []) ≡ high * 256 + low
unfolding count_in
closing-count high low = refl

-- each kind of frame says one kind of line: `01` gives settings
module _ (frame : List ℕ) where
  pub line-opening : kind_of frame ≡ 1 → line_in frame ≡ Opening (settings_in frame)
  unfolding line_in
  line-opening e = rw e

  -- `02` tells a word for a route
  pub line-telling : kind_of frame ≡ 2 → line_in frame ≡ Telling (route_in frame) (word_told frame)
  unfolding line_in
  line-telling e = rw e

  -- and `03` gives a count
  pub line-closing : kind_of frame ≡ 3 → line_in frame ≡ Closing (count_in frame)
  unfolding line_in
  line-closing e = rw e

-- ---- what is written

-- `11`: the node, its role, the two bytes of its slot's word
pub node-fields : (s : Settings) (table : List ℕ) (i : ℕ)
    → node_frame s table i ≡ 0x11 ∷ i ∷ role_of s i ∷ (slot s table i).word / 256 ∷ (slot s table i).word % 256 ∷ []
unfolding node_frame bytes_of
node-fields s table i = refl

-- a faulty node has role 2, a fault-free sender 0, a fault-free receiver 1
module _ (s : Settings) (i : ℕ) where
  pub role-faulty : faulty s.faults i ≡ true → role_of s i ≡ 2
  unfolding role_of
  role-faulty f = rw f

  pub role-sender : faulty s.faults i ≡ false → i ≡ s.sender → role_of s i ≡ 0
  unfolding role_of
  role-sender f e = rw (f, eq-eqb i s.sender e)

  pub role-receiver : faulty s.faults i ≡ false → i ≢ s.sender → role_of s i ≡ 1
  unfolding role_of
  role-receiver f ne = rw (f, ne_eqb i s.sender ne)

-- `12`: f, the class, the two bytes of the ties, the two bytes of the messages
pub summary-fields : (y : Summary)
    → summary_frame y ≡ 0x12 ∷ y.faults ∷ y.fault_class ∷ y.ties / 256 ∷ y.ties % 256 ∷ y.messages / 256 ∷ y.messages % 256 ∷ []
unfolding summary_frame bytes_of
summary-fields y = refl

-- `1F`: the number, the two bytes of the line
pub refusal-fields : (k line : ℕ) → refusal_frame k line ≡ 0x1f ∷ k ∷ line / 256 ∷ line % 256 ∷ []
unfolding refusal_frame bytes_of
refusal-fields k line = refl
