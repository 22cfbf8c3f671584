-- The refusals of a whole line as the code finds them: one law for each answer, over the tests passed before it.
use mathlib.Core.Path.{◌≡◌, refl, sym, ap, ◌∙◌}
use mathlib.Core.Logic.{inl}
use mathlib.Core.Bool.{Bool, true, false, not, ◌&&◌, true≢false, false≢true}
use mathlib.Core.List.{List}
use Prim.Native.Nat.{ℕ, ◌/◌, ◌<◌}
use borrow.Author.Tests.{eq-eqb, ne_eqb, ltb-true}
use lib.ListN.{length, get_or}
use Rattle.std.specs.Prelude.{Result, Ok, Err, is_err}
use Rattle.rules.specs.Numbers.{RefusedOr}
use Rattle.rules.specs.Refusals.{first, settings_refusal}
use Rattle.rules.specs.declared.Refusal.{Refusal}
use Rattle.rules.proofs.Counting.{by-test, and_right}
use Rattle.rules.proofs.Numbers.{number-some}
use Rattle.scenario.specs.declared.Reader.{Reader}
use Rattle.scenario.specs.declared.Line.{Line}
use Rattle.scenario.proofs.LineTable.{stage-said, stage-forged}
use native.Mathlib.Omega.{arith}
use lib.Dec.{eqb, ltb}
use Rattle.scenario.specs.Hex.{frame_of}
use Rattle.scenario.specs.Frames.{kind_of, line_in}
use Rattle.scenario.specs.Reasons.{desk, stage_of, no_frame, out_of_place, size_of, wrong_size, kind_reasons, line_reasons, line_refusal}
use Rattle.scenario.specs.Feeding.{line_held}
use Rattle.scenario.proofs.Hexadecimal.{length-frame}
use Rattle.frames.specs.Rows.{frame_row}
use Rattle.frames.proofs.FrameRows.{row-byte, size-row, line-row}
use Rattle.reasons.specs.Steps.{said_refusal, Ready}
use Rattle.reasons.proofs.KindCascade.{ready, kind-said}

-- ---- stages

module _ {A : Type 0} (r : Reader) (P : A → Type 0) where
  -- settings that would be refused: no `01` line was met
  pub stage-none : (x : Result A Refusal) → RefusedOr (settings_refusal r.settings) P x → is_err x ≡ true → 0 ≡ stage_of r
  stage-none (Ok a) h e = absurd (false≢true e)
  stage-none (Err y) h e = sym (stage-forged r (inl (λ z. number-some y (h ∙ z))))

  -- else the reader is at the stage that it says
  pub stage-known : (x : Result A Refusal) → RefusedOr (settings_refusal r.settings) P x → is_err x ≡ false → (k : ℕ) → r.stage ≡ k → k < 3 → k ≡ stage_of r
  stage-known (Ok a) h e k is below = sym (stage-said r h.0 (omega arith) ∙ is)
  stage-known (Err y) h e k is below = absurd (true≢false e)

-- nor was one met at a stage that is none
pub stage-unknown : (r : Reader) → (r.stage ≡ 1 → ⊥) → (r.stage ≡ 2 → ⊥) → 0 ≡ stage_of r
unfolding stage_of
stage-unknown r one two =
    let said = eqb (settings_refusal r.settings) 0 in
    by-test (said && ltb r.stage 3)
    (λ (e : (said && ltb r.stage 3) ≡ true). rw e (omega (arith, ltb-true r.stage 3 (and_right said (ltb r.stage 3) e))))
    (λ (e : (said && ltb r.stage 3) ≡ false). rw e)

-- ---- a whole line: the bytes held, and their frame in a row of nine

module _ (r : Reader) (table marks : List ℕ) (line : List ℕ) (is : line ≡ line_held r) where
  because-20 : no_frame line ≡ true → line_refusal (desk r table marks) line ≡ 20
  unfolding first line_reasons
  because-20 e = rw e

  -- 20: no frame
  pub line-none : no_frame line ≡ true → 20 ≡ line_refusal (desk r table marks) (line_held r)
  line-none e = rw (← is) (sym (because-20 e))

  module _ (some : no_frame line ≡ false) (row : List ℕ) (read : row ≡ frame_row (frame_of line)) (stage : ℕ) (at : stage ≡ stage_of r) where
    place : (o : Bool) → out_of_place stage (get_or row 0 0) ≡ o → out_of_place (stage_of r) (kind_of (frame_of line)) ≡ o
    place o p = rw (← row-byte (frame_of line) 0, ← read, ← at) p

    because-21 : out_of_place (stage_of r) (kind_of (frame_of line)) ≡ true → line_refusal (desk r table marks) line ≡ 21
    unfolding first line_reasons
    because-21 p = rw (some, p)

    -- 21: out of its place
    pub line-out : out_of_place stage (get_or row 0 0) ≡ true → 21 ≡ line_refusal (desk r table marks) (line_held r)
    line-out p = rw (← is) (sym (because-21 (place true p)))

    module _ (inside : out_of_place stage (get_or row 0 0) ≡ false) where
      -- whether a size is wrong, as the code asks it
      wrong-size : wrong_size (frame_of line) ≡ not (eqb (length line / 2) (size_of row))
      unfolding wrong_size
      wrong-size = rw (length-frame, read, size-row)

      because-22 : wrong_size (frame_of line) ≡ true → line_refusal (desk r table marks) line ≡ 22
      unfolding first line_reasons
      because-22 w = rw (some, place false inside, w)

      -- 22: a wrong size
      pub line-wrong : (size : ℕ) → size ≡ size_of row → (length line / 2 ≡ size → ⊥) → 22 ≡ line_refusal (desk r table marks) (line_held r)
      line-wrong k sized ne = rw (← is) (sym (because-22 (wrong-size ∙ rw (← sized, ne_eqb (length line / 2) k ne))))

      -- in its place, what it says may be asked
      pub line-ready : (l : Line) → l ≡ line_in row → Ready r l
      line-ready l said = rw said (ready r row (rw (← at) inside))

      by-kind : wrong_size (frame_of line) ≡ false → line_refusal (desk r table marks) line ≡ first (kind_reasons (desk r table marks) (frame_of line))
      unfolding first line_reasons
      by-kind w = rw (some, place false inside, w)

      -- else the refusals of its kind
      pub line-kind : (size : ℕ) → size ≡ size_of row → length line / 2 ≡ size → (k : ℕ) → k ≡ first (kind_reasons (desk r table marks) row)
          → k ≡ line_refusal (desk r table marks) (line_held r)
      line-kind size sized same k e =
          let d = desk r table marks in
          let told : said_refusal d (line_in row) ≡ said_refusal d (line_in (frame_of line)) = ap (said_refusal d) (ap line_in read ∙ line-row (frame_of line)) in
          let kind = by-kind (wrong-size ∙ rw (← sized, eq-eqb (length line / 2) size same)) in
          rw (← is) (e ∙ kind-said d row ∙ told ∙ sym (kind-said d (frame_of line)) ∙ sym kind)

      module _ (k : ℕ) (sized : k ≡ size_of row) (same : length line / 2 ≡ k) (l : Line) (said : l ≡ line_in row) where
        -- it says what the line's bytes say
        pub line-read : l ≡ line_in (frame_of (line_held r))
        line-read = rw (← is, said, read, line-row)

        -- and it is refused for what it says
        pub line-said : line_refusal (desk r table marks) (line_held r) ≡ said_refusal (desk r table marks) l
        line-said =
            let d = desk r table marks in
            sym (line-kind k sized same (first (kind_reasons d row)) refl) ∙ kind-said d row ∙ ap (said_refusal d) (sym said)

-- what the code found out of its place, the definitions do
pub in-place : (r : Reader) (stage kind : ℕ) (o : Bool) → stage ≡ stage_of r → o ≡ out_of_place stage kind → o ≡ false → out_of_place (stage_of r) kind ≡ false
in-place r stage kind o at is e = rw (← at) (sym is ∙ e)
