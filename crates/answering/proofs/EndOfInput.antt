-- The end of the input, as the code finds it.
use mathlib.Core.Path.{◌≡◌, refl, ap}
use mathlib.Core.Bool.{Bool, true, false, not, or-true}
use mathlib.Core.List.{List, [], ◌∷◌}
use Prim.Native.Nat.{ℕ, ◌*◌, ◌≤◌, ◌<◌}
use native.Mathlib.Omega.{arith}
use borrow.Author.Tests.{eq-eqb, ne_eqb, lt-ltb, le-ltb}
use denote.Enum.Bare.{sameb}
use mir.Syntax.{w64}
use mir.Val.{Fits}
use lib.ListN.{length, take, length-take}
use Rattle.std.specs.Prelude.{Err}
use Rattle.rules.specs.Cells.{cells}
use Rattle.rules.specs.Refusals.{first, settings_refusal}
use Rattle.rules.proofs.Growth.{cells-few}
use Rattle.scenario.specs.contracts.Stage.{the_type}
use Rattle.scenario.specs.Reasons.{stage_number, stage_of, stopped, short_table}
use Rattle.scenario.specs.File.{cut_short, end_reasons, end_refusal, refused_line, table_given}
use Rattle.scenario.specs.Answer.{refusal_frame, played_frames, answer_frames, text_of, answer_of}
use Rattle.scenario.specs.Feeding.{line_held, finished}
use Rattle.scenario.specs.declared.Reader.{Reader}
use Rattle.scenario.specs.declared.Stage.{Stage}
use Rattle.scenario.specs.declared.Stage.TheVariants.{Before, Opened, Closed}
use Rattle.scenario.proofs.FromStart.{settings-known}
use Rattle.answering.specs.Finish.{Playable, Ended}
use Rattle.answering.specs.declared.ending.Refused.{Refused}

-- whether a stage is that behind an `03` line, as the code compares it
pub is_closed : (stage : Stage) (other : Bool) → other ≡ not (sameb the_type stage Closed) → other ≡ false → stage_number stage ≡ 2
is_closed Before other is e = cc
is_closed Opened other is e = cc
is_closed Closed other is e = refl

pub not_closed : (stage : Stage) (other : Bool) → other ≡ not (sameb the_type stage Closed) → other ≡ true → stage_number stage ≡ 2 → ⊥
not_closed Before other is e closed = cc
not_closed Opened other is e closed = cc
not_closed Closed other is e closed = cc

-- what is said of a refused line
pub line_refused : (r : Reader) (table : List ℕ) → (r.refusal ≡ 0 → ⊥) → Ended r table (Err (record { number = r.refusal; line = r.lines }))
unfolding first end_reasons refused_line
line_refused r table ne = (rw (ne_eqb r.refusal 0 ne), ne, rw (ne_eqb r.refusal 0 ne))

module _ (r : Reader) (table : List ℕ) (running : r.refusal ≡ 0) where
  goes_on : stopped r ≡ false
  goes_on = ap not (eq-eqb r.refusal 0 running)

  -- and where none was refused
  said : (e : Refused) (k : ℕ) → e ≡ record { number = k; line = 0 } → (k ≡ 0 → ⊥) → k ≡ end_refusal r table (line_held r) → Ended r table (Err e)
  unfolding refused_line
  said e k is some why = rw (is, goes_on) (why, some, refl)

  module _ (stage : ℕ) (is : stage ≡ stage_of r) where
    -- 26: the input ends before an accepted `03` line
    pub ends_early : (e : Refused) → e ≡ record { number = 26; line = 0 } → (stage ≡ 2 → ⊥) → Ended r table (Err e)
    unfolding first end_reasons cut_short
    ends_early e w ne = said e 26 w (λ h. cc) (rw (goes_on, ← is, ne_eqb stage 2 ne))

    module _ (closed : stage ≡ 2) where
      -- a reader at a stage has accepted settings
      pub settled : settings_refusal r.settings ≡ 0
      settled = settings-known r (omega arith)

      -- 26: or with an unfinished line
      pub end-unfinished : length r.held ≡ 19 → (r.count ≡ 0 → ⊥) → 26 ≡ end_refusal r table (line_held r)
      unfolding first end_reasons cut_short
      end-unfinished whole ne =
          let some : length (line_held r) ≡ 0 → ⊥ = λ e. ne (omega (arith, e, length-take r.count r.held, whole)) in
          rw (goes_on, ne_eqb (length (line_held r)) 0 some, or-true)

      -- and so it is said
      pub ends_unfinished : (e : Refused) → e ≡ record { number = 26; line = 0 } → length r.held ≡ 19 → (r.count ≡ 0 → ⊥) → Ended r table (Err e)
      ends_unfinished e w whole ne = said e 26 w (λ h. cc) (end-unfinished whole ne)

      module _ (none : r.count ≡ 0) (k : ℕ) (many : k ≡ cells r.settings.n r.settings.m) where
        complete : cut_short r (line_held r) ≡ false
        unfolding cut_short
        complete =
            let empty : length (line_held r) ≡ 0 = ap (λ n. length (take n r.held)) none in
            rw (← is, closed, empty)

        -- such settings have few cells
        pub cells_doubled : Fits w64 (2 * k)
        cells_doubled = record { fits = omega (arith, cells-few r.settings settled) }

        -- 8: the table is shorter than the settings ask
        pub ends_short : (e : Refused) → e ≡ record { number = 8; line = 0 } → length table < 2 * k → Ended r table (Err e)
        unfolding first end_reasons short_table
        ends_short e w h = said e 8 w (λ h. cc) (rw (goes_on, complete, ← many, lt-ltb (length table) (2 * k) h))

        -- else the file is accepted
        pub ends_whole : 2 * k ≤ length table → (end_refusal r table (line_held r) ≡ 0) × Playable r.settings table
        unfolding first end_reasons short_table
        ends_whole h =
            (rw (goes_on, complete, ← many, le-ltb (length table) (2 * k) h), record { settings = settled; long = rw (← many) h })

-- ---- what there is to say

module _ (r : Reader) (table text : List ℕ) where
  pub says_played : end_refusal r table (line_held r) ≡ 0 → text ≡ text_of (played_frames r.settings (table_given r.settings table)) → text ≡ finished r table
  unfolding answer_of answer_frames
  says_played none is = rw (is, none)

  pub says_refused : (e : Refused) → Ended r table (Err e) → text ≡ text_of (refusal_frame e.number e.line ∷ []) → text ≡ finished r table
  unfolding answer_of answer_frames
  says_refused e end is = rw (is, end.2, ← end.0, ne_eqb e.number 0 end.1)
