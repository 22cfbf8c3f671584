-- The numbers of the refusals, as plain facts: each is the paper's, no two are one, and none is 0, which stands for no refusal. And what
-- is answered where something may be refused.
use mathlib.Core.Path.{◌≡◌, refl, sym, ap, ◌∙◌}
use mathlib.Core.Logic.{◌≢◌, ◌↔◌}
use mathlib.Core.List.{List, [], ◌∷◌, map}
use Prim.Native.Nat.{ℕ}
use native.Mathlib.Omega.{arith}
use lib.Dec.{eqb}
use Rattle.std.specs.Prelude.{Result, Ok, Err, cond}
use Rattle.rules.specs.Numbers.{number_of, RefusedOr}
use Rattle.rules.specs.declared.Refusal.{Refusal}
use Rattle.rules.specs.declared.Refusal.TheVariants.{WrongNodes, WrongRounds, LowBound, TooFew, NoSender, ReservedValue, StrayFault, WrongTable, WrongRow, FewMarks, NoThreshold, OddList, NoRoute, NoCell, NoRound, NoFrame, OutOfPlace, WrongSize, Routeless, GivenBefore, WrongCount, CutShort}

-- ---- the table

-- what is turned away: by an exchange and the calls beside it, and by a scenario file
abbrev pub of_calls : List Refusal
of_calls =
    WrongNodes
    ∷ WrongRounds
    ∷ LowBound
    ∷ TooFew
    ∷ NoSender
    ∷ ReservedValue
    ∷ StrayFault
    ∷ WrongTable
    ∷ WrongRow
    ∷ FewMarks
    ∷ NoThreshold
    ∷ OddList
    ∷ NoRoute
    ∷ NoCell
    ∷ NoRound
    ∷ []

abbrev pub of_files : List Refusal
of_files = NoFrame ∷ OutOfPlace ∷ WrongSize ∷ Routeless ∷ GivenBefore ∷ WrongCount ∷ CutShort ∷ []

pub call-numbers : map number_of of_calls ≡ 1 ∷ 2 ∷ 3 ∷ 4 ∷ 5 ∷ 6 ∷ 7 ∷ 8 ∷ 9 ∷ 10 ∷ 11 ∷ 12 ∷ 13 ∷ 14 ∷ 15 ∷ []
call-numbers = refl

pub file-numbers : map number_of of_files ≡ 20 ∷ 21 ∷ 22 ∷ 23 ∷ 24 ∷ 25 ∷ 26 ∷ []
file-numbers = refl

-- ---- a number tells its refusal

-- the first refusal of a list that has number k, or else this one
abbrev first_with : ℕ → Refusal → List Refusal → Refusal
first_with k other [] = other
first_with k other (e ∷ es) = cond (eqb (number_of e) k) e (first_with k other es)

abbrev with_number : ℕ → Refusal
with_number k = first_with k (first_with k CutShort of_files) of_calls

-- every refusal is in the table, under its own number
told : (e : Refusal) → with_number (number_of e) ≡ e
told WrongNodes = refl
told WrongRounds = refl
told LowBound = refl
told TooFew = refl
told NoSender = refl
told ReservedValue = refl
told StrayFault = refl
told WrongTable = refl
told WrongRow = refl
told FewMarks = refl
told NoThreshold = refl
told OddList = refl
told NoRoute = refl
told NoCell = refl
told NoRound = refl
told NoFrame = refl
told OutOfPlace = refl
told WrongSize = refl
told Routeless = refl
told GivenBefore = refl
told WrongCount = refl
told CutShort = refl

-- two refusals of one number are one
pub number-tells : (e f : Refusal) → number_of e ≡ number_of f → e ≡ f
number-tells e f same = sym (told e) ∙ ap with_number same ∙ told f

-- no refusal has the number that an accepted call answers
pub number-some : (e : Refusal) → number_of e ≢ 0
number-some e zero =
    let last : e ≡ CutShort = sym (told e) ∙ ap with_number zero in
    absurd (omega (arith, zero, ap number_of last))

-- ---- what is answered where something may be refused

module _ {A : Type 0} (k : ℕ) (P : A → Type 0) where
  -- a value only where nothing is refused, and then one of which P holds
  pub value-answered : (a : A) → RefusedOr k P (Ok a) ↔ ((k ≡ 0) × P a)
  value-answered a = (λ h. h, λ h. h)

  -- a refusal only by its own number
  pub refusal-answered : (e : Refusal) → RefusedOr k P (Err e) ↔ (number_of e ≡ k)
  refusal-answered e = (λ h. h, λ h. h)

  -- where the number is 0, a value is answered
  pub accepted : (x : Result A Refusal) → RefusedOr k P x → k ≡ 0 → (a : A) × (x ≡ Ok a) × P a
  accepted (Ok a) h zero = (a, refl, h.1)
  accepted (Err e) h zero = absurd (number-some e (h ∙ zero))

  -- and where it is not, the refusal that has it
  pub refused : (x : Result A Refusal) → RefusedOr k P x → k ≢ 0 → (e : Refusal) × (x ≡ Err e) × (number_of e ≡ k)
  refused (Ok a) h some = absurd (some h.0)
  refused (Err e) h some = (e, refl, h)
