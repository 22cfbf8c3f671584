-- The number of each refusal, and what is answered where something may be refused.
use Rattle.std.specs.Prelude.{ℕ, ◌≡◌, Result, Ok, Err}
use Rattle.rules.specs.declared.Refusal.{Refusal}
use Rattle.rules.specs.declared.Refusal.TheVariants.{WrongNodes, WrongRounds, LowBound, TooFew, NoSender, ReservedValue, StrayFault, WrongTable, WrongRow, FewMarks, NoThreshold, OddList, NoRoute, NoCell, NoRound, NoFrame, OutOfPlace, WrongSize, Routeless, GivenBefore, WrongCount, CutShort}

abbrev pub number_of : Refusal → ℕ
number_of WrongNodes = 1
number_of WrongRounds = 2
number_of LowBound = 3
number_of TooFew = 4
number_of NoSender = 5
number_of ReservedValue = 6
number_of StrayFault = 7
number_of WrongTable = 8
number_of WrongRow = 9
number_of FewMarks = 10
number_of NoThreshold = 11
number_of OddList = 12
number_of NoRoute = 13
number_of NoCell = 14
number_of NoRound = 15
number_of NoFrame = 20
number_of OutOfPlace = 21
number_of WrongSize = 22
number_of Routeless = 23
number_of GivenBefore = 24
number_of WrongCount = 25
number_of CutShort = 26

-- What a function answers that refuses or gives a value: the refusal whose number k is, or, where k is 0, a value of which P holds.
abbrev pub RefusedOr : {A : Type 0} → ℕ → (A → Type 0) → Result A Refusal → Type 0
RefusedOr k P (Ok a) = (k ≡ 0) × P a
RefusedOr k P (Err e) = number_of e ≡ k
