-- What the program writes, said of any input and any output: of each the bytes that it has left or holds, where those are known.
use Rattle.std.specs.Prelude.{List, ℕ, ◌-◌, ◌^◌, ◌⊎◌, Option}
use Rattle.std.specs.Io.KnownBytes.{Consumes, IsAtEnd, Keeps, Appends}
use Rattle.scenario.specs.Answer.{output_of}
use Rattle.play.specs.Pieces.{Loses}
use Rattle.play.specs.declared.Failure.{Failure}
use Rattle.play.specs.declared.Failure.TheVariants.{Reading, Writing}

-- a file was read from the input to its end, and its answer written and nothing else
pub record Answers (left rest before now : Option (List ℕ)) : Type 0 where
  pub file : List ℕ
  pub taken : Consumes left rest file
  pub ended : IsAtEnd rest
  pub written : Appends before now (output_of file)

-- 2^64-1 reads, each of which gave something, did not come to the input's end: nothing is written
pub record Endless (left rest before now : Option (List ℕ)) : Type 0 where
  pub lost : Loses left rest (2 ^ 64 - 1)
  pub kept : Keeps before now

-- what the program did where no read and no write failed
abbrev pub Played : Option (List ℕ) → Option (List ℕ) → Option (List ℕ) → Option (List ℕ) → Type 0
Played left rest before now = Answers left rest before now ⊎ Endless left rest before now

-- What a failure leaves: where a read failed, nothing is written; a write is tried only once the input was read to its end.
abbrev pub Failed : Failure → Option (List ℕ) → Option (List ℕ) → Option (List ℕ) → Type 0
Failed (Reading e) rest before now = Keeps before now
Failed (Writing e) rest before now = IsAtEnd rest
