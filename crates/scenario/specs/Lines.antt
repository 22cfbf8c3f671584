-- A file cut at its line ends: the complete lines in their order, without their LF, and what follows the last LF.
use Rattle.std.specs.Prelude.{ℕ, List, [], ◌∷◌, ◌++◌, cond, eqb}

-- LF
abbrev pub line_end : ℕ
line_end = 10

-- the complete lines, where the first bytes of the first one were met before
unfoldable pub lines_from : List ℕ → List ℕ → List (List ℕ)
lines_from begun [] = []
lines_from begun (b ∷ x) = cond (eqb b line_end) (begun ∷ lines_from [] x) (lines_from (begun ++ (b ∷ [])) x)

-- what follows the last LF
unfoldable pub rest_from : List ℕ → List ℕ → List ℕ
rest_from begun [] = begun
rest_from begun (b ∷ x) = cond (eqb b line_end) (rest_from [] x) (rest_from (begun ++ (b ∷ [])) x)

-- the complete lines of a file
abbrev pub lines_of : List ℕ → List (List ℕ)
lines_of x = lines_from [] x

-- its unfinished line; nothing where the file ends with an LF
abbrev pub rest_of : List ℕ → List ℕ
rest_of x = rest_from [] x
