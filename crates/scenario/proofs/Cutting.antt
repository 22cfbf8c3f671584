-- Cutting a file at its line ends loses nothing, and there is no other way to cut it: the lines and the rest have no LF of their own,
-- and put together again, each line with its LF, they are the file.
use mathlib.Core.Path.{◌≡◌, refl, sym, ◌∙◌}
use mathlib.Core.Bool.{Bool, true, false, not, ◌&&◌}
use mathlib.Core.List.{List, [], ◌∷◌, ◌++◌, append-nil}
use Prim.Native.Nat.{ℕ}
use native.Mathlib.Omega.{arith}
use lib.Dec.{eqb}
use lib.Seq.{append_snoc}
use borrow.Author.Tests.{eqb-true}
use Rattle.rules.specs.Lists.{all}
use Rattle.rules.proofs.Counting.{by-test, and_both}
use Rattle.scenario.specs.Lines.{line_end, lines_from, rest_from, lines_of, rest_of}

-- lines, each with its LF, and what follows them
unfoldable pub joined : List (List ℕ) → List ℕ → List ℕ
joined [] rest = rest
joined (line ∷ lines) rest = line ++ (line_end ∷ joined lines rest)

abbrev pub not_end : ℕ → Bool
not_end b = not (eqb b line_end)

-- no LF in any of these lines, nor in the rest
unfoldable pub endless : List (List ℕ) → List ℕ → Bool
endless [] rest = all not_end rest
endless (line ∷ lines) rest = all not_end line && endless lines rest

-- put together again they are the file
pub nothing-lost : (begun x : List ℕ) → joined (lines_from begun x) (rest_from begun x) ≡ begun ++ x
unfolding joined lines_from rest_from
nothing-lost begun [] = sym (append-nil begun)
nothing-lost begun (b ∷ x) =
    by-test (eqb b line_end)
    (λ (e : eqb b line_end ≡ true). rw (e, ← eqb-true b line_end e, nothing-lost [] x))
    (λ (e : eqb b line_end ≡ false). rw e (nothing-lost (begun ++ (b ∷ [])) x ∙ append_snoc begun b x))

all_snoc : (P : ℕ → Bool) (xs : List ℕ) (b : ℕ) → all P xs ≡ true → P b ≡ true → all P (xs ++ (b ∷ [])) ≡ true
unfolding all
all_snoc P [] b h e = and_both e refl
all_snoc P (x ∷ xs) b h e = grind (arith, all_snoc P xs b)

-- and they have no LF of their own
pub cut-clean : (begun x : List ℕ) → all not_end begun ≡ true → endless (lines_from begun x) (rest_from begun x) ≡ true
unfolding endless lines_from rest_from all
cut-clean begun [] h = h
cut-clean begun (b ∷ x) h = grind (arith, cut-clean [] x refl, cut-clean (begun ++ (b ∷ [])) x, all_snoc not_end begun b h)

-- ---- no other way to cut

-- what follows a line's LF is cut by itself
line-cut : (begun line x : List ℕ) → all not_end line ≡ true → lines_from begun (line ++ (line_end ∷ x)) ≡ (begun ++ line) ∷ lines_of x
unfolding lines_from all
line-cut begun [] x h = rw append-nil
line-cut begun (b ∷ line) x h = grind (arith, line-cut (begun ++ (b ∷ [])) line x, append_snoc begun b line)

rest-cut : (begun line x : List ℕ) → all not_end line ≡ true → rest_from begun (line ++ (line_end ∷ x)) ≡ rest_of x
unfolding rest_from all
rest-cut begun [] x h = refl
rest-cut begun (b ∷ line) x h = grind (arith, rest-cut (begun ++ (b ∷ [])) line x)

no_line : (begun rest : List ℕ) → all not_end rest ≡ true → lines_from begun rest ≡ []
unfolding lines_from all
no_line begun [] h = refl
no_line begun (b ∷ rest) h = grind (arith, no_line (begun ++ (b ∷ [])) rest)

all_rest : (begun rest : List ℕ) → all not_end rest ≡ true → rest_from begun rest ≡ begun ++ rest
unfolding rest_from all
all_rest begun [] h = sym (append-nil begun)
all_rest begun (b ∷ rest) h = grind (arith, all_rest (begun ++ (b ∷ [])) rest, append_snoc begun b rest)

-- lines and a rest without LF are what their file is cut into
pub lines-again : (lines : List (List ℕ)) (rest : List ℕ) → endless lines rest ≡ true → lines_of (joined lines rest) ≡ lines
unfolding joined endless
lines-again [] rest h = no_line [] rest h
lines-again (line ∷ lines) rest h = grind (arith, line-cut [] line (joined lines rest), lines-again lines rest)

pub rest-again : (lines : List (List ℕ)) (rest : List ℕ) → endless lines rest ≡ true → rest_of (joined lines rest) ≡ rest
unfolding joined endless
rest-again [] rest h = all_rest [] rest h
rest-again (line ∷ lines) rest h = grind (arith, rest-cut [] line (joined lines rest), rest-again lines rest)
