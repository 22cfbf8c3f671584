-- Routes. In every definition a route is a list held LAST NUMBER FIRST: the receiver in front, then the teller, and so on to the
-- first relay. So the route without its last number is the tail of the list. `held` takes a row as a file writes it to that
-- list, and `written` takes it back.
use Rattle.std.specs.Prelude.{ℕ, zero, suc, ◌+◌, ◌-◌, List, [], ◌∷◌, ◌++◌, Bool, true, not, ◌&&◌, length, get_or, eqb, ltb, leb}
use Rattle.rules.specs.Lists.{keep, up_to}
use Rattle.rules.specs.declared.Route as R

-- the first k numbers of a row, the last of them first
unfoldable pub back : List ℕ → ℕ → List ℕ
back row zero = []
back row (suc k) = get_or row k 0 ∷ back row k

-- a given route; places beyond its length are ignored
abbrev pub held : R.Route → List ℕ
held r = back r.nodes r.len

-- the route without its last number, as a list and as a row
abbrev pub but_last : List ℕ → List ℕ
but_last [] = []
but_last (a ∷ p) = p

abbrev pub shorter : R.Route → R.Route
shorter r = record { nodes = r.nodes; len = r.len - 1 }

-- the numbers in the order in which a file writes them
unfoldable pub written : List ℕ → List ℕ
written [] = []
written (a ∷ p) = written p ++ (a ∷ [])

-- x is none of the numbers of a list
unfoldable pub free : List ℕ → ℕ → Bool
free [] x = true
free (a ∷ p) x = not (eqb x a) && free p x

-- x may receive on top of p: it is a node, and neither the sender nor on p
unfoldable pub receiver : ℕ → ℕ → List ℕ → ℕ → Bool
receiver n sender p x = ltb x n && free (sender ∷ p) x

-- those who may, ascending
unfoldable pub receivers : ℕ → ℕ → List ℕ → List ℕ
receivers n sender p = keep (receiver n sender p) (up_to n)

-- numbers all different, all below n, none the sender
unfoldable pub is_path : ℕ → ℕ → List ℕ → Bool
is_path n sender [] = true
is_path n sender (a ∷ p) = receiver n sender p a && is_path n sender p

-- a route: 1 to m+1 such numbers
unfoldable pub is_route : ℕ → ℕ → ℕ → List ℕ → Bool
is_route n m sender p = leb 1 (length p) && leb (length p) (m + 1) && is_path n sender p

-- who tells what is delivered on top of p: the last on p, and the sender itself where p is empty
abbrev pub teller : ℕ → List ℕ → ℕ
teller sender [] = sender
teller sender (j ∷ p) = j
