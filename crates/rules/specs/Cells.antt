-- The numbering of messages. Cells run round after round; inside a round routes stand in ascending order, the first number
-- weighing most. The digit of a number is how many free nodes stand below it, counted, with no number taken from another.
use Rattle.std.specs.Prelude.{ℕ, zero, suc, ◌+◌, ◌*◌, ◌-◌, ◌/◌, ◌%◌, List, [], ◌∷◌, cond, length, get_or, ltb}
use Rattle.rules.specs.Lists.{count, up_to}
use Rattle.rules.specs.Routes.{free, receivers}

-- how many routes of k numbers there are: (n-1)(n-2)..(n-k)
unfoldable pub routes_of : ℕ → ℕ → ℕ
routes_of n zero = 1
routes_of n (suc k) = routes_of n k * (n - 1 - k)

-- round k has the routes of k+1 numbers
abbrev pub round_size : ℕ → ℕ → ℕ
round_size n k = routes_of n (suc k)

-- the cells of the rounds before round k
unfoldable pub cells_before : ℕ → ℕ → ℕ
cells_before n zero = 0
cells_before n (suc k) = cells_before n k + round_size n k

-- M, the sum over rounds 0 to m
unfoldable pub cells : ℕ → ℕ → ℕ
cells n m = cells_before n (m + 1)

-- how many nodes below a are free beside the sender and p
unfoldable pub digit : ℕ → List ℕ → ℕ → ℕ
digit sender p a = count (free (sender ∷ p)) (up_to a)

-- a route's place among the routes of its length
unfoldable pub rank : ℕ → ℕ → List ℕ → ℕ
rank n sender [] = 0
rank n sender (a ∷ p) = rank n sender p * (n - 1 - length p) + digit sender p a

-- a route's cell
unfoldable pub cell : ℕ → ℕ → List ℕ → ℕ
cell n sender p = cells_before n (length p - 1) + rank n sender p

-- the round in which cell c stands, of rounds 0 to k
unfoldable pub round_of : ℕ → ℕ → ℕ → ℕ
round_of n zero c = 0
round_of n (suc k) c = cond (ltb c (cells_before n (suc k))) (round_of n k c) (suc k)

-- the route of k numbers at a place among those of its length
unfoldable pub unrank : ℕ → ℕ → ℕ → ℕ → List ℕ
unrank n sender zero c = []
unrank n sender (suc k) c =
    let p = unrank n sender k (c / (n - 1 - k)) in
    get_or (receivers n sender p) (c % (n - 1 - k)) 0 ∷ p

-- a cell's route
unfoldable pub route_at : ℕ → ℕ → ℕ → ℕ → List ℕ
route_at n m sender c = unrank n sender (suc (round_of n m c)) (c - cells_before n (round_of n m c))
