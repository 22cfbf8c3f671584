-- The decision, BYZ(t,m). A decision stands on a route: it is what the route's receiver decides when the route's teller acts
-- as sender. With no round left it is the delivered word; with one more it is the vote over the receiver's own entry, which is
-- that delivered word, and for each other receiver j what the receiver decides when j acts as sender.
use Rattle.std.specs.Prelude.{ℕ, zero, suc, ◌+◌, ◌-◌, List, [], ◌∷◌, map, length}
use Rattle.rules.specs.Lists.{bit, total}
use Rattle.rules.specs.Routes.{receivers}
use Rattle.rules.specs.Vote.{vote}
use Rattle.rules.specs.Delivered.{delivered}
use Rattle.rules.specs.declared.Settings.{Settings}
use Rattle.rules.specs.declared.Outcome.{Outcome}
use Rattle.rules.specs.declared.Decided.{Decided}

-- the route with relay j put before its receiver
unfoldable pub via : ℕ → List ℕ → List ℕ
via j [] = j ∷ []
via j (i ∷ p) = i ∷ j ∷ p

abbrev pub word_of : Decided → ℕ
word_of d = d.word

abbrev pub ties_of : Decided → ℕ
ties_of d = d.ties

-- a poll of the own entry and the others', with the ties met so far
unfoldable pub judge : (List ℕ → Outcome) → ℕ → List Decided → Decided
judge poll own others =
    record { word = (poll (own ∷ map word_of others)).word; ties = total (map ties_of others) + bit (poll (own ∷ map word_of others)).tie }

-- The tree of decisions, over any vote (which may look at the route) and any account of what is told.
unfoldable pub decide : ℕ → ℕ → (List ℕ → List ℕ → Outcome) → (List ℕ → ℕ) → ℕ → List ℕ → Decided
decide n sender poll told zero r = record { word = told r; ties = 0 }
decide n sender poll told (suc t) r =
    judge (poll r) (told r) (map (λ j. decide n sender poll told t (via j r)) (receivers n sender r))

-- n at the level of a route: all N at the top, where routes have one number, and one fewer at each step down
unfoldable pub nodes_at : Settings → List ℕ → ℕ
nodes_at s r = s.n + 1 - length r

-- n-1-m at every level; m does not fall
unfoldable pub threshold : Settings → List ℕ → ℕ
threshold s r = nodes_at s r - 1 - s.m

abbrev pub poll : Settings → List ℕ → List ℕ → Outcome
poll s r xs = vote (threshold s r) xs

-- BYZ with t rounds left
unfoldable pub byz : Settings → List ℕ → ℕ → List ℕ → Decided
byz s table t r = decide s.n s.sender (poll s) (delivered s table) t r

-- the entries of the receiver of r where t+1 rounds are left: its own, and for each other receiver a decision of one round less
unfoldable pub entries : Settings → List ℕ → ℕ → List ℕ → List ℕ
entries s table t r = delivered s table r ∷ map (λ j. (byz s table t (via j r)).word) (receivers s.n s.sender r)

-- receiver i's decision in the exchange: BYZ(m,m)
unfoldable pub decision : Settings → List ℕ → ℕ → Decided
decision s table i = byz s table s.m (i ∷ [])
