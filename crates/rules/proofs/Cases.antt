-- P1 to P14, the worked numbers of the paper, shown of the definitions by one statement over one list of cases.
use mathlib.Core.Path.{◌≡◌, refl}
use mathlib.Core.Bool.{Bool, true, false, ◌&&◌, beq}
use mathlib.Core.List.{List, [], ◌∷◌}
use Prim.Native.Nat.{ℕ, ◌-◌}
use lib.Dec.{eqb}
use Rattle.rules.specs.Lists.{count, keep, all, up_to, total}
use Rattle.rules.specs.Words.{settings, word_at, reserved, plain, bytes_of, faulty}
use Rattle.rules.specs.Routes.{free, receiver, receivers}
use Rattle.rules.specs.Cells.{routes_of, cells_before, cells, digit, rank, cell}
use Rattle.rules.specs.Delivered.{delivered}
use Rattle.rules.specs.Vote.{reaches, settle, vote}
use Rattle.rules.specs.Decision.{via, judge, decide, nodes_at, threshold, byz, entries, decision}
use Rattle.rules.specs.Exchange.{slot, slots, row_of}
use Rattle.rules.specs.declared.Settings.{Settings}

-- two lists of numbers are the same
unfoldable pub same : List ℕ → List ℕ → Bool
same [] [] = true
same [] (y ∷ ys) = false
same (x ∷ xs) [] = false
same (x ∷ xs) (y ∷ ys) = eqb x y && same xs ys

-- every case of a list passes a test
unfoldable pub every : {A : Type 0} → (A → Bool) → List A → Bool
every P [] = true
every P (x ∷ xs) = P x && every P xs

pub data Case : Type 0 where
  -- N, m; M
  messages : ℕ → ℕ → ℕ → Case
  -- N, sender, the route held last number first; its cell
  numbered : ℕ → ℕ → List ℕ → ℕ → Case
  -- threshold, list; value, tie
  voting : ℕ → List ℕ → ℕ → Bool → Case
  -- settings, bytes of the table, a receiver; the entries that it gathers, and its decision
  deciding : Settings → List ℕ → ℕ → List ℕ → ℕ → Case
  -- settings, bytes of the table; bytes of the whole decision row
  playing : Settings → List ℕ → List ℕ → Case

unfoldable pub holds : Case → Bool
holds (messages n m M) = eqb (cells n m) M
holds (numbered n sender r c) = eqb (cell n sender r) c
holds (voting q xs w t) = eqb (vote q xs).word w && beq (vote q xs).tie t
holds (deciding s table i es w) = same (entries s table (s.m - 1) (i ∷ [])) es && eqb (decision s table i).word w
holds (playing s table row) = same (row_of s table) row

-- the sample: N=5, m=1, u=2, sender 0 with value 7, nodes 3 and 4 faulty
abbrev pub sample : Settings
sample = settings 5 1 2 0 7 0x0018

-- its table: 9 on (3,1) and on (4,1), 7 on (4,2), cells not given 0; one line for each round and first number
abbrev pub sample_table : List ℕ
sample_table =
    0 ∷ 0 ∷ 0 ∷ 0 ∷ 0 ∷ 0 ∷ 0 ∷ 0
    ∷ 0 ∷ 0 ∷ 0 ∷ 0 ∷ 0 ∷ 0
    ∷ 0 ∷ 0 ∷ 0 ∷ 0 ∷ 0 ∷ 0
    ∷ 0 ∷ 9 ∷ 0 ∷ 0 ∷ 0 ∷ 0
    ∷ 0 ∷ 9 ∷ 0 ∷ 7 ∷ 0 ∷ 0
    ∷ []

-- N=4, m=1, u=1, the sender 0 alone faulty
abbrev pub lone_sender : Settings
lone_sender = settings 4 1 1 0 0 0x0001

-- its table: three words that the sender tells nodes 1, 2 and 3
abbrev pub told_table : ℕ → ℕ → ℕ → List ℕ
told_table a b c = 0 ∷ a ∷ 0 ∷ b ∷ 0 ∷ c ∷ 0 ∷ 0 ∷ 0 ∷ 0 ∷ 0 ∷ 0 ∷ 0 ∷ 0 ∷ 0 ∷ 0 ∷ 0 ∷ 0 ∷ []

unfoldable pub cases : List Case
cases =
    messages 5 1 16  -- P1
    ∷ messages 7 2 156  -- P2
    ∷ messages 10 3 3609  -- P3
    ∷ messages 15 3 26404  -- P4
    ∷ numbered 4 0 (1 ∷ 2 ∷ []) 5  -- P5, route (2,1)
    ∷ numbered 4 2 (0 ∷ 3 ∷ []) 7  -- P6, route (3,0)
    ∷ voting 2 (1 ∷ 2 ∷ 2 ∷ 3 ∷ []) 2 false  -- P7
    ∷ voting 2 (1 ∷ 2 ∷ 0 ∷ 3 ∷ []) 0 false  -- P8
    ∷ voting 2 (1 ∷ 2 ∷ 2 ∷ 1 ∷ []) 0 true  -- P9
    ∷ voting 1 [] 0 false  -- P10
    ∷ deciding sample sample_table 1 (7 ∷ 7 ∷ 9 ∷ 9 ∷ []) 0  -- P11
    ∷ deciding sample sample_table 2 (7 ∷ 7 ∷ 0 ∷ 7 ∷ []) 7  -- P12
    ∷ playing lone_sender (told_table 5 5 8) (255 ∷ 255 ∷ 0 ∷ 5 ∷ 0 ∷ 5 ∷ 0 ∷ 5 ∷ [])  -- P13
    ∷ playing lone_sender (told_table 5 6 8) (255 ∷ 255 ∷ 0 ∷ 0 ∷ 0 ∷ 0 ∷ 0 ∷ 0 ∷ [])  -- P14
    ∷ []

pub worked : every holds cases ≡ true
unfolding every cases holds same count keep all up_to total word_at reserved plain bytes_of faulty free receiver receivers routes_of cells_before cells digit rank cell delivered reaches settle vote via judge decide nodes_at threshold byz entries decision slot slots row_of
worked = refl
