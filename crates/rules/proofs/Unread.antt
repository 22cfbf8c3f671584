-- The cells of fault-free tellers are not read: with everything given except the table, two tables of equal length, accepted or
-- not, that agree at every cell whose teller is faulty give the same summary and the same later row.
use mathlib.Core.Path.{◌≡◌, refl, ap₂}
use mathlib.Core.Bool.{true, false}
use mathlib.Core.List.{List, [], ◌∷◌, map}
use Prim.Native.Nat.{ℕ, zero, suc, ◌+◌, ◌*◌, ◌≤◌, ◌<◌}
use native.Mathlib.Omega.{arith}
use lib.ListN.{length, get_or}
use lib.Dec.{eqb}
use borrow.Author.Tests.{eqb-true}
use Rattle.rules.specs.Lists.{up_to}
use Rattle.rules.specs.Words.{word_at, faulty}
use Rattle.rules.specs.Routes.{free, receiver, receivers, is_path, is_route, but_last, teller}
use Rattle.rules.specs.Cells.{cells, cell, route_at}
use Rattle.rules.specs.Delivered.{delivered}
use Rattle.rules.specs.Decision.{via, judge, decide, poll, byz, decision}
use Rattle.rules.specs.Refusals.{exchange_refusal}
use Rattle.rules.specs.Exchange.{slot, slots, row_of, tie_count, played, summary_of, row_after}
use Rattle.rules.specs.declared.Settings.{Settings}
use Rattle.rules.specs.declared.Outcome.{Outcome}
use Rattle.rules.proofs.Counting.{by-test, map-keep, map-append}
use Rattle.rules.proofs.Accepted.{exchange-accepted}
use Rattle.rules.proofs.Receivers.{is-receiver, path-next, path-tail}
use Rattle.rules.proofs.Numbering.{route-is, is-route, cell-lt}
use Rattle.rules.proofs.Inverse.{route-at-of-cell}
use Rattle.rules.proofs.Relays.{length-via, route-via}

-- everything that is given to an exchange except the table: the settings, and the decision row's earlier bytes
pub record Given : Type 0 where
  pub settings : Settings
  pub row : List ℕ

-- who tells what cell c holds: the teller of the route that the numbering gives for it
unfoldable pub cell_teller : Settings → ℕ → ℕ
cell_teller s c = teller s.sender (but_last (route_at s.n s.m s.sender c))

-- two tables hold the same two bytes at every cell whose teller is faulty
unfoldable pub Agree : Settings → List ℕ → List ℕ → Type 0
Agree s t t' =
    (c : ℕ) → c < cells s.n s.m → faulty s.faults (cell_teller s c) ≡ true →
    (get_or t (2 * c) 0 ≡ get_or t' (2 * c) 0) × (get_or t (2 * c + 1) 0 ≡ get_or t' (2 * c + 1) 0)

-- two readings that are the same below n are the same over the numbers below n
map_below : {A : Type 0} (f g : ℕ → A) (n : ℕ) → ((x : ℕ) → x < n → f x ≡ g x) → map f (up_to n) ≡ map g (up_to n)
unfolding up_to
map_below f g zero h = refl
map_below f g (suc n) h = rw (map-append f, map-append g, map_below f g n (λ x b. h x (omega arith)), h n (omega arith))

-- ---- a decision looks only at what is told on routes of 1 to m+1 numbers

module _ (n m sender : ℕ) (poll : List ℕ → List ℕ → Outcome) (told told' : List ℕ → ℕ)
    (same : (p : List ℕ) → is_route n m sender p ≡ true → told p ≡ told' p) where
  -- by any vote: two accounts that tell the same on those routes give the same decision, its ties too
  pub decide-same : (t : ℕ) (r : List ℕ) → is_route n m sender r ≡ true → t + length r ≤ m + 1
      → decide n sender poll told t r ≡ decide n sender poll told' t r
  unfolding decide receivers
  decide-same zero r route room = rw (same r route)
  decide-same (suc t) r route room =
      ap₂ (judge (poll r)) (same r route)
      (map-keep (λ j. decide n sender poll told t (via j r)) (λ j. decide n sender poll told' t (via j r)) (receiver n sender r) (up_to n)
      (λ j rj. decide-same t (via j r) (route-via n sender m j r route (omega arith) rj) (omega (arith, length-via j r))))

-- ---- what is told on them comes from cells whose teller is faulty alone

module _ (s : Settings) (node : s.sender < s.n) (t t' : List ℕ) (agree : Agree s t t') where
  told_same : (p : List ℕ) → is_path s.n s.sender p ≡ true → length p ≤ s.m + 1 → delivered s t p ≡ delivered s t' p
  unfolding delivered word_at cell_teller Agree
  told_same [] path room = refl
  told_same (i ∷ p) path room =
      by-test (faulty s.faults (teller s.sender p))
      (λ (f : faulty s.faults (teller s.sender p) ≡ true).
      let route = is-route s.n s.m s.sender (i ∷ p) (record { some = omega arith; short = room; path = path }) in
      let back = route-at-of-cell s.n s.sender node s.m (i ∷ p) route in
      let both = agree (cell s.n s.sender (i ∷ p)) (cell-lt s.n s.sender node s.m (i ∷ p) route) (rw back f) in
      rw (f, both.0, both.1))
      (λ (f : faulty s.faults (teller s.sender p) ≡ false). rw f (told_same p (path-tail s.n s.sender p i path) (omega arith)))

  decision-same : (i : ℕ) → receiver s.n s.sender [] i ≡ true → decision s t i ≡ decision s t' i
  unfolding decision byz is_path
  decision-same i r =
      let first : is_route s.n s.m s.sender (i ∷ []) ≡ true =
      is-route s.n s.m s.sender (i ∷ []) (record { some = omega arith; short = omega arith; path = path-next s.n s.sender [] i r refl }) in
      decide-same s.n s.m s.sender (poll s) (delivered s t) (delivered s t')
      (λ p route. let facts = route-is s.n s.m s.sender p route in told_same p facts.path facts.short)
      s.m (i ∷ []) first (omega arith)

  slot_same : (i : ℕ) → i < s.n → slot s t i ≡ slot s t' i
  unfolding slot free
  slot_same i below = grind (arith, is-receiver s.n s.sender [] i below, decision-same i)

  slots_same : slots s t ≡ slots s t'
  unfolding slots
  slots_same = map_below (slot s t) (slot s t') s.n slot_same

  played-same : played s t ≡ played s t'
  unfolding played tie_count
  played-same = rw slots_same

  row_same : row_of s t ≡ row_of s t'
  unfolding row_of
  row_same = rw slots_same

-- two tables of equal length, accepted or not, that agree at every cell whose teller is faulty: the same summary, the same later row
pub unread : (g : Given) (t t' : List ℕ) → length t ≡ length t' → Agree g.settings t t' →
    (summary_of g.settings t (length g.row) ≡ summary_of g.settings t' (length g.row))
    × (row_after g.settings t g.row ≡ row_after g.settings t' g.row)
unfolding summary_of row_after
unread g t t' long agree =
    let s = g.settings in
    let k = exchange_refusal s (length t) (length g.row) in
    by-test (eqb k 0)
    (λ (e : eqb k 0 ≡ true).
    let node = ((exchange-accepted s (length t) (length g.row)).0 (eqb-true k 0 e)).settings.sender-below in
    (rw (← long, e, played-same s node t t' agree), rw (← long, e, row_same s node t t' agree)))
    (λ (e : eqb k 0 ≡ false). (rw (← long, e), rw (← long, e)))
