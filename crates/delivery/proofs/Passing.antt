-- Where no number on a route is faulty, every relay passed on what it was told: the word is what the sender told the first of them.
use Prim.Native.Nat.{ℕ, zero, suc, ◌+◌, ◌-◌, ◌<◌}
use mathlib.Core.Path.{◌≡◌, refl, sym, ap, ◌∙◌}
use mathlib.Core.List.{List, [], ◌∷◌}
use mathlib.Core.Bool.{true, false, not, and-false}
use native.Mathlib.Omega.{arith}
use lib.ListN.{get_or}
use lib.Bits.{bit_and, and_comm}
use lib.Dec.{eqb}
use borrow.Author.Tests.{eqb-true, not-false}
use Rattle.rules.specs.Words.{word_at, plain, faulty}
use Rattle.rules.specs.Routes.{back, held, free, receiver, is_path}
use Rattle.rules.specs.Cells.{cell}
use Rattle.rules.specs.Delivered.{delivered}
use Rattle.rules.specs.Decision.{via}
use Rattle.rules.specs.Answers.{row_of_route}
use Rattle.rules.proofs.Counting.{by-test}
use Rattle.rules.proofs.Receivers.{free-self, free-swap, receiver-below, path-head, path-tail, path-next}
use Rattle.rules.proofs.Rows.{length_back, held-row}
use Rattle.rules.proofs.Relays.{length-via, path-via}
use Rattle.rules.proofs.Clauses.{told-by-faulty}
use Rattle.rules.specs.declared.Settings.{Settings}
use Rattle.rules.specs.declared.Route as R
use Rattle.routes.specs.Needs.{Extendable}
use Rattle.delivery.specs.Marks.{Marks}
use Rattle.delivery.specs.Told.{Given, Told, Relayed}
use Rattle.delivery.proofs.Delivering.{on_none, from_cell, passed_on}
use Rattle.delivery.proofs.Marks

-- ---- what the sender told a node

-- that node's number is a route
pub sent-told : (s : Settings) (to : ℕ) (r : R.Route) (row : List ℕ) → receiver s.n s.sender [] to ≡ true → r ≡ record { nodes = to ∷ row; len = 1 } → Told s r
unfolding back is_path
sent-told s to r row node e =
    rw e record { some = omega arith; short = omega arith; path = path-next s.n s.sender [] to node refl }

module _ (s : Settings) (t : List ℕ) (to : ℕ) where
  -- a fault-free sender told its value
  pub sent-value : false ≡ faulty s.faults s.sender → s.value ≡ delivered s t (to ∷ [])
  unfolding back
  sent-value off = on_none s t (to ∷ []) ∙ passed_on s t (to ∷ []) 1 (omega arith) (sym off)

  -- and a faulty one what the node's cell holds
  pub sent-cell : (r : R.Route) (row : List ℕ) (w : ℕ) → true ≡ faulty s.faults s.sender → r ≡ record { nodes = to ∷ row; len = 1 }
      → w ≡ plain (word_at t (cell s.n s.sender (held r))) → w ≡ delivered s t (to ∷ [])
  unfolding back
  sent-cell r row w on er ew = ew ∙ rw er (from_cell s t (to ∷ []) 1 (omega arith) (sym on))

-- ---- by the set of the numbers on the route

-- the first number of a route whose last is x
first_of : ℕ → List ℕ → ℕ
first_of x [] = x
first_of x (y ∷ p) = first_of y p

-- who is free beside a route with one relay more
free-via : (j : ℕ) (p : List ℕ) (x : ℕ) → free (via j p) x ≡ free (j ∷ p) x
unfolding via
free-via j [] x = refl
free-via j (i ∷ p) x = sym (free-swap j i p x)

first_back : (row : List ℕ) (k : ℕ) → first_of (get_or row k 0) (back row k) ≡ get_or row 0 0
unfolding back first_of
first_back row zero = refl
first_back row (suc k) = first_back row k

module _ (s : Settings) (t : List ℕ) where
  -- the first number of a path is told by the sender
  first-told : (x : ℕ) (p : List ℕ) → is_path s.n s.sender (x ∷ p) ≡ true → receiver s.n s.sender [] (first_of x p) ≡ true
  unfolding first_of
  first-told x [] h = path-head s.n s.sender [] x h
  first-told x (y ∷ p) h = first-told y p (path-tail s.n s.sender (y ∷ p) x h)

  -- where no number of a route is faulty, what the first was told came through to the last
  came-through : (x : ℕ) (p : List ℕ) → ((y : ℕ) → free (x ∷ p) y ≡ false → faulty s.faults y ≡ false)
      → delivered s t (first_of x p ∷ []) ≡ delivered s t (x ∷ p)
  unfolding first_of delivered free
  came-through x [] h = refl
  came-through x (y ∷ p) h =
      let fewer : (z : ℕ) → free (y ∷ p) z ≡ false → faulty s.faults z ≡ false = λ z off. h z (rw (off, and-false)) in
      rw (fewer y (free-self y p)) (came-through y p fewer)

  -- the set says that none is
  module _ (used : ℕ) (p : List ℕ) (m : Marks used p) (none : bit_and used s.faults ≡ 0) where
    sound : (y : ℕ) → free p y ≡ false → faulty s.faults y ≡ false
    sound y off = Marks.apart s.faults used y (and_comm s.faults used ∙ none) (m.marks y ∙ ap not off)

-- in the terms that the code has it
pub none-met : (used faults : ℕ) → false ≡ not (eqb (bit_and used faults) 0) → bit_and used faults ≡ 0
none-met used faults e = eqb-true (bit_and used faults) 0 (not-false _ (sym e))

-- on the route itself
module _ (s : Settings) (t : List ℕ) (r : R.Route) (p : Told s r) where
  -- its last number apart
  before : ℕ
  before = r.len - 1

  last_apart : back r.nodes r.len ≡ get_or r.nodes before 0 ∷ back r.nodes before
  unfolding back before
  last_apart = let e : r.len ≡ suc (r.len - 1) = omega (arith, p.some) in ap (back r.nodes) e

  pub first-sent : receiver s.n s.sender [] (get_or r.nodes 0 0) ≡ true
  first-sent = rw first_back at (first-told s t (get_or r.nodes before 0) (back r.nodes before) (rw last_apart at p.path))

  pub first-heard : (used w : ℕ) → Marks used (held r) → bit_and used s.faults ≡ 0 → w ≡ delivered s t (get_or r.nodes 0 0 ∷ []) → w ≡ delivered s t (held r)
  first-heard used w m none ew =
      let all : (y : ℕ) → free (get_or r.nodes before 0 ∷ back r.nodes before) y ≡ false → faulty s.faults y ≡ false =
      λ y off. sound s t used (held r) m none y (ap (λ (q : List ℕ). free q y) last_apart ∙ off) in
      ew
      ∙ ap (λ (x : ℕ). delivered s t (x ∷ [])) (sym (first_back r.nodes before))
      ∙ came-through s t (get_or r.nodes before 0) (back r.nodes before) all
      ∙ ap (delivered s t) (sym last_apart)

-- and on the route with one relay more
module _ (s : Settings) (t : List ℕ) (g : Given s t) (r : R.Route) (relay : ℕ) (p : Relayed s r relay) where
  -- made as a row it is the same route
  module _ (e : R.Route) (ee : e ≡ row_of_route (via relay (held r))) where
    pub relay-held : held e ≡ via relay (held r)
    relay-held = ap held ee ∙ held-row (via relay (held r))

    pub relay-length : e.len ≡ r.len + 1
    unfolding row_of_route
    relay-length = ap (λ (q : R.Route). q.len) ee ∙ omega (arith, length-via relay (held r), length_back r.nodes r.len)

    -- a word is delivered on it
    pub relay-told : Told s e
    relay-told =
        record {
          some = omega (arith, relay-length);
          short = omega (arith, relay-length, p.room);
          path = rw relay-held (path-via s.n s.sender relay (held r) p.told.path p.next);
        }

    pub relay-row : (w : ℕ) → w ≡ delivered s t (held e) → w ≡ delivered s t (via relay (held r))
    relay-row w ew = ew ∙ ap (delivered s t) relay-held

  pub relay-extends : Extendable r
  relay-extends = record { some = p.told.some; room = omega (arith, p.room, g.judged.three) }

  pub relay-lt : relay < 16
  relay-lt = omega (arith, receiver-below s.n s.sender (held r) relay p.next, g.judged.fifteen)

  -- its last number apart
  via-apart : via relay (held r) ≡ get_or r.nodes (r.len - 1) 0 ∷ relay ∷ back r.nodes (r.len - 1)
  unfolding via before
  via-apart = ap (via relay) (last_apart s t r p.told)

  -- a faulty relay tells what the cell of the longer route holds
  pub relay-cell : (e : R.Route) (w : ℕ) → e ≡ row_of_route (via relay (held r)) → true ≡ faulty s.faults relay
      → w ≡ plain (word_at t (cell s.n s.sender (held e))) → w ≡ delivered s t (via relay (held r))
  relay-cell e w ee on ew =
      ew
      ∙ rw (relay-held e ee, via-apart)
      (sym (told-by-faulty s t (get_or r.nodes (r.len - 1) 0) (relay ∷ back r.nodes (r.len - 1)) (sym on)))

  -- where neither the relay nor a number of the route is faulty, none on the longer route is
  relay-sound : (used : ℕ) → Marks used (held r) → bit_and used s.faults ≡ 0 → faulty s.faults relay ≡ false
      → (y : ℕ) → free (via relay (held r)) y ≡ false → faulty s.faults y ≡ false
  unfolding free
  relay-sound used m none off y out =
      by-test (eqb y relay)
      (λ (h : eqb y relay ≡ true). rw (eqb-true y relay h) off)
      (λ (h : eqb y relay ≡ false). sound s t used (held r) m none y (rw h at (sym (free-via relay (held r) y) ∙ out)))

  -- its first number is the relay if there was one number, and else the first there was
  pub Begins : ℕ → Type 0
  Begins first = first_of relay (back r.nodes (r.len - 1)) ≡ first

  pub begins-relay : (first : ℕ) → r.len ≡ 1 → first ≡ relay → Begins first
  unfolding Begins back first_of
  begins-relay first one e = let z : r.len - 1 ≡ 0 = omega arith in ap (λ (k : ℕ). first_of relay (back r.nodes k)) z ∙ sym e

  pub begins-first : (first : ℕ) → (r.len ≡ 1 → ⊥) → first ≡ get_or r.nodes 0 0 → Begins first
  unfolding Begins back first_of
  begins-first first more e =
      let z : r.len - 1 ≡ suc (r.len - 2) = omega (arith, p.told.some) in
      ap (λ (k : ℕ). first_of relay (back r.nodes k)) z ∙ first_back r.nodes (r.len - 2) ∙ sym e

  module _ (first : ℕ) (begins : Begins first) where
    pub relay-sent : receiver s.n s.sender [] first ≡ true
    unfolding Begins first_of
    relay-sent =
        let path = path-via s.n s.sender relay (held r) p.told.path p.next in
        rw begins at (first-told s t (get_or r.nodes (r.len - 1) 0) (relay ∷ back r.nodes (r.len - 1)) (rw via-apart at path))

    -- with no faulty number on it, what the first was told came through
    pub relay-heard : (used w : ℕ) → Marks used (held r) → bit_and used s.faults ≡ 0 → false ≡ faulty s.faults relay
        → w ≡ delivered s t (first ∷ []) → w ≡ delivered s t (via relay (held r))
    unfolding Begins first_of
    relay-heard used w m none off ew =
        let all : (y : ℕ) → free (get_or r.nodes (r.len - 1) 0 ∷ relay ∷ back r.nodes (r.len - 1)) y ≡ false → faulty s.faults y ≡ false =
        λ y out. relay-sound used m none (sym off) y (ap (λ (q : List ℕ). free q y) via-apart ∙ out) in
        ew
        ∙ ap (λ (x : ℕ). delivered s t (x ∷ [])) (sym begins)
        ∙ came-through s t (get_or r.nodes (r.len - 1) 0) (relay ∷ back r.nodes (r.len - 1)) all
        ∙ ap (delivered s t) (sym via-apart)
