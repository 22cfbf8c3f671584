-- Counting at one level: a route p is given, its last number acts as sender, and every other node that may receive on top of p
-- stands behind one entry of a list. Nothing here knows of a vote, of rounds or of how an entry came about.
use mathlib.Core.Path.{◌≡◌, refl, sym, ap, ◌∙◌, fun_ext}
use mathlib.Core.Logic.{◌⊎◌, ◌≢◌}
use mathlib.Core.Bool.{Bool, true, false, ◌&&◌, cond, and-true}
use mathlib.Core.List.{List, [], ◌∷◌, map}
use Prim.Native.Nat.{ℕ, ◌+◌, ◌≤◌, ◌<◌}
use native.Mathlib.Omega.{arith}
use lib.ListN.{length}
use lib.Dec.{eqb}
use borrow.Author.Tests.{eqb-false, ne_eqb}
use Rattle.std.proofs.lemmas.Bool.{true_from_ne_false}
use Rattle.std.proofs.lemmas.Bool.Decides.{nat_tests}
use Rattle.rules.specs.Lists.{bit, count, up_to}
use Rattle.rules.specs.Routes.{receiver, receivers}
use Rattle.rules.proofs.Counting.{count-le, count-cover, count-split, count-two-two, count_map, count-keep, complement, once, at-least-one-fewer, and_both}
use Rattle.rules.proofs.Receivers.{receiver-below, receiver-self, receiver-other, receiver-next, receiver-tail, size}

-- where a test fails everywhere it counts nothing
count_none : (L : List ℕ) → count (λ x. false) L ≡ 0
unfolding count
count_none [] = refl
count_none (x ∷ L) = omega (arith, count_none L)

-- a number below n is met once if b says so, and else never
once-if : (b : Bool) (j n : ℕ) → j < n → count (λ x. b && eqb j x) (up_to n) ≡ bit b
once-if true j n h = once j n h
once-if false j n h = count_none (up_to n)

-- w is v, or the default
abbrev pub OrDefault : ℕ → ℕ → Type 0
OrDefault w v = (w ≡ v) ⊎ (w ≡ 0)

-- what receiver i holds for j: its own word for itself, and for another what it has from that one
abbrev pub entry : ℕ → ℕ → (ℕ → ℕ) → ℕ → ℕ
entry i own others j = cond (eqb i j) own (others j)

module _ (n sender : ℕ) where
  -- ---- the nodes of a kind among the receivers on top of p

  unfoldable pub among : (ℕ → Bool) → List ℕ → ℕ
  among K p = count (λ x. receiver n sender p x && K x) (up_to n)

  module _ (K : ℕ → Bool) where
    -- they are no more than all nodes of the kind
    pub among-le : (p : List ℕ) → among K p ≤ count K (up_to n)
    unfolding among
    among-le p = count-le (λ x. receiver n sender p x && K x) K (up_to n) (λ x. grind arith)

    -- fewer, if the sender is one of the kind
    pub among_first : sender < n → K sender ≡ true → among K [] + 1 ≤ count K (up_to n)
    unfolding among
    among_first b h = at-least-one-fewer (λ x. receiver n sender [] x && K x) K sender n b (rw (receiver-self n sender [])) h (λ x e. grind arith)

    -- and where one of the kind acts next, the others have one fewer
    pub among_next : (p : List ℕ) (j : ℕ) → receiver n sender p j ≡ true → K j ≡ true → among K (j ∷ p) + 1 ≤ among K p
    unfolding among
    among_next p j r h =
        at-least-one-fewer (λ x. receiver n sender (j ∷ p) x && K x) (λ x. receiver n sender p x && K x) j n (receiver-below n sender p j r)
        (rw (receiver-self n sender (j ∷ p)))
        (and_both r h)
        (λ x e. grind (arith, receiver-tail n sender j p x))

  -- ---- one entry for each receiver

  -- xs holds e j for each receiver j on top of p, in whatever order
  abbrev pub OneEach : List ℕ → (ℕ → ℕ) → List ℕ → Type 0
  OneEach p e xs = (P : ℕ → Bool) → count P xs ≡ count (λ j. receiver n sender p j && P (e j)) (up_to n)

  -- i's own entry and one for each other receiver are one entry for each receiver, i itself among them
  pub one_each : (p : List ℕ) (i own : ℕ) (others : ℕ → ℕ) → receiver n sender p i ≡ true
      → OneEach p (entry i own others) (own ∷ map others (receivers n sender (i ∷ p)))
  unfolding count receivers
  one_each p i own others r P =
      omega (
        arith,
        count_map P others (receivers n sender (i ∷ p)),
        count-keep (λ j. P (others j)) (receiver n sender (i ∷ p)) (up_to n),
        once-if (P own) i n (receiver-below n sender p i r),
        count-split (λ j. receiver n sender p j && P (entry i own others j)) (λ j. receiver n sender (i ∷ p) j && P (others j)) (λ j. P own && eqb i j) (up_to n) bits,
      )
    where
      bits : (j : ℕ) → bit (receiver n sender p j && P (entry i own others j)) ≡ bit (receiver n sender (i ∷ p) j && P (others j)) + bit (P own && eqb i j)
      bits j = grind (arith, nat_tests, receiver-self n sender (i ∷ p), receiver-other n sender i p j)

  -- there are as many as receivers
  pub each-size : (p : List ℕ) (e : ℕ → ℕ) (xs : List ℕ) → OneEach p e xs → length xs ≡ size n sender p
  unfolding size
  each-size p e xs each =
      omega (
        arith,
        complement (λ x. false) xs,
        count_none xs,
        each (λ x. true),
        ap (λ P. count P (up_to n)) (fun_ext (λ j. and-true (receiver n sender p j))),
      )

  -- two such lists of the same entries count alike
  pub each-alike : (p : List ℕ) (e e' : ℕ → ℕ) (xs ys : List ℕ) → OneEach p e xs → OneEach p e' ys
      → ((j : ℕ) → receiver n sender p j ≡ true → e j ≡ e' j)
      → (P : ℕ → Bool) → count P xs ≡ count P ys
  each-alike p e e' xs ys each each' h P = each P ∙ ap (λ Q. count Q (up_to n)) (fun_ext same) ∙ sym (each' P)
    where
      same : (j : ℕ) → (receiver n sender p j && P (e j)) ≡ (receiver n sender p j && P (e' j))
      same j = grind (arith, h j)

  -- ---- what can be counted where the entries for fault-free receivers are known

  -- i receives on top of p, and is fault-free
  pub record FaultFree (faulty : ℕ → Bool) (p : List ℕ) (i : ℕ) : Type 0 where
    pub receives : receiver n sender p i ≡ true
    pub sound : faulty i ≡ false

  -- and so it does on top of p and j, another receiver
  pub fault-free-next : (faulty : ℕ → Bool) (p : List ℕ) (i j : ℕ) → FaultFree faulty p i → eqb i j ≡ false → FaultFree faulty (j ∷ p) i
  fault-free-next faulty p i j ri ne =
      record { receives = receiver-next n sender j p i (ne_eqb j i (λ e. eqb-false i j ne (sym e))) ri.receives; sound = ri.sound }

  module _ (faulty : ℕ → Bool) (p : List ℕ) (e : ℕ → ℕ) (xs : List ℕ) (each : OneEach p e xs) where
    -- all of them are a: all receivers but the faulty count for a, at least
    pub tally-all : (a : ℕ) → ((j : ℕ) → FaultFree faulty p j → e j ≡ a)
        → size n sender p ≤ among faulty p + count (eqb a) xs
    unfolding size among
    tally-all a h = rw (each (eqb a))
        (count-cover (receiver n sender p) (λ j. receiver n sender p j && faulty j) (λ j. receiver n sender p j && eqb a (e j)) (up_to n)
        (λ j. grind (arith, nat_tests, known j)))
      where
        known : (j : ℕ) → receiver n sender p j ≡ true → faulty j ≡ false → e j ≡ a
        known j r ok = h j (record { receives = r; sound = ok })

    -- none of them is v: at most the faulty count for v
    pub tally-none : (v : ℕ) → ((j : ℕ) → FaultFree faulty p j → e j ≢ v)
        → count (eqb v) xs ≤ among faulty p
    unfolding among
    tally-none v h = rw (each (eqb v))
        (count-le (λ j. receiver n sender p j && eqb v (e j)) (λ j. receiver n sender p j && faulty j) (up_to n)
        (λ j. grind (arith, nat_tests, known j)))
      where
        known : (j : ℕ) → receiver n sender p j ≡ true → faulty j ≡ false → e j ≢ v
        known j r ok = h j (record { receives = r; sound = ok })

  -- In two lists the entry for a fault-free receiver j is g j, or the default. Two different values, neither the default, count
  -- together no more than the receivers, and the faulty once more: no fault-free receiver's entries serve both.
  module _ (faulty : ℕ → Bool) (p : List ℕ) (g : ℕ → ℕ) where
    abbrev pub Within : (ℕ → ℕ) → Type 0
    Within e = (j : ℕ) → FaultFree faulty p j → OrDefault (e j) (g j)

    pub tally-two : (e e' : ℕ → ℕ) (xs ys : List ℕ) → OneEach p e xs → OneEach p e' ys → Within e → Within e'
        → (v w : ℕ) → v ≢ w → v ≢ 0 → w ≢ 0
        → count (eqb v) xs + count (eqb w) ys ≤ size n sender p + among faulty p
    unfolding size among
    tally-two e e' xs ys each each' h h' v w ne nv nw = rw (each (eqb v), each' (eqb w))
        (count-two-two (λ j. receiver n sender p j && eqb v (e j)) (λ j. receiver n sender p j && eqb w (e' j))
        (receiver n sender p) (λ j. receiver n sender p j && faulty j) (up_to n) (λ j. grind (arith, both j)))
      where
        -- an entry is a value other than the default only where g is that value
        both : (j : ℕ) → receiver n sender p j ≡ true → eqb v (e j) ≡ true → eqb w (e' j) ≡ true → faulty j ≡ true
        both j r q q' = true_from_ne_false (faulty j) (λ f. let ff : FaultFree faulty p j = record { receives = r; sound = f } in
            grind (arith, nat_tests, h j ff, h' j ff))
