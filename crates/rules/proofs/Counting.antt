-- Counting over lists of numbers: how many entries pass a test.
-- Every inequality between counts follows from the same inequality between the tests' bits at each number.
pub use mathlib.Core.List.{map-append}
pub use Rattle.std.specs.Cmp.{first_so as and_left, second_so as and_right}
pub use Rattle.std.specs.Cmp.Derive.{both_true as and_both}
use mathlib.Core.Path.{◌≡◌, refl}
use mathlib.Core.Logic.{◌≢◌}
use mathlib.Core.Bool.{Bool, true, false, not, ◌&&◌, ◌||◌}
use mathlib.Core.List.{List, [], ◌∷◌, ◌++◌, map, append-nil}
use Prim.Native.Nat.{ℕ, zero, suc, ◌+◌, ◌≤◌, ◌<◌}
use native.Mathlib.Omega.{arith}
use lib.ListN.{length, length-append, get_or, get_or-append}
use lib.Dec.{eqb}
use Rattle.std.proofs.lemmas.Bool.{or_parts}
use Rattle.std.proofs.lemmas.Bool.Decides.{nat_tests}
use Rattle.std.proofs.lemmas.List.{get_or_push}
use Rattle.rules.specs.Lists.{bit, count, keep, all, up_to, total}

-- go by a test's answer, and keep the equation
pub by-test : {C : Type 0} (b : Bool) → (b ≡ true → C) → (b ≡ false → C) → C
by-test true f g = f refl
by-test false f g = g refl

-- where "either" fails, both fail: the first, and the second
pub or_left : (a b : Bool) → (a || b) ≡ false → a ≡ false
or_left a b e = (or_parts a b e).0

pub or_right : (a b : Bool) → (a || b) ≡ false → b ≡ false
or_right a b e = (or_parts a b e).1

-- where a test passes only if another does, its bit is no more than the other's
pub bit_le : (a b : Bool) → (a ≡ true → b ≡ true) → bit a ≤ bit b
bit_le a b h = grind (arith, h)

-- where a test passes only if one of two does, its bit is no more than theirs together
pub bit-or : (a b c : Bool) → (a ≡ true → b ≡ false → c ≡ true) → bit a ≤ bit b + bit c
bit-or a b c h = grind (arith, h)

-- ---- sums of counts

module _ (P Q : ℕ → Bool) where
  pub count-le : (L : List ℕ) → ((x : ℕ) → bit (P x) ≤ bit (Q x)) → count P L ≤ count Q L
  unfolding count
  count-le [] h = omega arith
  count-le (x ∷ L) h = omega (arith, h x, count-le L h)

module _ (P Q R : ℕ → Bool) where
  pub count-cover : (L : List ℕ) → ((x : ℕ) → bit (P x) ≤ bit (Q x) + bit (R x)) → count P L ≤ count Q L + count R L
  unfolding count
  count-cover [] h = omega arith
  count-cover (x ∷ L) h = omega (arith, h x, count-cover L h)

  pub count-split : (L : List ℕ) → ((x : ℕ) → bit (P x) ≡ bit (Q x) + bit (R x)) → count P L ≡ count Q L + count R L
  unfolding count
  count-split [] h = omega arith
  count-split (x ∷ L) h = omega (arith, h x, count-split L h)

  count-apart : (L : List ℕ) → ((x : ℕ) → bit (P x) + bit (Q x) ≤ bit (R x)) → count P L + count Q L ≤ count R L
  unfolding count
  count-apart [] h = omega arith
  count-apart (x ∷ L) h = omega (arith, h x, count-apart L h)

-- weighted sums: each shape is the same three lines
pub count-two-two : (P P' R S : ℕ → Bool) (L : List ℕ) → ((x : ℕ) → bit (P x) + bit (P' x) ≤ bit (R x) + bit (S x))
    → count P L + count P' L ≤ count R L + count S L
unfolding count
count-two-two P P' R S [] h = omega arith
count-two-two P P' R S (x ∷ L) h = omega (arith, h x, count-two-two P P' R S L h)

pub bit-le-one : (b : Bool) → bit b ≤ 1
bit-le-one b = grind arith

-- no more than one of two tests passes: together they count no more than the entries
pub count-two : (P Q : ℕ → Bool) (L : List ℕ) → ((x : ℕ) → P x ≡ true → Q x ≡ false) → count P L + count Q L ≤ length L
unfolding count
count-two P Q [] h = omega arith
count-two P Q (x ∷ L) h = grind (arith, h x, count-two P Q L h)

-- so two different numbers together are met no more often than there are entries
pub count-both : (a b : ℕ) (L : List ℕ) → a ≢ b → count (eqb a) L + count (eqb b) L ≤ length L
count-both a b L ne = count-two (eqb a) (eqb b) L (λ x e. grind (arith, nat_tests, e))

-- ---- count, keep and map

pub length-keep : (R : ℕ → Bool) (L : List ℕ) → length (keep R L) ≡ count R L
unfolding count keep
length-keep R [] = refl
length-keep R (x ∷ L) = grind (arith, length-keep R L)

pub count-keep : (P R : ℕ → Bool) (L : List ℕ) → count P (keep R L) ≡ count (λ x. R x && P x) L
unfolding count keep
count-keep P R [] = refl
count-keep P R (x ∷ L) = grind (arith, count-keep P R L)

pub count_map : (P : ℕ → Bool) (f : ℕ → ℕ) (L : List ℕ) → count P (map f L) ≡ count (λ x. P (f x)) L
unfolding count
count_map P f [] = refl
count_map P f (x ∷ L) = omega (arith, count_map P f L)

pub map-keep : {A : Type 0} (f g : ℕ → A) (R : ℕ → Bool) (L : List ℕ) → ((x : ℕ) → R x ≡ true → f x ≡ g x) → map f (keep R L) ≡ map g (keep R L)
unfolding keep
map-keep f g R [] h = refl
map-keep f g R (x ∷ L) h = grind (arith, map-keep f g R L h)

pub count-append : (P : ℕ → Bool) (K L : List ℕ) → count P (K ++ L) ≡ count P K + count P L
unfolding count
count-append P [] L = omega arith
count-append P (x ∷ K) L = omega (arith, count-append P K L)

-- ---- the numbers below n

pub count-up_to : (P : ℕ → Bool) (n : ℕ) → count P (up_to (suc n)) ≡ count P (up_to n) + bit (P n)
unfolding count up_to
count-up_to P n = rw count-append (omega arith)

pub length-up_to : (n : ℕ) → length (up_to n) ≡ n
unfolding up_to
length-up_to zero = refl
length-up_to (suc n) = rw length-append (omega (arith, length-up_to n))

-- each stands in its own place
pub nth-up_to : (n i : ℕ) → i < n → get_or (up_to n) i 0 ≡ i
unfolding up_to
nth-up_to zero i h = absurd (omega arith)
nth-up_to (suc n) i h = grind (arith, get_or_push (up_to n) n 0 i, get_or-append (up_to n) (n ∷ []) 0 i, length-up_to n, nth-up_to n i)

-- a number is met once among the numbers below a bound above it, and never among those below it
never : (j n : ℕ) → n ≤ j → count (eqb j) (up_to n) ≡ 0
unfolding count up_to
never j zero h = refl
never j (suc n) h = grind (arith, nat_tests, count-append, never j n)

pub once : (j n : ℕ) → j < n → count (eqb j) (up_to n) ≡ 1
unfolding count up_to
once j zero h = absurd (omega arith)
once j (suc n) h = grind (arith, nat_tests, count-append, never j n, once j n)

-- one number of those below n passes Q and not P, and P is Q elsewhere, or within Q: one entry fewer
module _ (P Q : ℕ → Bool) (j n : ℕ) (below : j < n) (out : P j ≡ false) (in' : Q j ≡ true) where
  bits-same : ((x : ℕ) → eqb j x ≡ false → P x ≡ Q x) → (x : ℕ) → bit (Q x) ≡ bit (P x) + bit (eqb j x)
  bits-same h x = grind (arith, nat_tests, h x)

  pub one_fewer : ((x : ℕ) → eqb j x ≡ false → P x ≡ Q x) → count Q (up_to n) ≡ count P (up_to n) + 1
  one_fewer h = rw (← once j n below) (count-split Q P (eqb j) (up_to n) (bits-same h))

  bits-within : ((x : ℕ) → P x ≡ true → Q x ≡ true) → (x : ℕ) → bit (P x) + bit (eqb j x) ≤ bit (Q x)
  bits-within h x = grind (arith, nat_tests, h x)

  pub at-least-one-fewer : ((x : ℕ) → P x ≡ true → Q x ≡ true) → count P (up_to n) + 1 ≤ count Q (up_to n)
  at-least-one-fewer h = omega (arith, once j n below, count-apart P (eqb j) Q (up_to n) (bits-within h))

-- ---- all entries pass a test

pub all_keep : (P : ℕ → Bool) (L : List ℕ) → all P (keep P L) ≡ true
unfolding keep all
all_keep P [] = refl
all_keep P (x ∷ L) = grind (arith, all_keep P L)

pub all-le : (P Q : ℕ → Bool) (L : List ℕ) → ((x : ℕ) → P x ≡ true → Q x ≡ true) → all P L ≡ true → all Q L ≡ true
unfolding all
all-le P Q [] h e = refl
all-le P Q (x ∷ L) h e = grind (arith, h x, all-le P Q L h)

-- what all entries pass, each of them passes
pub all-at : (P : ℕ → Bool) (L : List ℕ) (i : ℕ) → i < length L → all P L ≡ true → P (get_or L i 0) ≡ true
unfolding all
all-at P [] i h e = absurd (omega arith)
all-at P (x ∷ L) zero h e = grind arith
all-at P (x ∷ L) (suc i) h e = grind (arith, all-at P L i)

-- ---- a sum over a list

-- one entry more
pub total-snoc : (L : List ℕ) (x : ℕ) → total (L ++ (x ∷ [])) ≡ total L + x
unfolding total
total-snoc [] x = omega arith
total-snoc (y ∷ L) x = omega (arith, total-snoc L x)

-- the entries that fail a test and those that pass it are all entries
pub complement : (P : ℕ → Bool) (L : List ℕ) → length L ≡ count (λ x. not (P x)) L + count P L
unfolding count
complement P [] = refl
complement P (x ∷ L) = grind (arith, complement P L)

-- no more of the numbers below n pass a test than there are
pub count_most : (P : ℕ → Bool) (n : ℕ) → count P (up_to n) ≤ n
count_most P n = omega (arith, complement P (up_to n), length-up_to n)

-- ---- for loops: one more node, one more entry

pub keep-none : (P : ℕ → Bool) (L : List ℕ) → ((x : ℕ) → P x ≡ false) → keep P L ≡ []
unfolding keep
keep-none P [] h = refl
keep-none P (x ∷ L) h = rw (h x) (keep-none P L h)

pub keep_append : (P : ℕ → Bool) (K L : List ℕ) → keep P (K ++ L) ≡ keep P K ++ keep P L
unfolding keep
keep_append P [] L = refl
keep_append P (x ∷ K) L = grind (arith, keep_append P K L)

pub map-up_to : {A : Type 0} (f : ℕ → A) (k : ℕ) → map f (up_to (suc k)) ≡ map f (up_to k) ++ (f k ∷ [])
unfolding up_to
map-up_to f k = map-append f (up_to k) (k ∷ [])

-- a loop over the nodes in ascending order that appends an entry for each that passes
pub gather-yes : {A : Type 0} (e : ℕ → A) (R : ℕ → Bool) (k : ℕ) → R k ≡ true → map e (keep R (up_to (suc k))) ≡ map e (keep R (up_to k)) ++ (e k ∷ [])
unfolding up_to keep
gather-yes e R k h = rw (keep_append, map-append, h)

pub gather-no : {A : Type 0} (e : ℕ → A) (R : ℕ → Bool) (k : ℕ) → R k ≡ false → map e (keep R (up_to (suc k))) ≡ map e (keep R (up_to k))
unfolding up_to keep
gather-no e R k h = rw (keep_append, h, append-nil)
