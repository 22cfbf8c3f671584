-- A set that has the numbers of a route: one node more for one more number.
use Prim.Native.Nat.{ℕ, zero, suc, ◌+◌, ◌*◌, ◌-◌, ◌/◌, ◌%◌, ◌^◌, ◌<◌, ◌≤◌}
use mathlib.Core.Path.{◌≡◌, refl, sym, ap, ◌∙◌}
use mathlib.Core.List.{List, [], ◌∷◌}
use mathlib.Core.Bool.{Bool, true, false, not}
use native.Mathlib.Omega.{arith}
use native.Mathlib.Nat.{pow-suc, div-lt_iff_lt-mul}
use native.Mathlib.Decide.{dec_le}
use lib.Bits.{bit_and, bit_or, and_shr, and_mod, and_self, or_shr, or_mod, or_zero_l, or_zero_r, or_self}
use lib.Pow.{pow_pos, pow-lt, pow-add, shl-shr, shr_le}
use lib.Dec.{eqb}
use borrow.Author.Tests.{eq-eqb, ne_eqb, eqb-true, eqb-false}
use Rattle.rules.specs.Words.{faulty}
use Rattle.rules.specs.Routes.{back, held, free, receiver}
use Rattle.rules.specs.Decision.{via}
use Rattle.rules.specs.Answers.{row_of_route}
use Rattle.rules.proofs.Counting.{by-test}
use Rattle.rules.proofs.Receivers.{free-swap, receiver-is-free}
use Rattle.rules.proofs.Rows.{held-row}
use Rattle.rules.specs.declared.Route as R
use Rattle.delivery.specs.Marks.{Marks}

-- ---- the bits of a power of two

bit-same : (a : ℕ) → 2 ^ a / 2 ^ a % 2 ≡ 1
bit-same a = let e : 1 * 2 ^ a ≡ 2 ^ a = omega arith in ap (λ (n : ℕ). n / 2 ^ a % 2) (sym e) ∙ ap (λ (n : ℕ). n % 2) (shl-shr 1 a)

bit-above : (a x : ℕ) → a < x → 2 ^ a / 2 ^ x % 2 ≡ 0
bit-above a x h =
    let l : 2 ^ a < 1 * 2 ^ x = let q = pow-lt {i = a} {j = x} h in omega arith in
    let z : 2 ^ a / 2 ^ x ≡ 0 = let q = (div-lt_iff_lt-mul (pow_pos x)).1 l in omega arith in
    ap (λ (n : ℕ). n % 2) z

bit_below : (a x d : ℕ) → a ≡ suc d + x → 2 ^ a / 2 ^ x % 2 ≡ 0
bit_below a x d e =
    let p : 2 ^ a ≡ 2 ^ suc d * 2 ^ x = ap (λ (n : ℕ). 2 ^ n) e ∙ pow-add 2 (suc d) x in
    ap (λ (n : ℕ). n / 2 ^ x % 2) p ∙ ap (λ (n : ℕ). n % 2) (shl-shr (2 ^ suc d) x) ∙ (let q = pow-suc 2 d in omega (arith, q))

bit-other : (a x : ℕ) → (x ≡ a → ⊥) → 2 ^ a / 2 ^ x % 2 ≡ 0
bit-other a x n = go (dec_le x a)
  where
    go : Dec (x ≤ a) → 2 ^ a / 2 ^ x % 2 ≡ 0
    go (yes h) = bit_below a x (a - x - 1) (omega arith)
    go (no h) = bit-above a x (omega arith)

or-bit : (u a x : ℕ) → bit_or u (2 ^ a) / 2 ^ x % 2 ≡ bit_or (u / 2 ^ x % 2) (2 ^ a / 2 ^ x % 2)
or-bit u a x = ap (λ (n : ℕ). n % 2) (or_shr u (2 ^ a) x) ∙ or_mod (u / 2 ^ x) (2 ^ a / 2 ^ x) 1

or-one : (b : ℕ) → b < 2 → bit_or b 1 ≡ 1
or-one zero h = or_zero_l 1
or-one (suc zero) h = or_self 1
or-one (suc (suc b)) h = absurd (omega arith)

-- ---- one more bit is set

mark-same : (u a x : ℕ) → x ≡ a → faulty (bit_or u (2 ^ a)) x ≡ true
unfolding faulty
mark-same u a x e = rw e (eq-eqb _ 1 (or-bit u a a ∙ ap (bit_or (u / 2 ^ a % 2)) (bit-same a) ∙ or-one (u / 2 ^ a % 2) (omega arith)))

mark-other : (u a x : ℕ) → (x ≡ a → ⊥) → faulty (bit_or u (2 ^ a)) x ≡ faulty u x
unfolding faulty
mark-other u a x n = ap (λ (b : ℕ). eqb b 1) (or-bit u a x ∙ ap (bit_or (u / 2 ^ x % 2)) (bit-other a x n) ∙ or_zero_r (u / 2 ^ x % 2))

none-set : (x : ℕ) → faulty 0 x ≡ false
unfolding faulty
none-set x = let z : 0 / 2 ^ x ≡ 0 = (let q = shr_le 0 x in omega arith) in ap (λ (n : ℕ). eqb (n % 2) 1) z

-- the bits of a word with one more set, where the old bits are those not free beside p
more : (used used' a : ℕ) (p : List ℕ) → ((x : ℕ) → faulty used x ≡ not (free p x)) → used' ≡ bit_or used (2 ^ a) → (x : ℕ) → faulty used' x ≡ not (free (a ∷ p) x)
unfolding free
more used used' a p old e x =
    by-test (eqb x a)
    (λ (h : eqb x a ≡ true). rw (e, h) (mark-same used a x (eqb-true x a h)))
    (λ (h : eqb x a ≡ false). rw (e, h) (mark-other used a x (eqb-false x a h) ∙ old x))

-- ---- no number, one number more, a relay before the receiver

pub marks-none : Marks 0 []
unfolding free
marks-none = record { marks = none-set }

pub marks-more : (used used' a : ℕ) (p : List ℕ) → Marks used p → used' ≡ bit_or used (2 ^ a) → Marks used' (a ∷ p)
marks-more used used' a p m e = record { marks = more used used' a p m.marks e }

pub marks-via : (used used' j : ℕ) (p : List ℕ) → Marks used p → used' ≡ bit_or used (2 ^ j) → Marks used' (via j p)
unfolding via
marks-via used used' j [] m e = marks-more used used' j [] m e
marks-via used used' j (i ∷ p) m e = record { marks = λ x. (marks-more used used' j (i ∷ p) m e).marks x ∙ ap not (free-swap j i p x) }

-- on a route of one number, and on one made longer
pub marks-one : (used i : ℕ) (row : List ℕ) → used ≡ bit_or 0 (2 ^ i) → Marks used (held (record { nodes = i ∷ row; len = 1 }))
unfolding back
marks-one used i row e = marks-more 0 used i [] marks-none e

pub marks-longer : (used used' j : ℕ) (r e : R.Route) → Marks used (held r) → e ≡ row_of_route (via j (held r)) → used' ≡ bit_or used (2 ^ j) → Marks used' (held e)
marks-longer used used' j r e m ee eu = rw (ee, held-row) (marks-via used used' j (held r) m eu)

-- ---- with the sender marked too, those who are not marked may receive

pub marks-taken : (used taken n sender x : ℕ) (p : List ℕ) (b : Bool) → Marks used p → taken ≡ bit_or used (2 ^ sender) → x < n → b ≡ faulty taken x
    → not b ≡ receiver n sender p x
marks-taken used taken n sender x p b m et h e =
    ap not (e ∙ (marks-more used taken sender p m et).marks x ∙ ap not (sym (receiver-is-free n sender p x h))) ∙ twice (receiver n sender p x)
  where
    twice : (c : Bool) → not (not c) ≡ c
    twice true = refl
    twice false = refl

-- ---- a mask that has no faulty node in it

and-bit : (u f x : ℕ) → bit_and u f / 2 ^ x % 2 ≡ bit_and (u / 2 ^ x % 2) (f / 2 ^ x % 2)
and-bit u f x = ap (λ (n : ℕ). n % 2) (and_shr u f x) ∙ and_mod (u / 2 ^ x) (f / 2 ^ x) 1

-- where two words have no bit in common, a bit that the second has the first has not
pub apart : (faults used x : ℕ) → bit_and faults used ≡ 0 → faulty used x ≡ true → faulty faults x ≡ false
unfolding faulty
apart faults used x none on =
    let z : 0 / 2 ^ x ≡ 0 = (let q = shr_le 0 x in omega arith) in
    let e : bit_and (faults / 2 ^ x % 2) 1 ≡ 0 =
    ap (bit_and (faults / 2 ^ x % 2)) (sym (eqb-true (used / 2 ^ x % 2) 1 on)) ∙ sym (and-bit faults used x) ∙ rw (none, z) in
    ne_eqb (faults / 2 ^ x % 2) 1 (λ h. go (sym (ap (λ (n : ℕ). bit_and n 1) h) ∙ e))
  where
    go : bit_and 1 1 ≡ 0 → ⊥
    go h = let s = and_self 1 in omega arith
