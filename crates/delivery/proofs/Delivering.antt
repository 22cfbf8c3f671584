-- The delivered word, as the code walks it: on a row of places and a length that falls.
use Prim.Native.Nat.{ℕ, zero, suc, ◌+◌, ◌*◌, ◌-◌, ◌<◌}
use mathlib.Core.Path.{◌≡◌, refl, sym, ap, ◌∙◌}
use mathlib.Core.List.{List}
use mathlib.Core.Bool.{Bool, true, false}
use native.Mathlib.Omega.{arith}
use lib.ListN.{length}
use Rattle.rules.specs.Words.{word_at, plain, faulty}
use Rattle.rules.specs.Routes.{back, held, but_last, shorter, teller, is_path}
use Rattle.rules.specs.Cells.{cell}
use Rattle.rules.specs.Delivered.{delivered}
use Rattle.rules.proofs.Receivers.{receiver-below, path-head, path-tail}
use Rattle.rules.proofs.Numbering.{is-route}
use Rattle.rules.proofs.Rows.{length_back}
use Rattle.rules.specs.declared.Settings.{Settings}
use Rattle.rules.specs.declared.Route as R
use Rattle.delivery.specs.Told.{Given, Told}

-- ---- over a row and a length

-- the teller on a path is a node
teller-node : (n sender : ℕ) (row : List ℕ) (k : ℕ) → sender < n → is_path n sender (back row k) ≡ true → teller sender (but_last (back row k)) < n
unfolding back
teller-node n sender row zero b p = b
teller-node n sender row (suc zero) b p = b
teller-node n sender row (suc (suc k)) b p = receiver-below n sender (back row k) _ (path-head n sender (back row k) _ (path-tail n sender (back row (suc k)) _ p))

-- a path without its last number is a path
path-shorter : (n sender : ℕ) (row : List ℕ) (k : ℕ) → is_path n sender (back row k) ≡ true → is_path n sender (back row (k - 1)) ≡ true
unfolding back
path-shorter n sender row zero p = p
path-shorter n sender row (suc k) p = let e : suc k - 1 ≡ k = omega arith in rw e (path-tail n sender (back row k) _ p)

module _ (s : Settings) (t row : List ℕ) where
  pub on_none : s.value ≡ delivered s t (back row 0)
  unfolding back delivered
  on_none = refl

  pub from_cell : (k : ℕ) → 0 < k → faulty s.faults (teller s.sender (but_last (back row k))) ≡ true → plain (word_at t (cell s.n s.sender (back row k))) ≡ delivered s t (back row k)
  unfolding back delivered
  from_cell zero h f = absurd (omega arith)
  from_cell (suc k) h f = rw f

  pub passed_on : (k : ℕ) → 0 < k → faulty s.faults (teller s.sender (but_last (back row k))) ≡ false → delivered s t (back row (k - 1)) ≡ delivered s t (back row k)
  unfolding back delivered
  passed_on zero h f = absurd (omega arith)
  passed_on (suc k) h f = let e : suc k - 1 ≡ k = omega arith in rw (f, e)

-- ---- over a given route, in the terms that the code has it

module _ (s : Settings) (t : List ℕ) (g : Given s t) (r : R.Route) (p : Told s r) where
  -- its cell lies in the table
  pub told-room : (c : ℕ) → c ≡ cell s.n s.sender (held r) → 2 * c + 1 < length t
  told-room c e =
      let l = length_back r.nodes r.len in
      let route = is-route s.n s.m s.sender (held r) (record { some = omega (arith, p.some); short = omega (arith, p.short); path = p.path }) in
      omega (arith, e, g.room (held r) route)

  module _ (x : ℕ) (ex : x ≡ teller s.sender (but_last (held r))) where
    pub teller-lt : x < 16
    teller-lt = omega (arith, ex, teller-node s.n s.sender r.nodes r.len g.judged.sender-below p.path, g.judged.fifteen)

    is : (b : Bool) → b ≡ faulty s.faults x → faulty s.faults (teller s.sender (but_last (held r))) ≡ b
    is b e = sym (ap (faulty s.faults) ex) ∙ sym e

    -- a faulty teller tells what the cell holds
    pub told-cell : (w : ℕ) → true ≡ faulty s.faults x → w ≡ plain (word_at t (cell s.n s.sender (held r))) → w ≡ delivered s t (held r)
    told-cell w on ew = ew ∙ from_cell s t r.nodes r.len p.some (is true on)

    module _ (b : Bool) (eb : b ≡ faulty s.faults x) (off : b ≡ false) (e : R.Route) (ee : e ≡ shorter r) where
      -- a fault-free one passes on what it was told
      pub told-on : (w : ℕ) → w ≡ delivered s t (held e) → w ≡ delivered s t (held r)
      told-on w ew = ew ∙ ap (λ (q : R.Route). delivered s t (held q)) ee ∙ passed_on s t r.nodes r.len p.some (is false (sym off ∙ eb))

      -- which is the sender's value where the teller is the sender
      pub told-value : (v : ℕ) → e.len ≡ 0 → s.value ≡ v → v ≡ delivered s t (held r)
      told-value v el ev = sym ev ∙ told-on s.value (own e.nodes e.len el)
        where
          own : (row : List ℕ) (k : ℕ) → k ≡ 0 → s.value ≡ delivered s t (back row k)
          own row k z = rw z (on_none s t row)

-- the route that the teller was told on
module _ (s : Settings) (r : R.Route) (p : Told s r) (e : R.Route) (ee : e ≡ shorter r) where
  pub told-shorter : (e.len ≡ 0 → ⊥) → Told s e
  told-shorter some =
      record {
        some = omega arith;
        short = omega (arith, ap (λ (q : R.Route). q.len) ee, p.short);
        path = rw ee (path-shorter s.n s.sender r.nodes r.len p.path);
      }

  pub told-falls : (long : ℕ) → r.len ≡ long → e.len < long
  told-falls long el = omega (arith, ap (λ (q : R.Route). q.len) ee, p.some)
