-- No decision reads u, nor does what is delivered or what becomes of the nodes: it enters by the judging of the settings and by the
-- class alone.
use mathlib.Core.Path.{◌≡◌, refl, ap, fun_ext}
use mathlib.Core.List.{List, [], ◌∷◌, map}
use Prim.Native.Nat.{ℕ}
use native.Mathlib.Omega.{arith}
use Rattle.rules.specs.Lists.{up_to}
use Rattle.rules.specs.Words.{settings}
use Rattle.rules.specs.Delivered.{delivered}
use Rattle.rules.specs.Decision.{decide, poll, nodes_at, threshold, byz, decision}
use Rattle.rules.specs.Exchange.{slot, slots, row_of, tie_count}
use Rattle.rules.specs.declared.Settings.{Settings}
use Rattle.rules.proofs.Accepted.{SettingsAccepted}

module _ (n m u u' sender value faults : ℕ) where
  abbrev s : Settings
  s = settings n m u sender value faults

  abbrev s' : Settings
  s' = settings n m u' sender value faults

  -- what is delivered does not
  pub delivered-unbound : (table r : List ℕ) → delivered s table r ≡ delivered s' table r
  unfolding delivered
  delivered-unbound table [] = refl
  delivered-unbound table (i ∷ p) = rw (delivered-unbound table p)

  -- nor what is decided, with any number of rounds left
  pub byz-unbound : (table : List ℕ) (t : ℕ) (r : List ℕ) → byz s table t r ≡ byz s' table t r
  unfolding byz threshold nodes_at
  byz-unbound table t r = ap (λ (told : List ℕ → ℕ). decide n sender (poll s') told t r) (fun_ext (delivered-unbound table))

  pub decision-unbound : (table : List ℕ) (i : ℕ) → decision s table i ≡ decision s' table i
  unfolding decision
  decision-unbound table i = byz-unbound table m (i ∷ [])

  -- nor what becomes of a node
  pub slot-unbound : (table : List ℕ) (i : ℕ) → slot s table i ≡ slot s' table i
  unfolding slot
  slot-unbound table i = rw (decision-unbound table i)

  slots_unbound : (table : List ℕ) → slots s table ≡ slots s' table
  unfolding slots
  slots_unbound table = ap (λ f. map f (up_to n)) (fun_ext (slot-unbound table))

  -- so the decision row and the ties are the same whatever u is
  pub row-unbound : (table : List ℕ) → row_of s table ≡ row_of s' table
  unfolding row_of
  row-unbound table = rw (slots_unbound table)

  pub ties-unbound : (table : List ℕ) → tie_count s table ≡ tie_count s' table
  unfolding tie_count
  ties-unbound table = rw (slots_unbound table)

-- settings that are accepted are accepted with the least u too
pub least-accepted : (s : Settings) → SettingsAccepted s → SettingsAccepted (settings s.n s.m s.m s.sender s.value s.faults)
least-accepted s a =
    record {
      four = a.four;
      fifteen = a.fifteen;
      one = a.one;
      three = a.three;
      bound = omega arith;
      enough = omega (arith, a.bound, a.enough);
      sender-below = a.sender-below;
      value-plain = a.value-plain;
      faults-below = a.faults-below;
    }
