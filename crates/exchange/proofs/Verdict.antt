-- The vote over what was gathered is the decision.
use Prim.Native.Nat.{ℕ, suc, ◌+◌, ◌-◌, ◌≤◌}
use mathlib.Core.Path.{◌≡◌, refl, sym, ap, ◌∙◌}
use mathlib.Core.List.{List}
use mathlib.Core.Bool.{Bool, true, false}
use native.Mathlib.Omega.{arith}
use mir.Syntax.{w32}
use mir.Val.{Fits, bool_byte}
use Rattle.rules.specs.Lists.{bit}
use Rattle.rules.specs.Words.{words_of}
use Rattle.rules.specs.Routes.{held, receivers}
use Rattle.rules.specs.Vote.{vote}
use Rattle.rules.specs.Decision.{nodes_at, threshold, byz, entries}
use Rattle.rules.proofs.Rows.{length_back}
use Rattle.rules.proofs.Clauses.{byz-votes, byz-ties}
use Rattle.rules.proofs.Counting.{bit-le-one}
use Rattle.rules.proofs.Ordinary.{byz-ordinary, entries-ordinary}
use Rattle.rules.specs.declared.Settings.{Settings}
use Rattle.rules.specs.declared.Route as R
use Rattle.rules.specs.declared.Outcome.{Outcome}
use Rattle.rules.specs.declared.Decided.{Decided}
use Rattle.delivery.specs.Told.{Given}
use Rattle.exchange.specs.Ready.{Ready}
use Rattle.exchange.specs.Entries.{Gathered, gathered}
use Rattle.exchange.proofs.Bytes
use Rattle.exchange.proofs.Ties

-- a decision is its word and its ties
same-decided : (d : Decided) (w k : ℕ) → w ≡ d.word → k ≡ d.ties → record { word = w; ties = k } ≡ d
same-decided d w k ew ek = rw (ew, ek)

-- a vote that met a tie counts one, any other none
tie-bit : (b : Bool) → bool_byte b ≡ bit b
tie-bit true = refl
tie-bit false = refl

-- one tie more fits
pub tie-fits : (s : Settings) (t : List ℕ) (g : Given s t) (r : R.Route) (left : ℕ) → Ready s r left → (e : Gathered) → e ≡ gathered s t left (held r)
    → (ties k : ℕ) (b : Bool) → ties ≡ e.ties → k ≡ bool_byte b → Fits w32 (ties + k)
unfolding receivers
tie-fits s t g r left p e eg ties k b en ek =
    let le : left - 1 ≤ s.m = omega (arith, p.short, p.some) in
    record {
      fits = omega (arith, en, ap (λ (x : Gathered). x.ties) eg, ek ∙ tie-bit b, bit-le-one b, Ties.gathered-ties s t g.judged (left - 1) le (held r) s.n (omega arith));
    }

module _ (s : Settings) (t : List ℕ) (g : Given s t) (r : R.Route) (left a m : ℕ) (p : Ready s r left) (e : Gathered) (list : List ℕ) (v : Outcome)
    (eg : e ≡ gathered s t left (held r)) (el : list ≡ e.bytes) (ea : a ≡ s.n) (em : m ≡ s.m) (ev : v ≡ vote (a - r.len - m) (words_of list)) where
  -- the list that is voted over is the entries: none of their words is reserved, so each is read as it was
  voted-over : words_of list ≡ entries s t (left - 1) (held r)
  voted-over =
      ap words_of (el ∙ ap (λ (x : Gathered). x.bytes) eg)
      ∙ Bytes.words-again (entries s t (left - 1) (held r)) (entries-ordinary s t g.judged.value-plain (left - 1) (held r) (byz-ordinary s t g.judged.value-plain (left - 1)))

  -- n-1-m at the level of the route
  level-threshold : a - r.len - m ≡ threshold s (held r)
  unfolding threshold nodes_at
  level-threshold = omega (arith, ea, em, length_back r.nodes r.len, p.short, p.some, p.more, g.judged)

  vote-is : v ≡ vote (threshold s (held r)) (entries s t (left - 1) (held r))
  vote-is = ev ∙ rw (level-threshold, voted-over)

  again : suc (left - 1) ≡ left
  again = omega (arith, p.more)

  -- the vote's word is the decision's
  word-is : v.word ≡ (byz s t left (held r)).word
  word-is = ap (λ (x : Outcome). x.word) vote-is ∙ sym (byz-votes s t (left - 1) (held r)) ∙ ap (λ (k : ℕ). (byz s t k (held r)).word) again

  module _ (ties k : ℕ) (en : ties ≡ e.ties) (ek : k ≡ bool_byte v.tie) where
    -- with its tie the ties are the decision's
    ties-are : ties + k ≡ (byz s t left (held r)).ties
    unfolding receivers
    ties-are =
        rw (en, eg, ek, tie-bit, vote-is) (sym (byz-ties s t (left - 1) (held r))) ∙ ap (λ (x : ℕ). (byz s t x (held r)).ties) again

    pub decided : record { word = v.word; ties = ties + k } ≡ byz s t left (held r)
    decided = same-decided (byz s t left (held r)) v.word (ties + k) word-is ties-are
