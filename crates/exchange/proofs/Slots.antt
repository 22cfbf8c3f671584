-- The decision row: what each node's slot holds, and what the loop over the nodes has written after each of them.
use Prim.Native.Nat.{ℕ, ◌+◌, ◌*◌, ◌<◌}
use mathlib.Core.Path.{◌≡◌, refl, sym, ap, ◌∙◌}
use mathlib.Core.List.{List, [], ◌∷◌, map, map-map}
use mathlib.Core.Bool.{true, false}
use native.Mathlib.Omega.{arith}
use native.Mathlib.Nat.{mul-le-mul_right}
use native.Mathlib.Numerals.{add-one}
use lib.ListN.{length, take}
use lib.Seq.{take-length}
use mir.Syntax.{w32}
use mir.Val.{Fits}
use borrow.Author.Tests.{eq-eqb, ne_eqb}
use Rattle.rules.specs.Lists.{up_to, total}
use Rattle.rules.specs.Words.{faulty, bytes_of, put_word}
use Rattle.rules.specs.Routes.{back, held, free, is_path}
use Rattle.rules.specs.Decision.{byz, decision}
use Rattle.rules.specs.Exchange.{slot, slots, row_of, tie_count}
use Rattle.rules.proofs.Counting.{length-up_to, map-up_to, total-snoc}
use Rattle.rules.proofs.Receivers.{free-cons, is-receiver, path-next}
use Rattle.rules.proofs.Accepted.{SettingsAccepted, layout_of}
use Rattle.rules.proofs.WordRows.{put-length}
use Rattle.rules.proofs.Growth.{ties_most, ties-most}
use Rattle.rules.proofs.Summaries.{total-most, slot-ties}
use Rattle.rules.specs.declared.Settings.{Settings}
use Rattle.rules.specs.declared.Route as R
use Rattle.rules.specs.declared.Decided.{Decided}
use Rattle.delivery.specs.Told.{Given}
use Rattle.exchange.specs.Ready.{Ready}
use Rattle.exchange.proofs.Bytes

-- ---- one slot

module _ (s : Settings) (t : List ℕ) (i : ℕ) where
  -- a faulty node is not reported
  pub slot-faulty : true ≡ faulty s.faults i → record { word = 65535; ties = 0 } ≡ slot s t i
  unfolding slot
  slot-faulty on = rw (← on)

  module _ (off : false ≡ faulty s.faults i) where
    -- a fault-free sender has its value
    pub slot-sender : i ≡ s.sender → record { word = s.value; ties = 0 } ≡ slot s t i
    unfolding slot
    slot-sender e = rw (← off, eq-eqb i s.sender e)

    -- a fault-free receiver decides on the route of its own number alone, with m rounds left
    pub slot-decided : (i ≡ s.sender → ⊥) → (d : Decided) (left : ℕ) (r : R.Route) (row : List ℕ) → left ≡ s.m → r ≡ record { nodes = i ∷ row; len = 1 }
        → d ≡ byz s t left (held r) → d ≡ slot s t i
    unfolding slot decision back
    slot-decided n d left r row el er ed = ed ∙ rw (er, el, ← off, ne_eqb i s.sender n)

-- that route can be decided on
pub slot-ready : (s : Settings) (i left : ℕ) (r : R.Route) (row : List ℕ) → SettingsAccepted s → i < s.n → (i ≡ s.sender → ⊥)
    → left ≡ s.m → r ≡ record { nodes = i ∷ row; len = 1 } → Ready s r left
unfolding back is_path free
slot-ready s i left r row ok node n el er =
    rw er
    record {
      some = omega arith;
      more = omega (arith, el, ok.one);
      short = omega (arith, el);
      path = path-next s.n s.sender [] i (is-receiver s.n s.sender [] i node (free-cons s.sender [] i n refl)) refl;
    }

-- ---- the row, once the nodes below i have their slots

-- their words, as bytes, and the ties behind them
pub record Written (s : Settings) (t row : List ℕ) (ties i : ℕ) : Type 0 where
  pub size : length row ≡ 2 * s.n
  pub bytes : take (2 * i) row ≡ bytes_of (map (λ k. (slot s t k).word) (up_to i))
  pub tied : ties ≡ total (map (λ k. (slot s t k).ties) (up_to i))

-- before the first node nothing is asked of the row but its size
pub written_none : (s : Settings) (t row : List ℕ) → length row ≡ 2 * s.n → Written s t row 0 0
unfolding up_to total bytes_of
written_none s t row e = record { size = e; bytes = refl; tied = refl }

module _ (s : Settings) (t row : List ℕ) (ties i : ℕ) (g : Given s t) (p : Written s t row ties i) where
  -- the ties fit, since there are few of them
  pub written-ties : i < s.n → (d : Decided) → d ≡ slot s t i → Fits w32 (ties + d.ties)
  written-ties below d ed =
      let most = ties-most s.n s.m (layout_of s g.judged) in
      let one = mul-le-mul_right {m = 1} {n = s.n} (ties_most s.n s.m) (omega (arith, g.judged.four)) in
      let all = mul-le-mul_right {m = i} {n = s.n} (ties_most s.n s.m) (omega arith) in
      let sum = total-most (λ k. (slot s t k).ties) (ties_most s.n s.m) (up_to i) (slot-ties s t) in
      let long = ap (λ (k : ℕ). k * ties_most s.n s.m) (length-up_to i) in
      record { fits = omega (arith, p.tied, sum, long, all, one, most, ap (λ (x : Decided). x.ties) ed, slot-ties s t i) }

  -- one more slot is put behind the others
  pub written-more : (d : Decided) (at : ℕ) (row' : List ℕ) → i < s.n → d ≡ slot s t i → at ≡ i → row' ≡ put_word row at d.word
      → Written s t row' (ties + d.ties) (i + 1)
  written-more d at row' below ed ea er =
      let W : ℕ → ℕ = λ k. (slot s t k).word in
      let T : ℕ → ℕ = λ k. (slot s t k).ties in
      record {
        size = ap length er ∙ put-length row at d.word ∙ p.size;
        bytes = rw (er, ea, ed) (Bytes.put-behind row (map W (up_to i)) i (W i) (omega (arith, p.size)) p.bytes ∙ rw (add-one i, map-up_to W i));
        tied = rw (p.tied, add-one i, map-up_to T i, ed) (sym (total-snoc (map T (up_to i)) (T i)));
      }

-- once all nodes are passed, the ties and the row are whole
module _ (s : Settings) (t row : List ℕ) (ties i : ℕ) (p : Written s t row ties i) (e : i ≡ s.n) where
  pub written-ties-all : ties ≡ tie_count s t
  unfolding tie_count slots
  written-ties-all = rw map-map (p.tied ∙ ap (λ (k : ℕ). total (map (λ j. (slot s t j).ties) (up_to k))) e)

  pub written_row : row ≡ row_of s t
  unfolding row_of slots
  written_row =
      let l : length row ≡ 2 * i = omega (arith, p.size) in
      rw map-map (sym (ap (λ (k : ℕ). take k row) (sym l) ∙ take-length row) ∙ p.bytes ∙ ap (λ (k : ℕ). bytes_of (map (λ j. (slot s t j).word) (up_to k))) e)
