-- Gathering a receiver's entries: what the loop over the nodes holds after each of them.
use Prim.Native.Nat.{ℕ, ◌+◌, ◌*◌, ◌-◌, ◌^◌, ◌<◌, ◌≤◌}
use mathlib.Core.Path.{◌≡◌, refl, sym, ap, ◌∙◌}
use mathlib.Core.List.{List, [], ◌∷◌, map}
use mathlib.Core.Bool.{Bool, true, false}
use native.Mathlib.Omega.{arith}
use native.Mathlib.Numerals.{add-one}
use lib.ListN.{length, take}
use lib.Bits.{bit_or}
use mir.Syntax.{w32, w64}
use mir.Val.{Fits}
use Rattle.rules.specs.Lists.{bit, count, keep, up_to, total}
use Rattle.rules.specs.Words.{faulty, bytes_of, put_word}
use Rattle.rules.specs.Routes.{held, receiver, receivers}
use Rattle.rules.specs.Delivered.{delivered}
use Rattle.rules.specs.Decision.{via, byz, entries}
use Rattle.rules.specs.Answers.{row_of_route}
use Rattle.rules.proofs.Counting.{count-up_to, gather-yes, gather-no, total-snoc}
use Rattle.rules.proofs.WordRows.{put-length}
use Rattle.rules.proofs.Receivers.{size, level-size}
use Rattle.rules.proofs.Numbering.{count_past}
use Rattle.rules.proofs.Rows.{length_back, held-row}
use Rattle.rules.proofs.Clauses.{byz-told}
use Rattle.rules.specs.declared.Settings.{Settings}
use Rattle.rules.specs.declared.Route as R
use Rattle.rules.specs.declared.Decided.{Decided}
use Rattle.delivery.specs.Marks.{Marks}
use Rattle.delivery.specs.Told.{Given, Told, Relayed}
use Rattle.exchange.specs.Ready.{Ready}
use Rattle.exchange.specs.Entries.{gathered}
use Rattle.exchange.proofs.Bytes
use Rattle.delivery.proofs.Passing
use Rattle.delivery.proofs.Marks
use Rattle.exchange.proofs.Ties

-- ---- the entries of the nodes below k

-- what is decided of each node below k that may receive beside p, with one round less than left, and the ties behind it
abbrev pub words_to : Settings → List ℕ → ℕ → List ℕ → ℕ → List ℕ
words_to s t left p k = map (λ j. (byz s t (left - 1) (via j p)).word) (Ties.asked s p k)

abbrev pub ties_to : Settings → List ℕ → ℕ → List ℕ → ℕ → ℕ
ties_to s t left p k = total (map (λ j. (byz s t (left - 1) (via j p)).ties) (Ties.asked s p k))

-- ---- a longer route, for one round less

-- what is delivered on the route itself
pub ready_told : {s : Settings} {r : R.Route} {left : ℕ} → Ready s r left → Told s r
ready_told p = record { some = p.some; short = omega (arith, p.short); path = p.path }

module _ (s : Settings) (t : List ℕ) (g : Given s t) (r : R.Route) (left j : ℕ) (p : Ready s r left) (free : receiver s.n s.sender (held r) j ≡ true) where
  -- a relay may be put before the receiver
  pub extended-relay : Relayed s r j
  extended-relay = record { told = ready_told p; room = omega (arith, p.short, p.more); next = free }

  -- and with more than one round left the receiver decides on the longer route
  pub extended-ready : (e : R.Route) → e ≡ row_of_route (via j (held r)) → (left ≡ 1 → ⊥) → Ready s e (left - 1)
  extended-ready e ee more =
      let told = Passing.relay-told s t g r j extended-relay e ee in
      record {
        some = told.some;
        more = omega (arith, p.more);
        short = omega (arith, Passing.relay-length s t g r j extended-relay e ee, p.short, p.more);
        path = told.path;
      }

-- ---- what is held once the nodes below j are passed

-- the own entry and those of the nodes below j, as bytes in front, and the ties behind them
pub record Held (s : Settings) (t : List ℕ) (r : R.Route) (left : ℕ) (bytes : List ℕ) (entered ties j : ℕ) : Type 0 where
  pub places : entered ≡ count (receiver s.n s.sender (held r)) (up_to j) + 1
  pub size : length bytes ≡ 28
  pub words : take (2 * entered) bytes ≡ bytes_of (delivered s t (held r) ∷ words_to s t left (held r) j)
  pub tied : ties ≡ ties_to s t left (held r) j

-- before the first node there is the own entry
pub held-own : (s : Settings) (t : List ℕ) (r : R.Route) (left own : ℕ) (bytes bytes' : List ℕ) → length bytes ≡ 28
    → own ≡ delivered s t (held r) → bytes' ≡ put_word bytes 0 own → Held s t r left bytes' 1 0 0
unfolding up_to count keep total bytes_of
held-own s t r left own bytes bytes' long eo eb =
    record {
      places = refl;
      size = ap length eb ∙ put-length bytes 0 own ∙ long;
      words = rw (eb, eo) (Bytes.put-behind bytes [] 0 (delivered s t (held r)) (omega (arith, long)) refl);
      tied = refl;
    }

module _ (s : Settings) (t : List ℕ) (g : Given s t) (r : R.Route) (left j : ℕ) (p : Ready s r left) (bytes : List ℕ) (entered ties : ℕ)
    (h : Held s t r left bytes entered ties j) (below : j < s.n) where
  -- may this node receive
  abbrev may : ℕ → Bool
  may = receiver s.n s.sender (held r)

  -- what is decided of it, with one round less
  abbrev W : ℕ → ℕ
  W x = (byz s t (left - 1) (via x (held r))).word

  abbrev T : ℕ → ℕ
  T x = (byz s t (left - 1) (via x (held r))).ties

  -- one who may not: nothing changes
  pub turn-skip : (bytes' : List ℕ) (entered' ties' : ℕ) → may j ≡ false → bytes' ≡ bytes → entered' ≡ entered → ties' ≡ ties
      → Held s t r left bytes' entered' ties' (j + 1)
  turn-skip bytes' entered' ties' f eb en et =
      record {
        places = rw (add-one j) (omega (arith, en, h.places, count-up_to may j, ap bit f));
        size = ap length eb ∙ h.size;
        words = rw (add-one j, gather-no W may j f, en, eb, h.words);
        tied = rw (add-one j, gather-no T may j f, et, h.tied);
      }

  module _ (f : may j ≡ true) where
    -- one who may: there is room for its entry,
    few : entered < 14
    unfolding size
    few =
        let ok = g.judged in
        let level = level-size s.n s.sender ok.sender-below (held r) p.path in
        omega (arith, count_past may j s.n below f, level, length_back r.nodes r.len, p.some, ok.fifteen, h.places)

    pub turn-room : 2 * entered + 1 < length bytes
    turn-room = omega (arith, few, h.size)

    pub turn-count : Fits w64 (entered + 1)
    turn-count = record { fits = omega (arith, few) }

    module _ (d : Decided) (ed : d ≡ byz s t (left - 1) (via j (held r))) where
      -- its ties are added
      pub turn-ties : Fits w32 (ties + d.ties)
      turn-ties =
          let ok = g.judged in
          let le : left - 1 ≤ s.m = omega (arith, p.short, p.some) in
          record {
            fits = omega (arith, h.tied, Ties.gathered-ties s t ok (left - 1) le (held r) j (omega arith), ap (λ (x : Decided). x.ties) ed, Ties.decision-ties s t ok (left - 1) le (via j (held r)));
          }

      -- and its word is put behind the entries held so far
      pub turn_more : (bytes' : List ℕ) (entered' ties' : ℕ) → bytes' ≡ put_word bytes entered d.word → entered' ≡ entered + 1 → ties' ≡ ties + d.ties
          → Held s t r left bytes' entered' ties' (j + 1)
      turn_more bytes' entered' ties' eb en et =
          record {
            places = rw (add-one j) (omega (arith, en, h.places, count-up_to may j, ap bit f));
            size = ap length eb ∙ put-length bytes entered d.word ∙ h.size;
            words = rw (add-one j, gather-yes W may j f, eb, ed, en)
                (Bytes.put-behind bytes (delivered s t (held r) ∷ words_to s t left (held r) j) entered (W j) turn-room h.words);
            tied = rw (add-one j, gather-yes T may j f, et, h.tied, ed) (sym (total-snoc (map T (Ties.asked s (held r) j)) (T j)));
          }

-- ---- who receives, by the set of those who do not

module _ (n sender : ℕ) (r : R.Route) (used taken j : ℕ) (m : Marks used (held r)) (et : taken ≡ bit_or used (2 ^ sender)) (below : j < n) where
  pub receives : false ≡ faulty taken j → receiver n sender (held r) j ≡ true
  receives off = sym (Marks.marks-taken used taken n sender j (held r) false m et below off)

  pub receives-not : true ≡ faulty taken j → receiver n sender (held r) j ≡ false
  receives-not on = sym (Marks.marks-taken used taken n sender j (held r) true m et below on)

-- ---- the decision that is entered

module _ (s : Settings) (t : List ℕ) (r : R.Route) (left j : ℕ) (d : Decided) where
  -- with one round left it is the word delivered with j as one relay more
  pub last : (w : ℕ) → left ≡ 1 → w ≡ delivered s t (via j (held r)) → d ≡ record { word = w; ties = 0 } → d ≡ byz s t (left - 1) (via j (held r))
  last w one ew ed = let z : left - 1 ≡ 0 = omega arith in ed ∙ rw (z, ew) (sym (byz-told s t (via j (held r))))

  -- and else that on the longer route
  pub deeper : (e : R.Route) (d' : Decided) → e ≡ row_of_route (via j (held r)) → d' ≡ byz s t (left - 1) (held e) → d ≡ d' → d ≡ byz s t (left - 1) (via j (held r))
  deeper e d' ee ed e' = e' ∙ ed ∙ ap (byz s t (left - 1)) (ap held ee ∙ held-row (via j (held r)))

-- ---- once all nodes are passed, the whole is gathered

module _ (s : Settings) (t : List ℕ) (g : Given s t) (r : R.Route) (left j : ℕ) (p : Ready s r left) (bytes : List ℕ) (entered ties : ℕ)
    (h : Held s t r left bytes entered ties j) (end : j ≡ s.n) where
  pub all-fit : entered ≤ 14
  unfolding size
  all-fit =
      let ok = g.judged in
      omega (arith, rw end at h.places, level-size s.n s.sender ok.sender-below (held r) p.path, length_back r.nodes r.len, p.some, ok.fifteen)

  pub held_all : record { bytes = take (2 * entered) bytes; ties = ties } ≡ gathered s t left (held r)
  unfolding receivers entries
  held_all =
      Bytes.same-gathered _ _ _ _ (h.words ∙ ap (λ (k : ℕ). bytes_of (delivered s t (held r) ∷ words_to s t left (held r) k)) end) (h.tied ∙ ap (ties_to s t left (held r)) end)
