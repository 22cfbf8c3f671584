-- Pieces fed one after another.
use mathlib.Core.Path.{◌≡◌, refl, sym, ◌∙◌}
use mathlib.Core.List.{List, [], ◌∷◌, ◌++◌, append_assoc, append-nil, flatten, foldl-append}
use Prim.Native.Nat.{ℕ, ◌+◌, ◌≤◌}
use native.Mathlib.Omega.{arith}
use lib.ListN.{length, take}
use lib.Seq.{length-take-le}
use Rattle.std.specs.Prelude.{Option, None, Some}
use Rattle.std.specs.Io.KnownBytes.{Keeps, Consumes}
use Rattle.std.proofs.KnownBytes.{Consumes-nil, Consumes-trans, Consumes-kept}
use Rattle.scenario.specs.Reasons.{Desk, desk}
use Rattle.scenario.specs.Feeding.{fed}
use Rattle.answering.specs.Finish.{length_after}
use Rattle.scenario.specs.declared.Reader.{Reader}
use Rattle.answering.proofs.AnswerText.{length-within}
use Rattle.play.specs.Pieces.{Fed, FedFrom, Loses}

-- where nothing came, nothing was fed
pub fed-none : (d : Desk) → Fed d d
fed-none d = record { pieces = []; fed = refl }

-- where a piece came, it was fed
pub fed_piece : (was d : Desk) (piece : List ℕ) (x : Reader) (table marks : List ℕ) → d ≡ was
    → x ≡ (fed d piece).reader → table ≡ (fed d piece).table → marks ≡ (fed d piece).marks → Fed was (desk x table marks)
fed_piece was d piece x table marks is r t m = record { pieces = piece ∷ []; fed = rw (r, t, m, is) }

-- what was fed after what was fed before
pub fed_then : (a b c : Desk) → Fed a b → Fed b c → Fed a c
fed_then a b c first then =
    record { pieces = first.pieces ++ then.pieces; fed = then.fed ∙ rw first.fed (sym (foldl-append fed a first.pieces then.pieces)) }

-- ---- the same, with the bytes that the input has left

-- an input that stayed as it was gave nothing
pub from_kept : (d : Desk) (left rest : Option (List ℕ)) → Keeps left rest → FedFrom left rest d d
unfolding flatten fed-none
from_kept d left rest k = record { all = fed-none d; taken = Consumes-kept left left rest [] (Consumes-nil left) k }

-- a piece that the input gave
pub from_piece : (was d : Desk) (piece : List ℕ) (x : Reader) (table marks : List ℕ) (left rest : Option (List ℕ)) → d ≡ was
    → x ≡ (fed d piece).reader → table ≡ (fed d piece).table → marks ≡ (fed d piece).marks → Consumes left rest piece
    → FedFrom left rest was (desk x table marks)
unfolding flatten fed_piece
from_piece was d piece x table marks left rest is r t m taken =
    record { all = fed_piece was d piece x table marks is r t m; taken = rw append-nil taken }

flatten-append : (xs ys : List (List ℕ)) → flatten (xs ++ ys) ≡ flatten xs ++ flatten ys
unfolding flatten
flatten-append [] ys = refl
flatten-append (x ∷ xs) ys = rw (flatten-append xs ys, append_assoc)

-- what is taken after what was taken before
pub from_then : (a b c : Desk) (left mid rest : Option (List ℕ)) → FedFrom left mid a b → FedFrom mid rest b c → FedFrom left rest a c
unfolding fed_then
from_then a b c left mid rest first then =
    record {
      all = fed_then a b c first.all then.all;
      taken = rw (flatten-append first.all.pieces then.all.pieces) (Consumes-trans left mid rest _ _ first.taken then.taken);
    }

-- ---- how many bytes that were

pub loses_none : (left : Option (List ℕ)) → Loses left left 0
loses_none None = tt
loses_none (Some xs) = omega arith

pub loses_then : (left mid rest : Option (List ℕ)) (m n : ℕ) → Loses left mid m → Loses mid rest n → Loses left rest (m + n)
loses_then None mid rest m n first then = tt
loses_then (Some xs) None rest m n first then = elim first [ ]
loses_then (Some xs) (Some ys) None m n first then = elim then [ ]
loses_then (Some xs) (Some ys) (Some zs) m n first then = omega arith

-- the answer stands within the buffer, which keeps its length
module _ (out text out' : List ℕ) (n : ℕ) (is : n ≡ length_after out text) (same : length out' ≡ length out) where
  -- so its length is no more than the buffer has
  pub within : n ≤ length out'
  within = rw (is, same) (length-within out text)

  -- and the part that is written has that length
  pub part-long : n ≡ length (take n out')
  part-long = sym (length-take-le n out' within)
