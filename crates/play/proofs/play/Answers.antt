-- `play::play` meets its contract: the answer stands within the buffer, and what is written is the answer to all that came.
use mathlib.Core.Path.{◌≡◌, subst}
use mathlib.Core.Logic.{inl}
use mathlib.Core.Bool.{true}
use Rattle.std.specs.Prelude.{OnOk, IfOk, MatchResult, Result, Ok, Err, is_ok}
use Rattle.std.proofs.Common.{rules}
use Rattle.play.proofs.Feeding.{within, part-long}
use Rattle.play.proofs.Written.{answered}
use Rattle.play.proofs.play.Goals as goal

-- what holds of a value where it was passed on
where_ok : {T E F : Type 0} (r : Result T E) (r' : Result T F) (P : T → Type 0) (Q : E → Type 0) (x : T)
    → MatchResult r (λ y. r' ≡ Ok y) Q → is_ok r' ≡ is_ok r → r' ≡ Ok x → IfOk r P → P x
where_ok (Ok y) r' P Q x same variant is p = let e : y ≡ x = cc in subst P e p
where_ok (Err y) r' P Q x same variant is p = let h = rw is at variant in cc

-- what follows where a call succeeded, and so where its success was passed on
as_ok : {A B E F : Type 0} (r : Result A E) (r' : Result B F) (P Q : Type 0) → is_ok r' ≡ is_ok r → OnOk r P → (P → Q) → OnOk r' Q
as_ok (Ok x) (Ok y) P Q e p f = f p
as_ok (Err x) (Ok y) P Q e p f = cc
as_ok r (Err y) P Q e p f = tt

pub slice_bounds-out-end : goal.slice_bounds-out-end
slice_bounds-out-end g c = search within

pub slice_bounds-write_all-end : goal.slice_bounds-write_all-end
slice_bounds-write_all-end g c = search part-long

pub returns-clause-answer : goal.returns-clause-answer
returns-clause-answer g c =
    let met : c.in_ok-map_err.field-0 ≡ true = search rules in
    let ended = where_ok c.read_all.result c.map_err.result _ _ _ c.map_err.ensures.cases c.map_err.ensures.variant c.in_ok-map_err.was c.read_all.ensures.end met in
    let taken = rw (c.new-session.ensures, ← c.session.view_is) at c.read_all.ensures.taken in
    as_ok c.write_all.result c.map_err-2.result _ _ c.map_err-2.ensures.variant c.write_all.ensures.bytes
    (λ w. inl (answered _ _ _ _ _ _ _ taken ended c.finish-n.ensures.0 c.finish-n.ensures.1 w))
