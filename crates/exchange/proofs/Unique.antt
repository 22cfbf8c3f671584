-- Any two results that a public contract allows are equal, and so is the later content of the lent row.
use mathlib.Core.Path.{◌≡◌, sym, ◌∙◌}
use contract.Lifetimes.{Lfts}
use denote.Triple.Clauses.{AtExit}
use borrow.Fn.Kinds.{Dens, res_t, ended_of}
use lib.ListN.{length}
use Rattle.rules.specs.Exchange.{played}
use Rattle.rules.specs.Refusals.{exchange_refusal}
use Rattle.rules.proofs.Results.{OneResult, one-answer}
use Rattle.settings.specs.Judged.{settings_of}
use Rattle.settings.proofs.Unique.{one-narrowed}
use Rattle.exchange.proofs.judging.judged.Reads as judged
use Rattle.exchange.proofs.judging.judged.Kinds as judged-kinds
use Rattle.exchange.proofs.exchange.Reads as exchange
use Rattle.exchange.proofs.exchange.Kinds as exchange-kinds
use Rattle.exchange.proofs.deciding.decide.Reads as decide
use Rattle.exchange.proofs.deciding.decide.Kinds as decide-kinds
use Rattle.exchange.proofs.row.play.Reads as play
use Rattle.exchange.proofs.row.play.Kinds as play-kinds

-- what is given is refused, or judged, in one way
pub one-refusal : OneResult 0 judged-kinds.ps judged-kinds.r judged.Post
one-refusal κs a x y s t p q = one-answer (exchange_refusal a.0 a.1.0 a.1.1.0) (λ j. settings_of j ≡ a.0) (one-narrowed a.0) x y p q

pub one-summary : OneResult 2 exchange-kinds.ps exchange-kinds.r exchange.Post
one-summary κs a x y s t p q = one-answer (exchange_refusal a.0 (length a.1.0.now) (length a.1.1.0.now)) (λ z. z ≡ played a.0 a.1.0.now) (λ i j f g. f ∙ sym g) x y p.0 q.0

pub one-row : (κs : Lfts 2) (a : Dens κs exchange-kinds.ps) (x y : (res_t exchange-kinds.r κs).Denot) (s t : AtExit (ended_of 2 exchange-kinds.ps exchange-kinds.r) κs)
    → exchange.Post κs a x s → exchange.Post κs a y t → s.1.1.0.now ≡ t.1.1.0.now
one-row κs a x y s t p q = p.1 ∙ sym q.1

-- ---- the functions of the inner rooms

pub one-decide : OneResult 2 decide-kinds.ps decide-kinds.r decide.Post
one-decide κs a x y s t p q = p ∙ sym q

-- the ties, and the row that is filled
pub one-play : OneResult 3 play-kinds.ps play-kinds.r play.Post
one-play κs a x y s t p q = p.0 ∙ sym q.0

pub one-filled : (κs : Lfts 3) (a : Dens κs play-kinds.ps) (x y : (res_t play-kinds.r κs).Denot) (s t : AtExit (ended_of 3 play-kinds.ps play-kinds.r) κs)
    → play.Post κs a x s → play.Post κs a y t → s.1.0.now ≡ t.1.0.now
one-filled κs a x y s t p q = p.1 ∙ sym q.1
