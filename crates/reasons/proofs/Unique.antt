-- Any two results that a public contract allows are equal, and so are those that `lines` takes from `kinds`.
use mathlib.Core.Path.{◌≡◌, refl, sym, ◌∙◌}
use Rattle.rules.proofs.Results.{OneResult, one-answer}
use Rattle.scenario.specs.Reasons.{stage_number}
use Rattle.scenario.specs.declared.Stage.{Stage}
use Rattle.scenario.specs.declared.Stage.TheVariants.{Before, Opened, Closed}
use Rattle.reasons.proofs.kinds.said_judged.Reads as said-judged
use Rattle.reasons.proofs.kinds.said_judged.Kinds as said-judged-kinds
use Rattle.reasons.proofs.lines.stage_of.Reads as stage-of
use Rattle.reasons.proofs.lines.stage_of.Kinds as stage-of-kinds
use Rattle.reasons.proofs.lines.line_judged.Reads as line-judged
use Rattle.reasons.proofs.lines.line_judged.Kinds as line-judged-kinds

-- a stage's number tells it
stage-tells : (a b : Stage) → stage_number a ≡ stage_number b → a ≡ b
stage-tells Before Before e = refl
stage-tells Before Opened e = cc
stage-tells Before Closed e = cc
stage-tells Opened Before e = cc
stage-tells Opened Opened e = refl
stage-tells Opened Closed e = cc
stage-tells Closed Before e = cc
stage-tells Closed Opened e = cc
stage-tells Closed Closed e = refl

pub one-kind-refusal : OneResult 2 said-judged-kinds.ps said-judged-kinds.r said-judged.Post
one-kind-refusal κs a x y s t p q = one-answer _ _ (λ u v h k. refl) x y p q

pub one-stage-of : OneResult 0 stage-of-kinds.ps stage-of-kinds.r stage-of.Post
one-stage-of κs a x y s t p q = stage-tells x y (p ∙ sym q)

pub one-line-refusal : OneResult 2 line-judged-kinds.ps line-judged-kinds.r line-judged.Post
one-line-refusal κs a x y s t p q = one-answer _ _ (λ u v h k. h ∙ sym k) x y p q
