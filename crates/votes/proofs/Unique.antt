-- Any two results that a public contract allows are equal.
use mathlib.Core.Path.{◌≡◌, sym, ◌∙◌}
use lib.ListN.{length}
use Rattle.rules.specs.Refusals.{vote_refusal}
use Rattle.rules.specs.Vote.{vote}
use Rattle.rules.specs.Words.{words_of}
use Rattle.rules.proofs.Results.{OneResult, one-answer}
use Rattle.votes.proofs.tally.Reads as tally
use Rattle.votes.proofs.tally.Kinds as tally-kinds
use Rattle.votes.proofs.cast_vote.Reads as cast-vote
use Rattle.votes.proofs.cast_vote.Kinds as cast-vote-kinds

pub one-tally : OneResult 1 tally-kinds.ps tally-kinds.r tally.Post
one-tally κs a x y s t p q = p ∙ sym q

pub one-cast-vote : OneResult 1 cast-vote-kinds.ps cast-vote-kinds.r cast-vote.Post
one-cast-vote κs a x y s t p q =
    one-answer (vote_refusal a.0 (length a.1.0.now)) (λ v. v ≡ vote a.0 (words_of a.1.0.now)) (λ v w f g. f ∙ sym g) x y p q
