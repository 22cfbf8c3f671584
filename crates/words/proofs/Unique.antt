-- Any two results that a public contract allows are equal, and so is the later content of a row that is lent.
use mathlib.Core.Path.{◌≡◌, sym, ◌∙◌}
use contract.Lifetimes.{Lfts}
use denote.Triple.Clauses.{AtExit}
use borrow.Fn.Kinds.{Dens, res_t, ended_of}
use Rattle.rules.proofs.Results.{OneResult}
use Rattle.words.proofs.word_at.Reads as word_at
use Rattle.words.proofs.word_at.Kinds as word-at-kinds
use Rattle.words.proofs.plain_at.Reads as plain_at
use Rattle.words.proofs.plain_at.Kinds as plain-at-kinds
use Rattle.words.proofs.put_word.Reads as put_word
use Rattle.words.proofs.put_word.Kinds as put-word-kinds

pub one-word-at : OneResult 1 word-at-kinds.ps word-at-kinds.r word_at.Post
one-word-at κs a x y s t p q = p ∙ sym q

pub one-plain-at : OneResult 1 plain-at-kinds.ps plain-at-kinds.r plain_at.Post
one-plain-at κs a x y s t p q = p ∙ sym q

-- nothing is returned; one row is left
pub one-put-word : (κs : Lfts 1) (a : Dens κs put-word-kinds.ps) (x y : (res_t put-word-kinds.r κs).Denot) (s t : AtExit (ended_of 1 put-word-kinds.ps put-word-kinds.r) κs)
    → put_word.Post κs a x s → put_word.Post κs a y t → s.0.now ≡ t.0.now
one-put-word κs a x y s t p q = p ∙ sym q
