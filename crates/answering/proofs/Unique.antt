-- Any two results that a public contract allows are equal, and so is the later content of the buffer.
use mathlib.Core.Path.{◌≡◌, sym, ap, ◌∙◌}
use contract.Lifetimes.{Lfts}
use denote.Triple.Clauses.{AtExit}
use borrow.Fn.Kinds.{Dens, res_t, ended_of}
use lib.ListN.{length}
use Rattle.rules.proofs.Results.{OneResult}
use Rattle.answering.proofs.ending.finish.Reads as finish
use Rattle.answering.proofs.ending.finish.Kinds as finish-kinds
use Rattle.answering.proofs.lines.put_nodes.Reads as put-nodes
use Rattle.answering.proofs.lines.put_nodes.Kinds as put-nodes-kinds
use Rattle.answering.proofs.lines.put_summary.Reads as put-summary
use Rattle.answering.proofs.lines.put_summary.Kinds as put-summary-kinds
use Rattle.answering.proofs.text.Text.new.Reads as new
use Rattle.answering.proofs.text.Text.new.Kinds as new-kinds
use Rattle.answering.proofs.text.Text.put_line.Reads as put-line
use Rattle.answering.proofs.text.Text.put_line.Kinds as put-line-kinds
use Rattle.answering.proofs.text.Text.copy_to.Reads as copy-to
use Rattle.answering.proofs.text.Text.copy_to.Kinds as copy-to-kinds

pub one-length : OneResult 2 finish-kinds.ps finish-kinds.r finish.Post
one-length κs a x y s t p q = p.0 ∙ sym q.0

pub one_out : (κs : Lfts 2) (a : Dens κs finish-kinds.ps) (x y : (res_t finish-kinds.r κs).Denot) (s t : AtExit (ended_of 2 finish-kinds.ps finish-kinds.r) κs)
    → finish.Post κs a x s → finish.Post κs a y t → s.1.1.0.now ≡ t.1.1.0.now
one_out κs a x y s t p q = p.1 ∙ sym q.1

-- ---- the functions that another file of the crate names, and the text as each leaves it

pub one-nodes : (κs : Lfts 2) (a : Dens κs put-nodes-kinds.ps) (x y : (res_t put-nodes-kinds.r κs).Denot) (s t : AtExit (ended_of 2 put-nodes-kinds.ps put-nodes-kinds.r) κs)
    → put-nodes.Post κs a x s → put-nodes.Post κs a y t → s.0.now ≡ t.0.now
one-nodes κs a x y s t p q = p ∙ sym q

-- how long the text is behind a summary, and the text
pub one-put-summary : (κs : Lfts 1) (a : Dens κs put-summary-kinds.ps) (x y : (res_t put-summary-kinds.r κs).Denot) (s t : AtExit (ended_of 1 put-summary-kinds.ps put-summary-kinds.r) κs)
    → put-summary.Post κs a x s → put-summary.Post κs a y t → length s.0.now ≡ length t.0.now
one-put-summary κs a x y s t p q = ap length (p ∙ sym q)

pub one-summary-out : (κs : Lfts 1) (a : Dens κs put-summary-kinds.ps) (x y : (res_t put-summary-kinds.r κs).Denot) (s t : AtExit (ended_of 1 put-summary-kinds.ps put-summary-kinds.r) κs)
    → put-summary.Post κs a x s → put-summary.Post κs a y t → s.0.now ≡ t.0.now
one-summary-out κs a x y s t p q = p ∙ sym q

pub one-new : OneResult 0 new-kinds.ps new-kinds.r new.Post
one-new κs a x y s t p q = p ∙ sym q

-- how long it is behind a line, and the text
pub one-put-line : (κs : Lfts 2) (a : Dens κs put-line-kinds.ps) (x y : (res_t put-line-kinds.r κs).Denot) (s t : AtExit (ended_of 2 put-line-kinds.ps put-line-kinds.r) κs)
    → put-line.Post κs a x s → put-line.Post κs a y t → length s.0.now ≡ length t.0.now
one-put-line κs a x y s t p q = ap length (p ∙ sym q)

pub one-line-out : (κs : Lfts 2) (a : Dens κs put-line-kinds.ps) (x y : (res_t put-line-kinds.r κs).Denot) (s t : AtExit (ended_of 2 put-line-kinds.ps put-line-kinds.r) κs)
    → put-line.Post κs a x s → put-line.Post κs a y t → s.0.now ≡ t.0.now
one-line-out κs a x y s t p q = p ∙ sym q

pub one-copy : OneResult 2 copy-to-kinds.ps copy-to-kinds.r copy-to.Post
one-copy κs a x y s t p q = p.0 ∙ sym q.0

pub one-copy-out : (κs : Lfts 2) (a : Dens κs copy-to-kinds.ps) (x y : (res_t copy-to-kinds.r κs).Denot) (s t : AtExit (ended_of 2 copy-to-kinds.ps copy-to-kinds.r) κs)
    → copy-to.Post κs a x s → copy-to.Post κs a y t → s.1.0.now ≡ t.1.0.now
one-copy-out κs a x y s t p q = p.1 ∙ sym q.1
