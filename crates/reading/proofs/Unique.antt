-- Any two results that a public contract allows are equal, and so is the later content of table and marks.
use mathlib.Core.Path.{◌≡◌, sym, ap, ◌∙◌}
use contract.Lifetimes.{Lfts}
use denote.Triple.Clauses.{AtExit}
use borrow.Fn.Kinds.{Dens, res_t, ended_of}
use Rattle.rules.proofs.Results.{OneResult}
use Rattle.reading.proofs.feeding.start.Reads as start
use Rattle.reading.proofs.feeding.start.Kinds as start-kinds
use Rattle.reading.proofs.feeding.feed.Reads as feed
use Rattle.reading.proofs.feeding.feed.Kinds as feed-kinds
use Rattle.reading.proofs.judging.Desk.judge_line.Reads as judge-line
use Rattle.reading.proofs.judging.Desk.judge_line.Kinds as judge-line-kinds
use Rattle.scenario.specs.Reasons.{Desk}

pub one-start : OneResult 0 start-kinds.ps start-kinds.r start.Post
one-start κs a x y s t p q = p ∙ sym q

pub one_reader : OneResult 3 feed-kinds.ps feed-kinds.r feed.Post
one_reader κs a x y s t p q = p.0 ∙ sym q.0

pub one_table : (κs : Lfts 3) (a : Dens κs feed-kinds.ps) (x y : (res_t feed-kinds.r κs).Denot) (s t : AtExit (ended_of 3 feed-kinds.ps feed-kinds.r) κs)
    → feed.Post κs a x s → feed.Post κs a y t → s.1.1.0.now ≡ t.1.1.0.now
one_table κs a x y s t p q = p.1 ∙ sym q.1

pub one-marks : (κs : Lfts 3) (a : Dens κs feed-kinds.ps) (x y : (res_t feed-kinds.r κs).Denot) (s t : AtExit (ended_of 3 feed-kinds.ps feed-kinds.r) κs)
    → feed.Post κs a x s → feed.Post κs a y t → s.1.1.1.0.now ≡ t.1.1.1.0.now
one-marks κs a x y s t p q = p.2 ∙ sym q.2

-- ---- one line: what is left of reader, table and marks is one desk

pub one-judged : (κs : Lfts 2) (a : Dens κs judge-line-kinds.ps) (x y : (res_t judge-line-kinds.r κs).Denot) (s t : AtExit (ended_of 2 judge-line-kinds.ps judge-line-kinds.r) κs)
    → judge-line.Post κs a x s → judge-line.Post κs a y t → s.0.now.reader ≡ t.0.now.reader
one-judged κs a x y s t p q = ap (λ (d : Desk). d.reader) (p.0 ∙ sym q.0)

pub one-judged-table : (κs : Lfts 2) (a : Dens κs judge-line-kinds.ps) (x y : (res_t judge-line-kinds.r κs).Denot) (s t : AtExit (ended_of 2 judge-line-kinds.ps judge-line-kinds.r) κs)
    → judge-line.Post κs a x s → judge-line.Post κs a y t → s.0.now.table.now ≡ t.0.now.table.now
one-judged-table κs a x y s t p q = ap (λ (d : Desk). d.table) (p.0 ∙ sym q.0)

pub one-judged-marks : (κs : Lfts 2) (a : Dens κs judge-line-kinds.ps) (x y : (res_t judge-line-kinds.r κs).Denot) (s t : AtExit (ended_of 2 judge-line-kinds.ps judge-line-kinds.r) κs)
    → judge-line.Post κs a x s → judge-line.Post κs a y t → s.0.now.marks.now ≡ t.0.now.marks.now
one-judged-marks κs a x y s t p q = ap (λ (d : Desk). d.marks) (p.0 ∙ sym q.0)
