-- Any two results that a public contract allows are equal, and so is the later content of what is lent.
use mathlib.Core.Path.{◌≡◌, sym, ◌∙◌}
use contract.Lifetimes.{Lfts}
use denote.Triple.Clauses.{AtExit}
use borrow.Fn.Kinds.{Dens, res_t, ended_of}
use Rattle.rules.proofs.Results.{OneResult}
use Rattle.frames.proofs.digits.digit_of.Reads as digit-of
use Rattle.frames.proofs.digits.digit_of.Kinds as digit-of-kinds
use Rattle.frames.proofs.digits.no_frame.Reads as no-frame
use Rattle.frames.proofs.digits.no_frame.Kinds as no-frame-kinds
use Rattle.frames.proofs.digits.frame_of.Reads as frame-of
use Rattle.frames.proofs.digits.frame_of.Kinds as frame-of-kinds
use Rattle.frames.proofs.fields.size_of.Reads as size-of
use Rattle.frames.proofs.fields.size_of.Kinds as size-of-kinds
use Rattle.frames.proofs.fields.settings_in.Reads as settings-in
use Rattle.frames.proofs.fields.settings_in.Kinds as settings-in-kinds
use Rattle.frames.proofs.fields.route_in.Reads as route-in
use Rattle.frames.proofs.fields.route_in.Kinds as route-in-kinds
use Rattle.frames.proofs.fields.word_told.Reads as word-told
use Rattle.frames.proofs.fields.word_told.Kinds as word-told-kinds
use Rattle.frames.proofs.fields.count_in.Reads as count-in
use Rattle.frames.proofs.fields.count_in.Kinds as count-in-kinds
use Rattle.frames.proofs.fields.line_in.Reads as line-in
use Rattle.frames.proofs.fields.line_in.Kinds as line-in-kinds
use Rattle.frames.proofs.marks.is_marked.Reads as is-marked
use Rattle.frames.proofs.marks.is_marked.Kinds as is-marked-kinds
use Rattle.frames.proofs.marks.set_mark.Reads as set-mark
use Rattle.frames.proofs.marks.set_mark.Kinds as set-mark-kinds
use Rattle.frames.proofs.marks.clear.Reads as clear
use Rattle.frames.proofs.marks.clear.Kinds as clear-kinds

pub one-digit-of : OneResult 0 digit-of-kinds.ps digit-of-kinds.r digit-of.Post
one-digit-of κs a x y s t p q = p ∙ sym q

pub one-no-frame : OneResult 1 no-frame-kinds.ps no-frame-kinds.r no-frame.Post
one-no-frame κs a x y s t p q = p ∙ sym q

pub one-frame-of : OneResult 1 frame-of-kinds.ps frame-of-kinds.r frame-of.Post
one-frame-of κs a x y s t p q = p ∙ sym q

pub one-size-of : OneResult 0 size-of-kinds.ps size-of-kinds.r size-of.Post
one-size-of κs a x y s t p q = p ∙ sym q

-- ---- what a frame holds: each field, and the line that they are of

pub one-settings-in : OneResult 0 settings-in-kinds.ps settings-in-kinds.r settings-in.Post
one-settings-in κs a x y s t p q = p ∙ sym q

pub one-route-in : OneResult 0 route-in-kinds.ps route-in-kinds.r route-in.Post
one-route-in κs a x y s t p q = p ∙ sym q

pub one-word-told : OneResult 0 word-told-kinds.ps word-told-kinds.r word-told.Post
one-word-told κs a x y s t p q = p ∙ sym q

pub one-count-in : OneResult 0 count-in-kinds.ps count-in-kinds.r count-in.Post
one-count-in κs a x y s t p q = p ∙ sym q

pub one-line-in : OneResult 0 line-in-kinds.ps line-in-kinds.r line-in.Post
one-line-in κs a x y s t p q = p ∙ sym q

-- ---- marks

pub one-is-marked : OneResult 1 is-marked-kinds.ps is-marked-kinds.r is-marked.Post
one-is-marked κs a x y s t p q = p ∙ sym q

pub one-set-mark : (κs : Lfts 1) (a : Dens κs set-mark-kinds.ps) (x y : (res_t set-mark-kinds.r κs).Denot) (s t : AtExit (ended_of 1 set-mark-kinds.ps set-mark-kinds.r) κs)
    → set-mark.Post κs a x s → set-mark.Post κs a y t → s.0.now ≡ t.0.now
one-set-mark κs a x y s t p q = p ∙ sym q

pub one-clear : (κs : Lfts 1) (a : Dens κs clear-kinds.ps) (x y : (res_t clear-kinds.r κs).Denot) (s t : AtExit (ended_of 1 clear-kinds.ps clear-kinds.r) κs)
    → clear.Post κs a x s → clear.Post κs a y t → s.0.now ≡ t.0.now
one-clear κs a x y s t p q = p ∙ sym q
