-- `frames::digits::frame_of`: two digits come at a time, and they are the next two of the line.
use Rattle.std.proofs.Common.{ℕ, ◌≡◌, ◌+◌, ◌*◌, ◌<◌, true, length, get_or, arith, refl, ap, ◌∙◌}
use Rattle.rules.proofs.Counting.{all-at}
use Rattle.scenario.specs.Hex.{is_digit, digit_value, frame_of}
use Rattle.frames.specs.Rows.{frame_row}
use Rattle.frames.proofs.FrameRows.{NextPair, framed, next-pair, frame-more}
use Rattle.frames.proofs.digits.frame_of.Goals as goal

pub loop-i-init : goal.loop-i-init
unfolding frame_of frame_row
loop-i-init c =
    let same = c.into_iter-i-iterator.ensures.into_iter_gives in
    let chunks = c.enumerate-i-items.ensures.source in
    rw (same, chunks, c.enumerate-i-items.ensures.count) (record {
      framed = framed c.args.line.now c.requires;
      pairs = c.chunks_exact.ensures.size;
      within = omega arith;
      left = c.chunks_exact.ensures.rest;
      row = refl;
    })

pub byte_of-requires : goal.byte_of-requires
byte_of-requires c =
    let line = c.args.line.now in
    let turn = c.loop-i.invariant in
    let step = c.in-Some.ensures.steps in
    let pair : NextPair line c.in-Some.digits.now c.next.new.self.iter.rest.now c.loop-i.i-iterator.count =
    next-pair line _ _ _ _ turn.left step.0.1.0 (step.0.1.1 ∙ turn.pairs) in
    let digit : (j : ℕ) → j < length line → is_digit (get_or line j 0) ≡ true = λ j h. all-at is_digit line j h turn.framed.digits in
    (ap is_digit pair.high ∙ digit _ (omega arith), ap is_digit pair.low ∙ digit _ (omega arith))

pub loop-i-preserved : goal.loop-i-preserved
loop-i-preserved c =
    let line = c.args.line.now in
    let turn = c.loop-i.invariant in
    let step = c.in-Some.ensures.steps in
    let i = c.loop-i.i-iterator.count in
    let pair : NextPair line c.in-Some.digits.now c.next.new.self.iter.rest.now i =
    next-pair line _ _ _ _ turn.left step.0.1.0 (step.0.1.1 ∙ turn.pairs) in
    let byte : c.byte_of.result ≡ digit_value (get_or line (2 * i) 0) * 16 + digit_value (get_or line (2 * i + 1) 0) =
    c.byte_of.ensures ∙ rw (pair.high, pair.low) refl in
    rw (step.1, step.2) (record {
      framed = turn.framed;
      pairs = step.0.0 ∙ turn.pairs;
      within = omega arith;
      left = pair.left;
      row = frame-more line i c.loop-i.frame c.byte_of.result turn.row byte (omega arith) pair.inside;
    })
