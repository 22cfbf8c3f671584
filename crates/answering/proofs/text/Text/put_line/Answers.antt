-- `answering::text::Text::put_line`: one byte more, and LF behind the last.
use Rattle.std.proofs.Common.{arith, append-nil}
use Rattle.scenario.specs.Hex.{digits_of}
use Rattle.answering.proofs.Writing.{byte_more, digits_long, line_ended}
use Rattle.answering.proofs.text.Text.put_line.Goals as goal

pub loop-byte-init : goal.loop-byte-init
unfolding digits_of
loop-byte-init c = rw append-nil

pub put_byte-requires : goal.put_byte-requires
put_byte-requires c = omega (arith, digits_long _ _ c.args.frame.now _ c.loop-byte.invariant (omega arith))

pub loop-byte-preserved : goal.loop-byte-preserved
loop-byte-preserved c = search byte_more

pub push-requires : goal.push-requires
push-requires c = omega (arith, digits_long _ _ c.args.frame.now _ c.loop-byte.invariant (omega arith))

pub returns : goal.returns
returns c = search line_ended
