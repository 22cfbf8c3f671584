-- `routes::numbering::digit_of`: the sender, and then number by number.
use Rattle.std.proofs.Common.{rules}
use Rattle.rules.specs.Routes.{back}
use Rattle.routes.proofs.Digits.{digit-first, one_less, digit-next}
use Rattle.routes.proofs.numbering.digit_of.Goals as goal

pub loop-used-init : goal.loop-used-init
unfolding back
loop-used-init c = digit-first _ _ _ _ c.from.ensures c.from-2.ensures

pub overflow_sub-digits-in-loop-used : goal.overflow_sub-digits-in-loop-used
overflow_sub-digits-in-loop-used c = one_less _ _ _ _ _ _ _ c.requires (search rules) c.loop-used-test.true c.loop-used.invariant c.from-digits.ensures

pub loop-used-preserved : goal.loop-used-preserved
loop-used-preserved c = digit-next _ _ _ _ _ _ _ c.requires (search rules) c.loop-used-test.true c.loop-used.invariant c.from-digits.ensures
