-- `settings::Judged::try_from`: the first refusal that applies, test by test.
use Rattle.std.proofs.Common.{refl, arith}
use Rattle.settings.proofs.Refusing
use Rattle.settings.proofs.JudgedTryFromSettings.try_from.Goals as goal

pub returns-then-n-lt4 : goal.returns-then-n-lt4
returns-then-n-lt4 c = Refusing.wrong-nodes c.args.s c.then-n-lt4.either

pub returns-then-m-eq0 : goal.returns-then-m-eq0
returns-then-m-eq0 c = grind (arith, Refusing.wrong-rounds c.args.s, c.then-m-eq0.either)

pub returns-then-u-m : goal.returns-then-u-m
returns-then-u-m c = grind (arith, Refusing.low-bound)

pub returns-then-from : goal.returns-then-from
returns-then-from c = grind (arith, Refusing.too-few)

pub returns-then-n-s : goal.returns-then-n-s
returns-then-n-s c = grind (arith, Refusing.no-sender)

pub returns-then-s-gt65000 : goal.returns-then-s-gt65000
returns-then-s-gt65000 c = grind (arith, Refusing.reserved-value)

pub returns-then-s-n-ne0 : goal.returns-then-s-n-ne0
returns-then-s-n-ne0 c = grind (arith, Refusing.stray-fault)

pub returns : goal.returns
returns c = (grind (arith, Refusing.settings-pass), refl)
