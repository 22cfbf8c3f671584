-- A digit stands for less than 16, so two make a byte.
use Rattle.std.proofs.Common.{arith}
use Rattle.scenario.proofs.Hexadecimal.{digit-of}
use Rattle.frames.proofs.digits.byte_of.Goals as goal

pub overflow_mul-result : goal.overflow_mul-result
overflow_mul-result c = omega (arith, digit-of _ c.requires.0)

pub overflow_add-result : goal.overflow_add-result
overflow_add-result c = omega (arith, digit-of _ c.requires.0, digit-of _ c.requires.1)
