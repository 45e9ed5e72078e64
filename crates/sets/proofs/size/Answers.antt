-- `sets::size` meets its contract: the ones of a word are the members below 64. Assumes nothing.
use mathlib.Core.Path.{sym}
use native.Mathlib.Omega.{arith}
use lib.Count.{ones-le}
use Rattle.base.specs.Sizes.{set_bits}
use Rattle.sets.proofs.LawsSize.{size_ones}
use Rattle.sets.proofs.size.Goals as goal

pub overflow_cast-result : goal.overflow_cast-result
overflow_cast-result c = omega (arith, ones-le set_bits c.args.set (omega arith))

pub returns : goal.returns
returns c = sym (size_ones set_bits c.args.set (omega arith))
