-- `sets::lowest` meets its contract. Assumes nothing.
use mathlib.Core.Path.{refl}
use native.Mathlib.Omega.{arith}
use lib.Count.{trailing_le}
use Rattle.base.specs.Sizes.{set_bits}
use Rattle.sets.specs.Sets.{lowest}
use Rattle.sets.proofs.lowest.Goals as goal

pub overflow_cast-result : goal.overflow_cast-result
overflow_cast-result c = omega (arith, trailing_le set_bits c.args.set)

pub returns : goal.returns
unfolding lowest
returns c = refl
