-- `sets::member` meets its contract: from 64 on no site is in a u64. Assumes nothing.
use mathlib.Core.Path.{refl, sym}
use native.Mathlib.Omega.{arith}
use Rattle.base.specs.Sizes.{set_bits}
use Rattle.sets.specs.Sets.{has}
use Rattle.sets.proofs.Laws.{outside}
use Rattle.sets.proofs.member.Goals as goal

pub returns-then-t-lt-SET : goal.returns-then-t-lt-SET
unfolding has
returns-then-t-lt-SET c = refl

pub returns-else-t-lt-SET : goal.returns-else-t-lt-SET
returns-else-t-lt-SET c = let a = c.args in sym (outside set_bits a.set a.t (omega arith) (omega arith))
