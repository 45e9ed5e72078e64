use native.Mathlib.Omega.{arith}
use Rattle.base.specs.Sizes.{set_bits}
use Rattle.sets.proofs.LawsBit.{size_most}
use Rattle.machine.proofs.owing.place_pairs.Goals as goal

pub returns-in-End : goal.returns-in-End
returns-in-End c = (rw c.in-End.is c.size.ensures, omega (arith, c.size.ensures, size_most set_bits c.args.set))
