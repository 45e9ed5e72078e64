use mathlib.Core.Path.{◌≡◌}
use mathlib.Core.Bool.{◌&&◌}
use Prim.Native.Nat.{◌-◌, ◌≤◌}
use Rattle.base.specs.Sizes.{output_count}
use Rattle.sets.specs.Sets.{those}
use Rattle.model.specs.Router.{is_port, listed}
use Rattle.rules.proofs.blocking.ports_of.Given as goal

abbrev pub invariant-loop-j : goal.invariant-loop-j
invariant-loop-j l = (l.j ≤ output_count) × (l.set ≡ those (λ i. is_port i && listed l.list i) l.j)

abbrev pub decreases-loop-j : goal.decreases-loop-j
decreases-loop-j l = output_count - l.j
