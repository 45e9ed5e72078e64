use mathlib.Core.Path.{refl}
use native.Mathlib.Omega.{arith}
use Rattle.base.specs.Sums.{sum}
use Rattle.machine.proofs.OwingSums.{one_place}
use Rattle.machine.proofs.owing.places_pairs.Goals as goal

pub loop-place-init : goal.loop-place-init
unfolding sum
loop-place-init g c = (omega arith, refl)

pub loop-place-preserved : goal.loop-place-preserved
loop-place-preserved g c =
    let l = c.loop-place in
    let one = c.place_pairs-n.ensures in (
      omega (arith, one.1),
      one_place _ c.args.places.now l.place-index l.n _ c.place-item.result c.loop-place-test.true c.place-item.is l.invariant.1
          (rw (c.terminator.ensures, c.set.ensures) at one.0),
    )
