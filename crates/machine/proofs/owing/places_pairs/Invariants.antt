use mathlib.Core.Path.{◌≡◌}
use Prim.Native.Nat.{◌*◌, ◌≤◌}
use lib.ListN.{take}
use Rattle.base.specs.Sizes.{set_bits}
use Rattle.base.specs.Sums.{sum}
use Rattle.model.specs.Owing.{pairs_as}
use Rattle.machine.proofs.owing.places_pairs.Given as goal

abbrev pub invariant-loop-place : goal.invariant-loop-place
invariant-loop-place g l =
    (l.n ≤ set_bits * l.place-index)
    × (l.n ≡ sum (λ p. pairs_as (g.P.Place.holds p) l.s (g.P.Place.targets p)) (take l.place-index l.places))
