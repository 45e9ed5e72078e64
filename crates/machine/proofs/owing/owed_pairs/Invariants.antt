use mathlib.Core.Path.{◌≡◌}
use Prim.Native.Nat.{◌*◌, ◌≤◌}
use lib.ListN.{take}
use Rattle.base.specs.Sums.{isum}
use Rattle.model.specs.Owing.{pairs_site}
use Rattle.machine.proofs.owing.owed_pairs.Given as goal

abbrev pub invariant-loop-s : goal.invariant-loop-s
invariant-loop-s l = (l.n ≤ 2240 * l.s) × (l.n ≡ isum pairs_site 0 (take l.s l.fn.state.sites))
