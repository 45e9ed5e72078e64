-- `tests::pair_is_first` meets its contract: the two bytes of every channel before are compared. Assumes nothing.
use mathlib.Core.Path.{◌≡◌}
use Prim.Native.Nat.{◌≤◌}
use Rattle.base.specs.All.{all}
use Rattle.faults.specs.Channels.{pair_differs}
use Rattle.faults.proofs.tests.pair_is_first.Given as goal

abbrev pub invariant-loop-i : goal.invariant-loop-i
invariant-loop-i l = (l.i ≤ l.m) × (l.is_new ≡ all (pair_differs l.b l.high l.low) l.i)
