-- `tests::byte_is_first` meets its contract: the byte of every channel before is compared. Assumes nothing.
use mathlib.Core.Path.{◌≡◌}
use Prim.Native.Nat.{◌≤◌}
use Rattle.base.specs.All.{all}
use Rattle.faults.specs.Channels.{byte_differs}
use Rattle.faults.proofs.tests.byte_is_first.Given as goal

abbrev pub invariant-loop-i : goal.invariant-loop-i
invariant-loop-i l = (l.i ≤ l.m) × (l.is_new ≡ all (byte_differs l.b l.byte) l.i)
