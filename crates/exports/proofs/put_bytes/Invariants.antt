-- `put_bytes` meets its contract: byte by byte, as many as there are. Assumes nothing.
use mathlib.Core.Path.{◌≡◌}
use Prim.Native.Nat.{◌≤◌}
use lib.ListN.{length}
use Rattle.base.specs.Over.{over}
use Rattle.format.specs.Format.{at}
use Rattle.exports.proofs.put_bytes.Given as goal

abbrev pub invariant-loop-i : goal.invariant-loop-i
invariant-loop-i l = (l.i ≤ length l.bytes) × (length l.out ≡ length l.initial.out) × (l.out ≡ over (at l.bytes) l.i l.initial.out)
