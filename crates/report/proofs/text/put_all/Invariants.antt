-- `text::put_all` meets its contract: a byte a turn. Assumes nothing.
use mathlib.Core.Path.{◌≡◌}
use Prim.Native.Nat.{◌≤◌}
use lib.ListN.{length}
use lib.Seq.{paste}
use Rattle.report.proofs.text.put_all.Given as goal

abbrev pub invariant-loop-i : goal.invariant-loop-i
invariant-loop-i l = (length l.room ≡ length l.initial.room) × (l.i ≤ length l.bytes) × (l.room ≡ paste l.initial.room l.at l.bytes l.i)
