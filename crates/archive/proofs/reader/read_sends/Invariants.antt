-- `reader::read_sends` meets its contract: the array is filled from the front. Assumes nothing.
use mathlib.Core.Path.{◌≡◌}
use Prim.Native.Nat.{◌≤◌}
use Rattle.format.specs.Format.{sends_place, sends_of}
use Rattle.archive.proofs.reader.read_sends.Given as goal

abbrev pub invariant-loop-k : goal.invariant-loop-k
invariant-loop-k l = (l.k ≤ l.n) × (l.sends ≡ sends_of l.version l.b (sends_place l.version l.sites) l.k)
