-- `reader::read_routes` meets its contract: the array is filled from the front. Assumes nothing.
use mathlib.Core.Path.{◌≡◌}
use Prim.Native.Nat.{◌≤◌}
use Rattle.format.specs.Format.{routes_of}
use Rattle.archive.proofs.reader.read_routes.Given as goal

abbrev pub invariant-loop-k : goal.invariant-loop-k
invariant-loop-k l = (l.k ≤ l.n) × (l.routes ≡ routes_of l.b l.p l.k)
