-- `search::first_in_row` meets its contract: every route of the row is tested, up to the first that fails. Assumes
-- nothing.
use mathlib.Core.Path.{◌≡◌}
use mathlib.Core.Bool.{true}
use Prim.Native.Nat.{◌≤◌}
use Rattle.base.specs.All.{all}
use Rattle.model.specs.Network.{route_ok}
use Rattle.format.specs.Format.{network_of}
use Rattle.faults.proofs.search.first_in_row.Given as goal

abbrev pub invariant-loop-t : goal.invariant-loop-t
invariant-loop-t l = (l.t ≤ l.sites) × (all (route_ok (network_of l.b) l.s) l.t ≡ true)
