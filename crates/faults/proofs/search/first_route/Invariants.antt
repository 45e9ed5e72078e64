-- `search::first_route` meets its contract: row by row is route by route. Assumes nothing.
use Rattle.std.proofs.Common.{◌≡◌, ◌≤◌, true}
use Rattle.base.specs.All.{all}
use Rattle.model.specs.Network.{route_ok}
use Rattle.format.specs.Format.{network_of}
use Rattle.faults.proofs.search.first_route.Given as goal

abbrev pub invariant-loop-s : goal.invariant-loop-s
invariant-loop-s l = (l.s ≤ l.sites) × (all (λ k. all (route_ok (network_of l.b) k) l.sites) l.s ≡ true)
