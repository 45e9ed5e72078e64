-- `mover::move_routes` meets its contract: a route a turn. Assumes nothing.
use mathlib.Core.Path.{◌≡◌}
use Prim.Native.Nat.{◌≤◌}
use lib.ListN.{length}
use Rattle.base.specs.Put.{put}
use Rattle.format.specs.Format.{route_bytes, routes_of}
use Rattle.archive.proofs.mover.move_routes.Given as goal

abbrev pub invariant-loop-k : goal.invariant-loop-k
invariant-loop-k l = (l.k ≤ l.n) × (length l.out ≡ length l.initial.out) × (l.out ≡ put l.initial.out l.q (route_bytes (routes_of l.b l.p l.n) l.k))
