-- `mover::move_sends` meets its contract: a send a turn. Assumes nothing.
use mathlib.Core.Path.{◌≡◌}
use Prim.Native.Nat.{◌≤◌}
use lib.ListN.{length}
use Rattle.base.specs.Put.{put}
use Rattle.format.specs.Format.{sends_bytes, sends_of, sends_place}
use Rattle.archive.proofs.mover.move_sends.Given as goal

abbrev pub invariant-loop-k : goal.invariant-loop-k
invariant-loop-k l =
    (l.k ≤ l.n)
    × (length l.out ≡ length l.initial.out)
    × (l.out ≡ put l.initial.out (sends_place l.to l.sites) (sends_bytes l.to (sends_of l.from l.b (sends_place l.from l.sites) l.n) l.k))
