-- `mover::move_channels` meets its contract: a channel a turn. Assumes nothing.
use mathlib.Core.Path.{◌≡◌}
use Prim.Native.Nat.{◌≤◌}
use lib.ListN.{length}
use Rattle.base.specs.Put.{put}
use Rattle.format.specs.Format.{head_length, channel_bytes, channels_of}
use Rattle.archive.proofs.mover.move_channels.Given as goal

abbrev pub invariant-loop-k : goal.invariant-loop-k
invariant-loop-k l =
    (l.k ≤ l.n)
    × (length l.out ≡ length l.initial.out)
    × (l.out ≡ put l.initial.out (head_length l.to) (channel_bytes l.to (channels_of l.from l.b l.n) l.k))
