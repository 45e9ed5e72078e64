-- `writer::put_channels` meets its contract: a channel a turn. Assumes nothing.
use mathlib.Core.Path.{◌≡◌}
use Prim.Native.Nat.{◌≤◌}
use lib.ListN.{length}
use Rattle.base.specs.Put.{put}
use Rattle.format.specs.Format.{head_length, channel_bytes}
use Rattle.archive.proofs.writer.put_channels.Given as goal

abbrev pub invariant-loop-k : goal.invariant-loop-k
invariant-loop-k l =
    (l.k ≤ l.n)
    × (length l.out ≡ length l.initial.out)
    × (l.out ≡ put l.initial.out (head_length l.version) (channel_bytes l.version l.channels l.k))
