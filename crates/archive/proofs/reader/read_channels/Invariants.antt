-- `reader::read_channels` meets its contract: the array is filled from the front. Assumes nothing.
use mathlib.Core.Path.{◌≡◌}
use Prim.Native.Nat.{◌≤◌}
use Rattle.format.specs.Format.{channels_of}
use Rattle.archive.proofs.reader.read_channels.Given as goal

abbrev pub invariant-loop-c : goal.invariant-loop-c
invariant-loop-c l = (l.c ≤ l.n) × (l.channels ≡ channels_of l.version l.b l.c)
