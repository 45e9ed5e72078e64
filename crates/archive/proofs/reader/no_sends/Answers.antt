-- `reader::no_sends` meets its contract: both places of the pair hold the empty send. Assumes nothing.
use mathlib.Core.Path.{ap}
use Prim.Native.Nat.{◌%◌}
use lib.ListN.{replicate}
use Rattle.base.specs.Sizes.{sends_most}
use Rattle.base.specs.Lists.{same_at}
use Rattle.model.specs.Types.{send_d}
use Rattle.archive.proofs.reader.no_sends.Goals as goal

pub returns : goal.returns
returns c = ap (replicate sends_most) (same_at 2 (c.args.k % 2) send_d)
