-- `network::sizes_ok` meets its contract: its comparisons are the definition's. Assumes nothing.
use mathlib.Core.Path.{refl}
use Rattle.checks.proofs.network.sizes_ok.Goals as goal

pub returns : goal.returns
returns c = rw c.sites_in-most.ensures refl
