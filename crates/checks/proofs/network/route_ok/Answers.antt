-- `network::route_ok` meets its contract: its tests are the definition's, spelled out for four digits. Assumes nothing.
use mathlib.Core.Path.{refl}
use mathlib.Core.Bool.{or-true}
use Rattle.base.specs.All.{all}
use Rattle.checks.specs.Network.{route_by}
use Rattle.checks.proofs.network.route_ok.Goals as goal

pub returns : goal.returns
unfolding route_by all
returns c = rw c.from-w.ensures (rw or-true refl)
