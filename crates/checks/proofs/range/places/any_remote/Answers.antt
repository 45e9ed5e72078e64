use mathlib.Core.Path.{refl}
use Rattle.base.specs.All.{any}
use Rattle.checks.proofs.range.places.any_remote.Goals as goal

pub returns : goal.returns
unfolding any
returns c = refl
