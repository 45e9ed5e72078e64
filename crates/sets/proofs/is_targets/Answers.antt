-- `sets::is_targets` meets its contract. Assumes nothing.
use mathlib.Core.Path.{refl}
use Rattle.sets.proofs.is_targets.Goals as goal

pub returns : goal.returns
returns c = rw c.within.ensures refl
