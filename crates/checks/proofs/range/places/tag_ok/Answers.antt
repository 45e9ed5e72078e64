use mathlib.Core.Path.{refl}
use Rattle.checks.proofs.range.places.tag_ok.Goals as goal

pub returns : goal.returns
returns c = rw c.is_targets.ensures refl
