use mathlib.Core.Path.{refl}
use Rattle.checks.proofs.range.places.fed_by.Goals as goal

pub returns : goal.returns
returns c = rw (c.wide.ensures.0, c.is_none.ensures) refl
