use mathlib.Core.Path.{refl}
use Rattle.checks.proofs.range.places.zero_input.Goals as goal

pub returns : goal.returns
returns c = rw (c.any_mark.ensures, c.is_free.ensures) refl
