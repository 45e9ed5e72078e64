use mathlib.Core.Path.{refl}
use Rattle.checks.proofs.range.places.zero_in_entry.Goals as goal

pub returns : goal.returns
returns c = rw c.is_none.ensures refl
