use mathlib.Core.Path.{refl}
use Rattle.checks.proofs.range.places.closing_ok.Goals as goal

pub returns : goal.returns
returns c = rw (c.is_none.ensures, c.is_restricted.ensures) refl
