-- `apart::ends_at` meets its contract: there is a channel, and the site at its end is u. Assumes nothing.
use mathlib.Core.Path.{refl}
use Rattle.checks.proofs.apart.ends_at.Goals as goal

pub returns : goal.returns
returns c = rw c.wider-end.ensures.0 refl
