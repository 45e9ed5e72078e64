-- `apart::far_apart` meets its contract: neither site leads to the other, and they are two. Assumes nothing.
use mathlib.Core.Path.{refl}
use Rattle.model.specs.Apart.{far_apart}
use Rattle.checks.proofs.apart.far_apart.Goals as goal

pub returns : goal.returns
unfolding far_apart
returns c = rw (c.leads-back.ensures, c.leads-there.ensures) refl
