-- `network::ports_of` meets its contract: the flags are those of the site's channels. Assumes nothing.
use mathlib.Core.Path.{◌∙◌, refl}
use native.Mathlib.Nat.{add-zero}
use Rattle.checks.proofs.network.ports_of.Goals as goal

pub returns : goal.returns
returns c = c.ports_by.ensures ∙ rw add-zero refl
