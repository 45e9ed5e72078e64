-- `draws::draw` meets its contract: its shifts and xors are the definition's. Assumes nothing.
use mathlib.Core.Path.{refl}
use Rattle.draws.specs.Draws.{drawn}
use Rattle.draws.proofs.draw.Goals as goal

pub returns : goal.returns
unfolding drawn
returns c = refl
