-- `play_beside`: what `machine::play` ensures; the second room is not handed on. Assumes nothing.
use mathlib.Core.Path.{refl}
use Rattle.callers.proofs.play_beside.Goals as goal

pub returns : goal.returns
returns c = let p = c.play in (p.ensures.0, p.ensures.1, refl)
