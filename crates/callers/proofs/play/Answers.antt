-- `play`: what `machine::play` ensures. Assumes nothing.
use Rattle.callers.proofs.play.Goals as goal

pub returns : goal.returns
returns c = let p = c.play-played in (p.ensures.0, p.ensures.1)
