-- `run`: what `machine::run` ensures. Assumes nothing.
use Rattle.callers.proofs.run.Goals as goal

pub returns : goal.returns
returns c = c.run-after.ensures
