-- `mover::move_over` meets its contract: a move from version 1 to 2. Assumes nothing.
use Rattle.archive.proofs.mover.move_over.Goals as goal

pub returns : goal.returns
returns c = c.moved_file.ensures
