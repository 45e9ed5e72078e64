-- `mover::move_back` meets its contract: a move from version 2 to 1. Assumes nothing.
use Rattle.archive.proofs.mover.move_back.Goals as goal

pub returns : goal.returns
returns c = c.moved_file.ensures
