-- `mover::move_route` meets its contract. Assumes nothing.
use mathlib.Core.Path.{refl, ◌∙◌}
use Rattle.archive.proofs.mover.move_route.Goals as goal

pub returns : goal.returns
returns c = c.put_word.ensures ∙ rw c.from.ensures (rw c.word.ensures refl)
