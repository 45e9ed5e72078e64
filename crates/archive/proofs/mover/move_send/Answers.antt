-- `mover::move_send` meets its contract: read as the reader does, put as the writer does. Assumes nothing.
use mathlib.Core.Path.{refl, ◌∙◌}
use Rattle.archive.proofs.mover.move_send.Goals as goal

pub returns : goal.returns
returns c = c.put_send.ensures ∙ rw (c.send_at-send.ensures, c.send_place.ensures, c.send_place-2.ensures) refl
