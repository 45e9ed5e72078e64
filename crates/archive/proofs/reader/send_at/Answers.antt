-- `reader::send_at` meets its contract: its parts are the definition's. Assumes nothing.
use mathlib.Core.Path.{refl}
use Rattle.archive.proofs.reader.send_at.Goals as goal

pub returns : goal.returns
returns c = rw (c.set_at.ensures, c.word.ensures) refl
