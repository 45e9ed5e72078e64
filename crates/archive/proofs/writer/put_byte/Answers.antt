-- `writer::put_byte` meets its contract: one store. Assumes nothing.
use mathlib.Core.List.{[], ◌∷◌}
use Rattle.archive.proofs.Put.{put_sets}
use Rattle.archive.proofs.writer.put_byte.Goals as goal

pub returns : goal.returns
returns c = put_sets _ c.args.p (c.args.x ∷ []) c.requires
