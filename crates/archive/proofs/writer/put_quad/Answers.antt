-- `writer::put_quad` meets its contract: four stores. Assumes nothing.
use lib.ListN.{length-set}
use native.Mathlib.Omega.{arith}
use Rattle.archive.proofs.Put.{put_four}
use Rattle.archive.proofs.writer.put_quad.Goals as goal

pub bounds-out-p-2 : goal.bounds-out-p-2
bounds-out-p-2 c = simp length-set (omega arith)

pub bounds-out-p-3 : goal.bounds-out-p-3
bounds-out-p-3 c = simp length-set (omega arith)

pub bounds-out-p-4 : goal.bounds-out-p-4
bounds-out-p-4 c = simp length-set (omega arith)

pub returns : goal.returns
returns c = put_four _ _ _ _ _ _ c.requires
