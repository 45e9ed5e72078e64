-- `writer::put_word` meets its contract: two stores. Assumes nothing.
use lib.ListN.{length-set}
use native.Mathlib.Omega.{arith}
use Rattle.archive.proofs.Put.{put_two}
use Rattle.archive.proofs.writer.put_word.Goals as goal

pub bounds-out-p-2 : goal.bounds-out-p-2
bounds-out-p-2 c = simp length-set (omega arith)

pub returns : goal.returns
returns c = put_two _ _ _ _ c.requires
