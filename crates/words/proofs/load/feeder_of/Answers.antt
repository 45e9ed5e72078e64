use native.Mathlib.Omega.{arith}
use Rattle.layout.proofs.Peeked.{feeder_peeked}
use Rattle.words.proofs.load.feeder_of.Goals as goal

pub returns : goal.returns
returns c = feeder_peeked _ _ c.requires 0 _ (omega arith) c.fields_at.ensures
