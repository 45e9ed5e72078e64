use Rattle.layout.proofs.Decoded.{out_count_loaded}
use Rattle.words.proofs.load.out_count.Goals as goal

pub returns : goal.returns
returns c = out_count_loaded _ _ c.requires _ c.set_at.ensures
