use Rattle.layout.proofs.Decoded.{in_count_loaded}
use Rattle.words.proofs.load.in_count.Goals as goal

pub returns : goal.returns
returns c = in_count_loaded _ _ c.requires.0 _ _ c.requires.1 c.set_at.ensures
