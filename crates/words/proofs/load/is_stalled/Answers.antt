use Rattle.layout.proofs.Peeked.{stalled_peeked}
use Rattle.words.proofs.load.is_stalled.Goals as goal

pub returns : goal.returns
returns c = stalled_peeked _ _ c.requires.0 _ _ c.requires.1 c.fields_at.ensures
