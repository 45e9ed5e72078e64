use Rattle.layout.proofs.Peeked.{used_peeked}
use Rattle.words.proofs.load.is_used.Goals as goal

pub returns : goal.returns
returns c = used_peeked _ _ c.requires.0 _ _ c.requires.1 c.fields_at.ensures
