use Rattle.layout.proofs.Peeked.{taken_peeked}
use Rattle.words.proofs.load.is_taken.Goals as goal

pub returns : goal.returns
returns c = taken_peeked _ _ c.requires.0 _ _ c.requires.1 c.fields_at-w.ensures
