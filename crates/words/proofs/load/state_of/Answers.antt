use Rattle.layout.proofs.Peeked.{state_peeked}
use Rattle.words.proofs.load.state_of.Goals as goal

pub returns : goal.returns
returns c = state_peeked _ _ c.requires.0 _ _ c.requires.1 c.fields_at.ensures
