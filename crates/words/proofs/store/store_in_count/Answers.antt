use Rattle.layout.proofs.Storing.{stored_in_count}
use borrow.Author.Rules.{rules}
use Rattle.words.proofs.store.store_in_count.Goals as goal

pub returns : goal.returns
returns c = stored_in_count _ _ c.requires.0 (search rules) _ _ c.requires.1
