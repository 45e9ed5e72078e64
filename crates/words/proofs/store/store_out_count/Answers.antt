use Rattle.layout.proofs.Storing.{stored_out_count}
use borrow.Author.Rules.{rules}
use Rattle.words.proofs.store.store_out_count.Goals as goal

pub returns : goal.returns
returns c = stored_out_count _ _ c.requires (search rules) _
