use Rattle.layout.proofs.Storing.{stored_leaving}
use borrow.Author.Rules.{rules}
use Rattle.words.proofs.store.store_out_entry.Goals as goal

pub returns : goal.returns
returns c =
    rw c.store_place.ensures
    (stored_leaving _ _ c.requires.0 (search rules) _ _ _ c.requires.1 c.out_entry_word.ensures)
