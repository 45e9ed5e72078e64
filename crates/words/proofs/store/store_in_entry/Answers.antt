use Rattle.layout.proofs.Storing.{stored_arrived}
use borrow.Author.Rules.{rules}
use Rattle.words.proofs.store.store_in_entry.Goals as goal

pub returns : goal.returns
returns c =
    rw c.store_place.ensures
    (stored_arrived _ _ c.requires.0 (search rules) _ _ _ _ c.requires.1 c.requires.2 c.in_entry_word.ensures)
