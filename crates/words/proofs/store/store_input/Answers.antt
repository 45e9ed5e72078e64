use Rattle.layout.proofs.Storing.{stored_input}
use borrow.Author.Rules.{rules}
use Rattle.words.proofs.store.store_input.Goals as goal

pub returns : goal.returns
returns c =
    rw c.store_place.ensures
    (stored_input _ _ c.requires.0 (search rules) _ _ _ c.requires.1 c.input_word.ensures)
