use Rattle.layout.proofs.Storing.{stored_output}
use borrow.Author.Rules.{rules}
use Rattle.words.proofs.store.store_output.Goals as goal

pub returns : goal.returns
returns c =
    rw c.store_place.ensures
    (stored_output _ _ c.requires.0 (search rules) _ _ _ c.requires.1 c.output_word.ensures)
