use Rattle.layout.proofs.Chains.{then_input}
use borrow.Author.Rules.{rules}
use Rattle.words.proofs.pairs.store_both.Goals as goal

pub returns : goal.returns
returns c =
    let store_marked = c.store_marked in
    then_input _ _ _ _ _ (search rules) store_marked.ensures _ _ c.store_input.ensures
