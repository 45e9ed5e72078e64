use Rattle.layout.proofs.Chains.{then_output}
use borrow.Author.Rules.{rules}
use Rattle.words.proofs.pairs.store_local.Goals as goal

pub returns : goal.returns
returns c =
    let store_in_queue = c.store_in_queue in
    then_output _ _ _ _ _ (search rules) store_in_queue.ensures _ _ c.store_output.ensures
