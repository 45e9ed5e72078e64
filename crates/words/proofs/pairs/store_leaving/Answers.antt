use Rattle.layout.proofs.Chains.{then_input}
use borrow.Author.Rules.{rules}
use Rattle.words.proofs.pairs.store_leaving.Goals as goal

pub returns : goal.returns
returns c =
    let store_out_queue = c.store_out_queue in
    then_input _ _ _ _ _ (search rules) store_out_queue.ensures _ _ c.store_input.ensures
