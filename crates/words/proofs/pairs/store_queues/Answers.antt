use Rattle.layout.proofs.Chains.{then_out_queue}
use borrow.Author.Rules.{rules}
use Rattle.words.proofs.pairs.store_queues.Goals as goal

pub returns : goal.returns
returns c =
    let store_in_queue = c.store_in_queue in
    then_out_queue _ _ _ _ _ (search rules) store_in_queue.ensures _ c.store_out_queue.ensures
