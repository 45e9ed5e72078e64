use Rattle.layout.proofs.Chained.{then_count}
use Rattle.words.proofs.store.store_in_queue.Goals as goal

pub returns : goal.returns
returns c =
    then_count _ _ _ c.args.s c.args.q c.args.queue c.requires.0 c.requires.1 c.store_in_entries.ensures
    c.store_in_count.ensures
