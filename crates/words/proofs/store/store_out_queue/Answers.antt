use Rattle.layout.specs.Stored.{leaving_count}
use Rattle.layout.proofs.Chained.{then_own}
use Rattle.words.proofs.store.store_out_queue.Goals as goal

pub returns : goal.returns
returns c =
    then_own _ _ _ c.args.s _ (λ x. leaving_count x c.args.queue.count) c.requires c.store_out_entries.ensures
    c.store_out_count.ensures
