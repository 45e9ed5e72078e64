use Rattle.base.specs.Sizes.{in_queue_count}
use Rattle.model.specs.Types.{site_at, queue_at, no_in_queue}
use Rattle.layout.specs.Words.{sites_of}
use Rattle.layout.proofs.Decoded.{in_queues_loaded}
use Rattle.words.proofs.Made.{made_rows}
use borrow.Author.Rules.{rules}
use Rattle.words.proofs.load.load_in_queues.Goals as goal

pub returns : goal.returns
returns c =
    let a = c.args in
    in_queues_loaded _ _ c.requires _
    (made_rows (queue_at (site_at (sites_of a.words.now) a.s)) _ no_in_queue _ (λ x b q k. search rules) in_queue_count c.from_fn.ensures.items)
