use Rattle.base.specs.Sizes.{queue_room}
use Rattle.model.specs.Types.{no_in_entry}
use Rattle.layout.specs.Words.{arrived_at}
use Rattle.layout.proofs.Decoded.{in_queue_loaded}
use Rattle.words.proofs.Made.{made_rows}
use borrow.Author.Rules.{rules}
use Rattle.words.proofs.load.load_in_queue.Goals as goal

pub returns : goal.returns
returns c =
    let a = c.args in
    in_queue_loaded _ _ c.requires.0 a.q _ _ c.requires.1
    (made_rows (arrived_at a.words.now a.s a.q) _ no_in_entry _ (λ x b q k. search rules) queue_room c.from_fn.ensures.items) c.in_count.ensures
